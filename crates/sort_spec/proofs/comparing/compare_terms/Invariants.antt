use Rattle.std.proofs.Common.{◌≡◌, drop}
use Rattle.sort_spec.specs.Terms.{sort_cmp}
use Rattle.sort_spec.proofs.comparing.compare_terms.Given as goal

-- the terms so far tell no difference
abbrev pub invariant-loop-term : goal.invariant-loop-term
invariant-loop-term l =
    sort_cmp l.terms l.a l.b ≡ sort_cmp (drop l.term-index l.terms) l.a l.b
