use Rattle.std.proofs.Common.{◌≡◌, ◌++◌, drop}
use Rattle.merge_join.specs.Keys.{terms_of}
use Rattle.merge_join.proofs.term.terms_of.Given as goal

-- the pairs that are left come behind those so far
abbrev pub invariant-loop-k : goal.invariant-loop-k
invariant-loop-k l =
    terms_of l.on l.order ≡ l.terms.items ++ terms_of (drop l.k l.on) (drop l.k l.order)
