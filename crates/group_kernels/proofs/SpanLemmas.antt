-- One more element of runs that go on.
use Rattle.std.proofs.Common.{◌≡◌, List, [], ◌∷◌, ◌++◌, length, Bool, true, false, refl}
use Rattle.std.proofs.Common.{None, arith}
use Rattle.tuple_values.specs.Document.{ByteList, Doc}
use Rattle.sort_spec.specs.Terms.{less}
use Rattle.sort_spec.proofs.TermLemmas.{less_is_weak}
use Rattle.expr_types.specs.Groups.{same_key, firsts, groups}
use Rattle.expr_types.specs.Orders.{IsSortedOver}
use Rattle.expr_types.proofs.OrderLemmas.{same_key-ties, ascends_by_first}
use Rattle.kernel_laws.proofs.RestLemmas.{rest_at-put_front, length-put_front}
use Rattle.group_kernels.specs.Runs.{heads, spans, is_next}
use Rattle.group_kernels.proofs.RunLemmas.{heads-firsts, spans-groups}

-- it belongs to the run
pub spans-next : {X : Type 0} (same : X → X → Bool) (run : List X) (x : X) (xs : List X)
    → is_next same run x ≡ true → spans same run (x ∷ xs) ≡ spans same (run ++ x ∷ []) xs
spans-next same [] x xs e = refl
spans-next same (first ∷ run) x xs e = rw e refl

-- or begins the next
pub spans-other : {X : Type 0} (same : X → X → Bool) (run : List X) (x : X) (xs : List X)
    → is_next same run x ≡ false → spans same run (x ∷ xs) ≡ run ∷ spans same (x ∷ []) xs
spans-other same [] x xs e = absurd (cc)
spans-other same (first ∷ run) x xs e = rw e refl

-- a run that goes on at the end is one
pub spans-last : {X : Type 0} (same : X → X → Bool) (run : List X)
    → (length run ≡ 0 → ⊥) → spans same run [] ≡ run ∷ []
spans-last same [] n = absurd (n refl)
spans-last same (first ∷ run) n = refl

-- and where none does there is no more
pub spans-none : {X : Type 0} (same : X → X → Bool) (run : List X)
    → length run ≡ 0 → spans same run [] ≡ []
spans-none same [] n = refl
spans-none same (first ∷ run) n = absurd (omega arith)

-- on documents that are sorted by the fields of a key the heads of runs are the firsts
pub heads-sorted : (names : List ByteList) (docs : List Doc) → IsSortedOver names docs
    → heads (same_key names) None docs ≡ firsts (same_key names) docs
heads-sorted names docs s =
    heads-firsts (less s.terms) (less_is_weak s.terms) (same_key names)
    (same_key-ties names s.terms s.named) docs (ascends_by_first s.terms s.more docs s.ascends)

-- and the runs are the groups
pub spans-sorted : (names : List ByteList) (docs : List Doc) → IsSortedOver names docs
    → spans (same_key names) [] docs ≡ groups (same_key names) docs
spans-sorted names docs s =
    spans-groups (less s.terms) (less_is_weak s.terms) (same_key names)
    (same_key-ties names s.terms s.named) docs (ascends_by_first s.terms s.more docs s.ascends)

-- what a function that is fed needs
pub ruleset feed_steps = (spans-next, spans-other, rest_at-put_front, length-put_front)

-- what the start of a kernel needs
pub ruleset make_steps = (heads-sorted, spans-sorted)
