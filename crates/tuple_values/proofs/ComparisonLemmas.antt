-- The turns and the ends of the loops that compare.
use Rattle.std.proofs.Common.{◌≡◌, ℕ, zero, suc, ◌<◌, ◌≤◌, List, [], ◌∷◌, length, drop, refl, ◌∙◌, arith}
use Rattle.std.specs.Ordering.{nat_cmp}
use Rattle.std.proofs.lemmas.Bool.Decides.{nat_tests}
use Rattle.tuple_values.specs.Document.{Doc, rows_of, fields_of}
use Rattle.tuple_values.specs.Order.{rows_cmp, fields_cmp}
use Rattle.tuple_values.specs.Views.{doc_of}
use Rattle.tuple_values.specs.declared.value.Field.{Field}

up : (m n : ℕ) → nat_cmp (suc m) (suc n) ≡ nat_cmp m n
up m n = grind (arith, nat_tests)

pub rows_ended : (as_ bs : List Doc) (k : ℕ) → k ≤ length as_ → k ≤ length bs → (k < length as_ → length bs ≤ k) → nat_cmp (length as_) (length bs) ≡ rows_cmp (rows_of (drop k as_)) (rows_of (drop k bs))
rows_ended [] [] zero p q done = refl
rows_ended [] (g ∷ bs) zero p q done = grind (arith, nat_tests)
rows_ended (f ∷ as_) [] zero p q done = grind (arith, nat_tests)
rows_ended (f ∷ as_) (g ∷ bs) zero p q done = absurd (omega (arith, done (omega arith)))
rows_ended [] bs (suc k) p q done = absurd (omega arith)
rows_ended (f ∷ as_) [] (suc k) p q done = absurd (omega arith)
rows_ended (f ∷ as_) (g ∷ bs) (suc k) p q done = up (length as_) (length bs) ∙ rows_ended as_ bs k (omega arith) (omega arith) (λ lt. omega (arith, done (omega arith)))

pub fields_ended : (as_ bs : List Field) (k : ℕ) → k ≤ length as_ → k ≤ length bs → (k < length as_ → length bs ≤ k) → nat_cmp (length as_) (length bs) ≡ fields_cmp (fields_of (doc_of (drop k as_))) (fields_of (doc_of (drop k bs)))
fields_ended [] [] zero p q done = refl
fields_ended [] (g ∷ bs) zero p q done = grind (arith, nat_tests)
fields_ended (f ∷ as_) [] zero p q done = grind (arith, nat_tests)
fields_ended (f ∷ as_) (g ∷ bs) zero p q done = absurd (omega (arith, done (omega arith)))
fields_ended [] bs (suc k) p q done = absurd (omega arith)
fields_ended (f ∷ as_) [] (suc k) p q done = absurd (omega arith)
fields_ended (f ∷ as_) (g ∷ bs) (suc k) p q done = up (length as_) (length bs) ∙ fields_ended as_ bs k (omega arith) (omega arith) (λ lt. omega (arith, done (omega arith)))
