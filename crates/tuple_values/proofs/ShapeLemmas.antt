-- Where a name goes among fields in order, by the fields beside the place.
use Rattle.std.proofs.Common.{◌≡◌, ℕ, zero, suc, ◌+◌, ◌<◌, ◌≤◌, List, [], ◌∷◌}
use Rattle.std.proofs.Common.{length, get_or, arith}
use Rattle.std.specs.declared.cmp.Ordering.TheVariants.{Less}
use Rattle.tuple_values.specs.Document.{ByteList, bytes_cmp, Rises, IsGap}
use Rattle.tuple_values.specs.Views.{doc_of}
use Rattle.tuple_values.specs.declared.value.Field.{Field}
use Rattle.tuple_values.proofs.BytesLemmas.{less_trans}
use Rattle.tuple_values.proofs.DocumentLemmas.{below_more}

-- a name above the field before a place and below the one at it goes to the place
pub gap_beside : (name : ByteList) (fields : List Field) (place : ℕ)
    → Rises (doc_of fields) → place ≤ length fields
    → ((before : ℕ) (d : Field) → place ≡ before + 1
    → bytes_cmp (get_or fields before d).name name ≡ Less)
    → ((d : Field) → place < length fields → bytes_cmp name (get_or fields place d).name ≡ Less)
    → IsGap name place (doc_of fields)
gap_beside name [] zero rises within above below = tt
gap_beside name (f ∷ fields) zero rises within above below =
    let less = below f (omega arith) in
    (less, below_more name f.name (doc_of fields) less rises.0)
gap_beside name [] (suc place) rises within above below = absurd (omega arith)
gap_beside name (f ∷ fields) (suc zero) rises within above below = (
  above zero f (omega arith),
  gap_beside name fields zero rises.1 (omega arith)
      (λ before d is. absurd (omega arith)) (λ d more. below d (omega arith)),
)
gap_beside name (f ∷ []) (suc (suc place)) rises within above below = absurd (omega arith)
gap_beside name (f ∷ g ∷ fields) (suc (suc place)) rises within above below =
    let later = gap_beside name (g ∷ fields) (suc place) rises.1 (omega arith)
    (λ before d is. above (suc before) d (omega arith)) (λ d more. below d (omega arith)) in
    (less_trans f.name g.name name rises.0.0 later.0, later)
