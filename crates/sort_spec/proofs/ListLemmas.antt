-- The reading of a list, as the code goes from comma to comma.
use Rattle.std.proofs.Common.{◌≡◌, ℕ, ◌+◌, List, [], ◌∷◌, ◌++◌, length, Option, Some, None, Bor}
use Rattle.std.proofs.Common.{Bool, true, false, not, ◌==◌, refl, sym, ◌∙◌, ap, subst, arith, lit<}
use Rattle.std.proofs.Common.{Err}
use Rattle.std.proofs.Common.{append_assoc, add_assoc}
use Rattle.std.specs.List.{after_first, All}
use Rattle.std.proofs.lemmas.Grind.{common_steps}
use Rattle.std.proofs.lemmas.List.Splits.{slice_split_first, slice_split_none}
use Rattle.std.proofs.lemmas.List.Sums.{prefix_len_passes}
use Rattle.std.proofs.lemmas.Str.Pattern.{IsSplitOnceResult, split_once_first}
use Rattle.tuple_values.specs.Document.{ByteList}
use Rattle.sort_spec.specs.Fault.{Answers}
use Rattle.sort_spec.specs.Reading.{Reading, said, stuck, behind, mapped, joined, pieces_read}
use Rattle.sort_spec.specs.Reading.{listed}
use Rattle.sort_spec.specs.declared.fault.SortFault.{SortFault}
use Rattle.sort_spec.specs.declared.fault.SortFault.TheVariants.{BadSort, OutOfMemory}

-- the test of a comma
abbrev is_comma : ℕ → Bool
is_comma b = b == 44

-- a byte that fails the other test passes
not_other : (t : Bool) → not t ≡ true → t ≡ false
not_other true is = absurd (cc)
not_other false is = refl

module _ {V : Type 0} (item : ByteList → Reading V) (text : ByteList)
    (parts : Option (Bor ByteList × Bor ByteList)) (split : IsSplitOnceResult 44 text parts) where
  -- a comma ends the first item
  pub listed_more : (x : Bor ByteList × Bor ByteList) → parts ≡ Some x
      → listed item text ≡ joined (item x.0.now) (length x.0.now + 1) (listed item x.1.now)
  listed_more x is =
      let (inside, front, back) = rw is at (split_once_first 44 text parts split (lit< tt)) in
      ap (pieces_read item) (slice_split_first is_comma text 0 inside)
      ∙ ap (λ piece.
      joined (item piece) (length piece + 1) (listed item (after_first is_comma text)))
      (sym front)
      ∙ ap (λ more. joined (item x.0.now) (length x.0.now + 1) (listed item more)) (sym back)

  -- the rest begins behind it
  pub length_more : (x : Bor ByteList × Bor ByteList) → parts ≡ Some x
      → (length x.0.now + 1) + length x.1.now ≡ length text
  length_more x is =
      let (inside, front, back) = rw is at (split_once_first 44 text parts split (lit< tt)) in
      grind (arith, common_steps)

  -- where there is none the whole is the one item
  pub listed_last : parts ≡ None
      → listed item text ≡ joined (item text) (length text + 1) (said [])
  listed_last is =
      let none = rw is at (split_once_first 44 text parts split (lit< tt)) in
      let all : All (λ b. is_comma b ≡ false) text =
      λ k d lt.
      not_other (is_comma _)
      (prefix_len_passes (λ b. not (is_comma b)) text k d (omega (arith, none))) in
      ap (pieces_read item) (slice_split_none is_comma text all)

-- an item refused is the list refused
item_refused : {V : Type 0} (items : List V) (at n : ℕ) (reading : Reading V)
    (rest : Reading (List V)) (fault : SortFault) → Answers (behind at reading) (Err fault)
    → Answers (behind at (mapped (λ values. items ++ values) (joined reading n rest))) (Err fault)
item_refused items at n reading rest OutOfMemory is = tt
item_refused items at n (said value) rest (BadSort place) is = absurd (cc)
item_refused items at n (stuck stop) rest (BadSort place) is =
    let same : at + stop ≡ place = cc in ap stuck same

-- also where the list is read as another reading
pub list_refused : {V : Type 0} (whole : Reading (List V)) (items : List V) (at n : ℕ)
    (reading : Reading V) (rest : Reading (List V)) (fault : SortFault)
    → whole ≡ behind at (mapped (λ values. items ++ values) (joined reading n rest))
    → Answers (behind at reading) (Err fault) → Answers whole (Err fault)
list_refused whole items at n reading rest fault is refusal =
    let P : Reading (List _) → Type 0 = λ r. Answers r (Err fault) in
    subst P (sym is) (item_refused items at n reading rest fault refusal)

-- an item read is one more
pub list_more : {V : Type 0} (items : List V) (at n : ℕ) (reading : Reading V)
    (rest : Reading (List V)) (value : V) → behind at reading ≡ said value
    → behind at (mapped (λ values. items ++ values) (joined reading n rest))
    ≡ behind (at + n) (mapped (λ values. (items ++ value ∷ []) ++ values) rest)
list_more items at n (stuck stop) rest value is = absurd (cc)
list_more items at n (said other) (said values) value is =
    let same : other ≡ value = cc in
    ap (λ v. said (items ++ v ∷ values)) same
    ∙ ap said (sym (append_assoc items (value ∷ []) values))
list_more items at n (said other) (stuck stop) value is = ap stuck (sym (add_assoc at n stop))

-- and the last one is the end
pub list_end : {V : Type 0} (items : List V) (at n : ℕ) (reading : Reading V) (value : V)
    → behind at reading ≡ said value
    → behind at (mapped (λ values. items ++ values) (joined reading n (said [])))
    ≡ said (items ++ value ∷ [])
list_end items at n (stuck stop) value is = absurd (cc)
list_end items at n (said other) value is =
    let same : other ≡ value = cc in ap (λ v. said (items ++ v ∷ [])) same
