-- What is read of an input (own).
use Rattle.std.specs.Prelude.{◌≡◌, ℕ, ◌≤◌, List, length, take, drop, Option, Some, None}

-- the greatest number of bytes that is read: one more than an expression may have
unfoldable pub limit : ℕ
limit = 65537

-- these bytes were taken from the front of what was left, where the source tells what is left
abbrev pub HasTaken : Option (List ℕ) → Option (List ℕ) → List ℕ → Type 0
HasTaken None new bytes = new ≡ None
HasTaken (Some all) new bytes =
    (length bytes ≤ length all) × (bytes ≡ take (length bytes) all)
    × (new ≡ Some (drop (length bytes) all))

-- the input was read to its end, or to the limit
abbrev pub IsReadOut : List ℕ → Option (List ℕ) → Type 0
IsReadOut all left = left ≡ Some (drop limit all)

-- no more than so many bytes of the input were taken
abbrev pub IsReadWithin : List ℕ → Option (List ℕ) → Type 0
IsReadWithin all left =
    (bytes : List ℕ) × HasTaken (Some all) left bytes × (length bytes ≤ limit)

-- the bytes are all that the source had left, or the first of them, where it tells, and no more were
-- taken
abbrev pub IsInput : Option (List ℕ) → Option (List ℕ) → List ℕ → Type 0
IsInput None left bytes = Unit {0}
IsInput (Some all) left bytes = (bytes ≡ take limit all) × IsReadOut all left
