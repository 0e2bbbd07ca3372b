-- What the texts of sorts, of pairs and of names share: items between commas with blanks round
-- them, and the places of their faults (own).
use Rattle.std.specs.Prelude.{◌≡◌, ◌≢◌, ℕ, ◌+◌, ◌<◌, ◌≤◌, length, take, List, [], ◌∷◌, ◌++◌}
use Rattle.std.specs.Prelude.{Bool, true, not, ◌||◌, ◌==◌}
use Rattle.std.specs.List.{AllByRecursion, join_with_byte}
use Rattle.tuple_values.specs.Document.{ByteList}

-- space, tab, line feed, carriage return
abbrev pub is_blank : ℕ → Bool
is_blank b = b == 32 || b == 9 || b == 10 || b == 13

-- a byte of a field: neither a blank nor a comma
abbrev pub is_field_byte : ℕ → Bool
is_field_byte b = not (is_blank b || b == 44)

-- a byte of a name in a pair: no equals sign either
abbrev pub is_side_byte : ℕ → Bool
is_side_byte b = not (is_blank b || b == 44 || b == 61)

-- each byte passes the test
abbrev pub AreAll : (ℕ → Bool) → ByteList → Type 0
AreAll test bytes = AllByRecursion (λ b. test b ≡ true) bytes

-- each passes, and there is one at least
abbrev pub AreSome : (ℕ → Bool) → ByteList → Type 0
AreSome test bytes = (bytes ≢ []) × AreAll test bytes

-- each piece says the value in its place
abbrev pub Say : {V : Type 0} → (ByteList → V → Type 0) → List ByteList → List V → Type 0
Say IsItem [] [] = Unit {0}
Say IsItem [] (value ∷ values) = ⊥
Say IsItem (piece ∷ pieces) [] = ⊥
Say IsItem (piece ∷ pieces) (value ∷ values) = IsItem piece value × Say IsItem pieces values

-- the bytes are items, at least one, with a comma between each and the next
pub record IsList {V : Type 0} (IsItem : ByteList → V → Type 0) (bytes : ByteList)
    (values : List V) : Type 0 where
  pub pieces : List ByteList
  pub some : pieces ≢ []
  pub printed : bytes ≡ join_with_byte 44 pieces
  pub say : Say IsItem pieces values

-- the bytes say something
abbrev pub IsReadable : {V : Type 0} → (ByteList → V → Type 0) → ByteList → Type 0
IsReadable {V} Says bytes = (value : V) × Says bytes value

-- some text that says something begins so
abbrev pub GoesOn : {V : Type 0} → (ByteList → V → Type 0) → ByteList → Type 0
GoesOn {V} Says front = (more : ByteList) × (value : V) × Says (front ++ more) value

-- the length of the longest front with which some such text begins
pub record IsPlace {V : Type 0} (Says : ByteList → V → Type 0) (bytes : ByteList)
    (at : ℕ) : Type 0 where
  pub within : at ≤ length bytes
  pub front : GoesOn Says (take at bytes)
  pub longest : at < length bytes → ¬ (GoesOn Says (take (at + 1) bytes))
