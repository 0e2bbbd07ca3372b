-- How numbers, texts and lists are spelled, and what it is to read a spelling back (own).
use Rattle.std.specs.Prelude.{ℕ, ◌^◌, ◌<◌, ◌≡◌, ◌≢◌, List, ◌++◌, length}
use Rattle.std.specs.Int.{w64, to_be_bytes}
use Rattle.std.specs.Str.{IsUtf8}
use Rattle.std.specs.List.{flat_map, AllByRecursion}
use Rattle.tuple_values.specs.Document.{ByteList}

-- a number in eight bytes, greatest first
abbrev pub spelled_number : ℕ → ByteList
spelled_number number = to_be_bytes w64 number

-- a number that eight bytes hold
abbrev pub IsNumber : ℕ → Type 0
IsNumber number = number < 2 ^ 64

-- a text behind its length
abbrev pub spelled_text : ByteList → ByteList
spelled_text bytes = spelled_number (length bytes) ++ bytes

-- the bytes are a text whose length is a number
pub record IsText (bytes : ByteList) : Type 0 where
  pub utf8 : IsUtf8 bytes
  pub low : length bytes < 2 ^ 64

-- items, one after another, behind their number
abbrev pub spelled_list : {X : Type 0} → (X → ByteList) → List X → ByteList
spelled_list spelled items = spelled_number (length items) ++ flat_map spelled items

-- so many items, each of which fits
pub record AreSoMany {X : Type 0} (Fits : X → Type 0) (count : ℕ) (items : List X) : Type 0 where
  pub many : length items ≡ count
  pub each : AllByRecursion Fits items

-- items of which there is a number, and each of which fits
pub record AreCounted {X : Type 0} (Fits : X → Type 0) (items : List X) : Type 0 where
  pub counted : length items < 2 ^ 64
  pub each : AllByRecursion Fits items

-- a value that fits is spelled at the front of the bytes, and the rest follows it
pub record IsAtFront {X : Type 0} (Fits : X → Type 0) (spelled : X → ByteList)
    (bytes : ByteList) (value : X) (rest : ByteList) : Type 0 where
  pub is : bytes ≡ spelled value ++ rest
  pub fits : Fits value

-- no value that fits is spelled at the front of the bytes
abbrev pub HasNone : {X : Type 0} → (X → Type 0) → (X → ByteList) → ByteList → Type 0
HasNone {X} Fits spelled bytes =
    (value : X) (rest : ByteList) → Fits value → bytes ≢ spelled value ++ rest

-- two values that fit and are spelled at one front are one, and leave the same rest
abbrev pub IsReadInOneWay : {X : Type 0} → (X → Type 0) → (X → ByteList) → Type 0
IsReadInOneWay {X} Fits spelled =
    (a b : X) (after_a after_b : ByteList) → Fits a → Fits b
    → spelled a ++ after_a ≡ spelled b ++ after_b → (a ≡ b) × (after_a ≡ after_b)
