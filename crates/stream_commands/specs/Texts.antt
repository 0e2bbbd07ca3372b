-- What is written where nothing of an input is read (own).
use Rattle.std.specs.Prelude.{◌≡◌, ℕ, List, Option, Some}
use Rattle.io_edge.specs.Edge.{Appends, AppendsPrefix}
use Rattle.tuple_values.specs.Document.{ByteList}

-- of an input, which was told to have these bytes, nothing is read, and this text is written
abbrev pub IsTold : ByteList → List ℕ → Option (List ℕ) → Option (List ℕ) → Option (List ℕ)
    → Type 0
IsTold text all left old new = (left ≡ Some all) × Appends old new text

-- of such an input nothing is read, and a first part of this text is written
abbrev pub IsToldInPart : ByteList → List ℕ → Option (List ℕ) → Option (List ℕ)
    → Option (List ℕ) → Type 0
IsToldInPart text all left old new = (left ≡ Some all) × AppendsPrefix old new text

-- of such an input nothing is read, and some text is written, which words ask for
abbrev pub IsShown : List ℕ → Option (List ℕ) → Option (List ℕ) → Option (List ℕ) → Type 0
IsShown all left old new = (left ≡ Some all) × ((text : ByteList) × Appends old new text)

-- of such an input nothing is read, and a first part of some text is written
abbrev pub IsShownInPart : List ℕ → Option (List ℕ) → Option (List ℕ) → Option (List ℕ) → Type 0
IsShownInPart all left old new =
    (left ≡ Some all) × ((text : ByteList) × AppendsPrefix old new text)
