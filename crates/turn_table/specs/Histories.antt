-- Histories of several cells, as lists of entries (own).
use Rattle.std.specs.Prelude.{ℕ, ◌≡◌, List, [], ◌∷◌, ◌++◌, All, length, slice_index_or, slice_set}

-- the history of this cell, and no entry past the last cell
abbrev pub at : {E : Type 0} → List (List E) → ℕ → List E
at histories cell = slice_index_or histories cell []

-- the histories, with these entries behind those of the cell
abbrev pub with_more : {E : Type 0} → List (List E) → ℕ → List E → List (List E)
with_more histories cell more = slice_set histories cell (at histories cell ++ more)

-- each history of the first list begins that of the same cell in the second
abbrev pub ArePrefixes : {E : Type 0} → List (List E) → List (List E) → Type 0
ArePrefixes {E} early late =
    (cell : ℕ) → (more : List E) × (at late cell ≡ at early cell ++ more)

-- the early history begins the late one, and P holds of each entry behind it
abbrev pub Adds : {E : Type 0} → (E → Type 0) → List E → List E → Type 0
Adds {E} P early late = (more : List E) × (late ≡ early ++ more) × All P more

-- the same of each cell's history
abbrev pub GrewBy : {E : Type 0} → (E → Type 0) → List (List E) → List (List E) → Type 0
GrewBy P early late = (cell : ℕ) → Adds P (at early cell) (at late cell)

-- the turn word, the length word and the fault word of each cell, where no turn is taken
abbrev pub words_of : {C E : Type 0} → (C → List E) → (C → ℕ) → List C → List ℕ
words_of history fault_count [] = []
words_of history fault_count (cell ∷ cells) =
    0 ∷ length (history cell) ∷ fault_count cell ∷ words_of history fault_count cells
