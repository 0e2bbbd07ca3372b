-- The rests of a kernel's inputs, the lists that they still give (own).
use Rattle.std.specs.Prelude.{◌≡◌, ℕ, List, [], ◌∷◌, length, Bool, true}
use Rattle.std.specs.Prelude.{slice_index_or, slice_set}
use Rattle.tuple_values.specs.Document.{Doc}

-- for each input the list that is still to come
abbrev pub Rests : Type 0
Rests = List (List Doc)

-- that of one input, counted from 0
abbrev pub rest_at : ℕ → Rests → List Doc
rest_at i rests = slice_index_or rests i []

-- the rests with a document in front of one of them
abbrev pub put_front : ℕ → Doc → Rests → Rests
put_front i doc rests = slice_set rests i (doc ∷ rest_at i rests)

-- there is one input, with nothing to come where it has ended
abbrev pub IsOne : Bool → Rests → Type 0
IsOne ended rests = (length rests ≡ 1) × (ended ≡ true → rest_at 0 rests ≡ [])
