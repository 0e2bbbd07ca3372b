-- The pieces of a result set, one after another (own); joined they are its bytes.
use Rattle.std.specs.Prelude.{ℕ, List, [], ◌∷◌, ◌++◌, Bool, true, false, codes, Option}
use Rattle.tuple_values.specs.Document.{ByteList, Doc}
use Rattle.serde_json.specs.Written.{comma_if}
use Rattle.json_text.specs.Replies.{tuple_text, end_text}

-- what stands before the tuples of a result set
abbrev pub docs_opening : ByteList
docs_opening = codes "{\"result-set\":{\"docs\":["

-- what stands behind the end tuple of a result set
abbrev pub docs_closing : ByteList
docs_closing = codes "]}}"

-- the pieces that are still to come behind the opening: each tuple's text and then the end
-- tuple's, a comma before each that stands later, and the closing
abbrev pub pieces_from : Bool → List Doc → Option ByteList → ℕ → List ByteList
pieces_from later [] exception millis =
    (comma_if later ++ end_text exception millis) ∷ docs_closing ∷ []
pieces_from later (doc ∷ docs) exception millis =
    (comma_if later ++ tuple_text doc) ∷ pieces_from true docs exception millis

-- all pieces of a result set
abbrev pub pieces_of : List Doc → Option ByteList → ℕ → List ByteList
pieces_of docs exception millis = docs_opening ∷ pieces_from false docs exception millis

-- a result set that is written in pieces: what its end tuple tells, and whether a tuple has gone
-- before what comes next
pub record PiecesState : Type 0 where
  pub exception : Option ByteList
  pub millis : ℕ
  pub later : Bool
