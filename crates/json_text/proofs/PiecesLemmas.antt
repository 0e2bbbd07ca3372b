use Rattle.std.proofs.Common.{◌≡◌, ℕ, List, [], ◌∷◌, ◌++◌, Bool, true, false, Option, append_assoc}
use Rattle.std.specs.List.{concat}
use Rattle.serde_json.specs.Written.{comma_if}
use Rattle.tuple_values.specs.Document.{ByteList, Doc}
use Rattle.json_text.specs.Replies.{tuple_text, docs_text, end_text, body}
use Rattle.json_text.specs.Pieces.{docs_opening, docs_closing, pieces_from, pieces_of}

-- the comma behind a tuple is the comma before what comes next
comma_behind : (before tuple comma docs end : ByteList)
    → before ++ tuple ++ (comma ++ (docs ++ end)) ≡ before ++ (tuple ++ comma ++ docs ++ end)
comma_behind before tuple comma docs end = simp append_assoc

-- the pieces behind the opening are the tuples, the end tuple and the closing, and the comma of
-- what comes first
concat-pieces_from : (later : Bool) (docs : List Doc) (exception : Option ByteList) (millis : ℕ)
    → concat (pieces_from later docs exception millis)
    ≡ comma_if later ++ (docs_text docs ++ (end_text exception millis ++ docs_closing))
concat-pieces_from later [] exception millis = simp append_assoc
concat-pieces_from later (doc ∷ docs) exception millis =
    rw (concat-pieces_from true docs exception millis)
    (comma_behind (comma_if later) (tuple_text doc) (comma_if true) (docs_text docs) _)

-- four texts in a row
four_in_row : (opening docs end closing : ByteList)
    → opening ++ (docs ++ (end ++ closing)) ≡ opening ++ docs ++ end ++ closing
four_in_row opening docs end closing = simp append_assoc

-- all pieces of a result set are its bytes
pub concat-pieces_of : (docs : List Doc) (exception : Option ByteList) (millis : ℕ)
    → concat (pieces_of docs exception millis) ≡ body docs exception millis
concat-pieces_of docs exception millis =
    rw (concat-pieces_from false docs exception millis)
    (four_in_row docs_opening (docs_text docs) (end_text exception millis) docs_closing)
