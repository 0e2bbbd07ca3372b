-- What a result set that goes in chunks still gives (own).
use Rattle.std.specs.Prelude.{ℕ, ◌≡◌, Bool, true, false, List, [], ◌∷◌, ◌++◌, Option, Some, None}
use Rattle.tuple_values.specs.Document.{ByteList, Doc}
use Rattle.json_text.specs.Pieces.{docs_closing, pieces_from, pieces_of}
use Rattle.json_text.specs.declared.result_set.EndTuple.{EndTuple}
use Rattle.stream_handler.specs.Chunks.{chunk, chunks_from, last_chunk}
use Rattle.stream_handler.specs.Outcomes.{chunked}
use Rattle.stream_handler.specs.Responses.{chunked_head}
use Rattle.stream_handler.specs.declared.chunking.Chunking.{Chunking}
use Rattle.stream_handler.specs.declared.chunking.Stage.{Stage}
use Rattle.stream_handler.specs.declared.chunking.Stage.TheVariants.{Head, Opening, Tuples, Closing, Joined, Last, Over}

-- the pieces of a result set that aren't joined, by where it stands
abbrev pub pieces_at : Stage → List Doc → Option ByteList → ℕ → Bool → List ByteList
pieces_at Head docs exception millis later = pieces_of docs exception millis
pieces_at Opening docs exception millis later = pieces_of docs exception millis
pieces_at Tuples docs exception millis later = pieces_from later docs exception millis
pieces_at Closing docs exception millis later = docs_closing ∷ []
pieces_at Joined docs exception millis later = []
pieces_at Last docs exception millis later = []
pieces_at Over docs exception millis later = []

abbrev pub pieces_left : Chunking → List ByteList
pieces_left c =
    pieces_at c.stage c.docs c.pieces.exception c.pieces.millis c.pieces.later

-- what is still given, by where it stands: the head, the chunks, and the last chunk
abbrev pub items_at : Stage → Bool → ByteList → List ByteList → List ByteList
items_at Head closes joined pieces = chunked_head closes ∷ chunks_from joined pieces
items_at Opening closes joined pieces = chunks_from joined pieces
items_at Tuples closes joined pieces = chunks_from joined pieces
items_at Closing closes joined pieces = chunks_from joined pieces
items_at Joined closes joined pieces = chunks_from joined pieces
items_at Last closes joined pieces = last_chunk ∷ []
items_at Over closes joined pieces = []

abbrev pub items_of : Chunking → List ByteList
items_of c = items_at c.stage c.closes c.joined (pieces_left c)

-- what a response with these tuples and this end gives
abbrev pub begun : Bool → List Doc → EndTuple → List ByteList
begun closes docs end = chunked closes docs end.exception end.millis

-- pieces are joined there
abbrev pub IsJoining : Stage → Type 0
IsJoining Head = ⊥
IsJoining Opening = Unit {0}
IsJoining Tuples = Unit {0}
IsJoining Closing = Unit {0}
IsJoining Joined = Unit {0}
IsJoining Last = ⊥
IsJoining Over = ⊥

-- the next piece was joined, or none is left
abbrev pub Joins : Chunking → Bool → Chunking → Type 0
Joins old true new =
    (piece : ByteList) × (pieces_left old ≡ piece ∷ pieces_left new)
    × (new.joined ≡ old.joined ++ piece) × IsJoining new.stage
Joins old false new =
    (pieces_left old ≡ []) × (new ≡ old)

-- pieces were joined until they were long enough to go as a chunk; or all are joined
abbrev pub Fills : Chunking → Bool → Chunking → Type 0
Fills old true new =
    (items_of old ≡ chunk new.joined ∷ chunks_from [] (pieces_left new)) × IsJoining new.stage
Fills old false new =
    (items_of old ≡ chunks_from new.joined []) × (pieces_left new ≡ []) × IsJoining new.stage

-- nothing is joined any more
abbrev pub IsGiven : Chunking → Chunking → Type 0
IsGiven old new =
    new
    ≡ record {
      docs = old.docs;
      pieces = old.pieces;
      joined = [];
      closes = old.closes;
      stage = old.stage;
    }

-- what was due first was added; or nothing was due
abbrev pub Adds : List ByteList → Bool → List ByteList → ByteList → ByteList → Type 0
Adds old true new before after =
    (item : ByteList) × (old ≡ item ∷ new) × (after ≡ before ++ item)
Adds old false new before after = (old ≡ []) × (new ≡ []) × (after ≡ before)

-- the first of what is given; there is none exactly at the end
abbrev pub Gives : List ByteList → Option ByteList → List ByteList → Type 0
Gives old None new = (old ≡ []) × (new ≡ [])
Gives old (Some item) new = old ≡ item ∷ new
