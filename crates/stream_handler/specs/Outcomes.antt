-- What a request is answered (own).
use Rattle.std.specs.Prelude.{◌≡◌, ℕ, Bool, false, List, [], ◌∷◌, ◌++◌, Option, Some, if◌then◌else◌}
use Rattle.std.specs.List.{concat}
use Rattle.tuple_values.specs.Document.{ByteList, Doc}
use Rattle.form_request.specs.declared.request.Request.{Request}
use Rattle.json_text.specs.Pieces.{pieces_of}
use Rattle.json_text.specs.Replies.{body, update_body, error_body}
use Rattle.stream_handler.specs.Chunks.{chunks_from, IsChunked}
use Rattle.stream_handler.specs.Responses.{chunked_head, response}
use Rattle.stream_handler.specs.declared.framing.Framing.{Framing}
use Rattle.stream_handler.specs.declared.outcome.Outcome.{Outcome}
use Rattle.stream_handler.specs.declared.outcome.Outcome.TheVariants.{Indexed, Refused, ResultSet}

-- how the response to a request is framed
abbrev pub framing_of : Request → Framing
framing_of request = record { closes = request.closes; chunks = request.chunks }

-- the status of the response
abbrev pub status_of : Outcome → ℕ
status_of Indexed = 200
status_of (Refused code msg) = code
status_of (ResultSet docs exception) = 200

-- its body, after so many milliseconds
abbrev pub body_of : Outcome → ℕ → ByteList
body_of Indexed millis = update_body millis
body_of (Refused code msg) millis = error_body code msg millis
body_of (ResultSet docs exception) millis = body docs exception millis

-- the response with its length before it
abbrev pub whole_reply : Bool → ℕ → Outcome → ByteList
whole_reply closes millis outcome = response (status_of outcome) closes (body_of outcome millis)

-- the response of a result set in chunks: its head, and then its pieces, joined
abbrev pub chunked : Bool → List Doc → Option ByteList → ℕ → List ByteList
chunked closes docs exception millis =
    chunked_head closes ∷ chunks_from [] (pieces_of docs exception millis)

-- what goes of the response, one after another: all at once, or its head and then its chunks
abbrev pub items_for : Framing → ℕ → Outcome → List ByteList
items_for f millis Indexed = whole_reply f.closes millis Indexed ∷ []
items_for f millis (Refused code msg) = whole_reply f.closes millis (Refused code msg) ∷ []
items_for f millis (ResultSet docs exception) =
    if f.chunks then chunked f.closes docs exception millis
    else whole_reply f.closes millis (ResultSet docs exception) ∷ []

-- the same, and that no memory was wanting
abbrev pub due_for : Framing → ℕ → Outcome → List ByteList × Bool
due_for f millis outcome = (items_for f millis outcome, false)

-- the whole response
abbrev pub reply_of : Framing → ℕ → Outcome → ByteList
reply_of f millis outcome = concat (items_for f millis outcome)

-- an exception alone
abbrev pub exception : ByteList → Outcome
exception text = ResultSet [] (Some text)

-- behind the head of a response in chunks, what the chunks carry is the body that it would have whole
abbrev pub ChunksCarryTheBody : Type 0
ChunksCarryTheBody =
    (closes : Bool) (docs : List Doc) (exception : Option ByteList) (millis : ℕ)
    → (chunks : ByteList)
    × (concat (chunked closes docs exception millis) ≡ chunked_head closes ++ chunks)
    × IsChunked chunks (body docs exception millis)
