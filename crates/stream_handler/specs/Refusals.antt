-- What a message that is refused is told, by its status (own; the statuses are those of RFC 9110,
-- section 15).
use Rattle.std.specs.Prelude.{ℕ, ◌==◌, true, codes, if◌then◌else◌}
use Rattle.tuple_values.specs.Document.{ByteList}
use Rattle.stream_handler.specs.Outcomes.{whole_reply}
use Rattle.stream_handler.specs.declared.outcome.Outcome.{Outcome}
use Rattle.stream_handler.specs.declared.outcome.Outcome.TheVariants.{Refused}

-- the text of a status: one for each, and that of 400 for all others
abbrev pub refusal_text : ℕ → ByteList
refusal_text status =
    if status == 404 then codes "NoSuchPath"
    else if status == 405 then codes "BadMethod"
    else if status == 411 then codes "NoLength"
    else if status == 413 then codes "BodyTooLarge"
    else if status == 431 then codes "HeadTooLarge"
    else if status == 501 then codes "ChunkedBody"
    else codes "BadMessage"

-- a refusal
abbrev pub refusal : ℕ → Outcome
refusal status = Refused status (refusal_text status)

-- the response to a message that is refused: the connection closes with it
unfoldable pub refusal_reply : ℕ → ByteList
refusal_reply status = whole_reply true 0 (refusal status)
