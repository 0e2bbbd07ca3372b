-- How a stream of requests goes on from message to message (RFC 9110, section 10.1.1, for
-- `100 Continue`; own).
use Rattle.std.specs.Prelude.{ℕ, ◌≡◌, Bool, true, false, List, [], ◌++◌, codes}
use Rattle.tuple_values.specs.Document.{ByteList}
use Rattle.tuple_values.specs.declared.names.NameShards.{NameShards}
use Rattle.form_request.specs.Readers.{HeldReads}
use Rattle.form_request.specs.Streams.{Held, fed}
use Rattle.form_request.specs.declared.plan.Stage.{Stage}
use Rattle.form_request.specs.declared.plan.Stage.TheVariants.{Head, Body, Stopped, Closed}
use Rattle.form_request.specs.declared.reading.Message.{Message}
use Rattle.form_request.specs.declared.reading.After.{After}
use Rattle.stream_handler.specs.Refusals.{refusal_reply}

-- `100 Continue`, where it is said
abbrev pub said : Bool → ByteList
said false = []
said true = codes "HTTP/1.1 100 Continue\r\n\r\n"

-- `100 Continue` was said only of a message whose head has come, and isn't to be said of it again
abbrev pub IsToldOnce : Stage → Bool → Type 0
IsToldOnce Head told = told ≡ false
IsToldOnce (Body plan) told = told ≡ true → plan.asks ≡ false
IsToldOnce (Stopped status) told = told ≡ false
IsToldOnce Closed told = told ≡ false

-- with these bytes a stream leads from old to new past these whole messages: whatever is read from
-- new on is read behind them from old on. told says that `100 Continue` was said of the message
-- that stands there.
pub record Passes (names : List NameShards) (told : Bool) (old : Held) (bytes : List ℕ)
    (messages : List Message) (told_new : Bool) (new : Held) : Type 0 where
  pub fits : IsToldOnce new.stage told_new
  pub reads : (more : List ℕ) (later : List Message) (after : After)
      → HeldReads names told_new (fed new more) later after
      → HeldReads names told (fed old (bytes ++ more)) (messages ++ later) after

-- what is written of the message at which a stream stands, before its reply: the refusal where it
-- is refused, or `100 Continue` where that is said
abbrev pub front_text : Stage → Bool → ByteList
front_text Head told = said told
front_text (Body plan) told = said told
front_text (Stopped status) told = refusal_reply status
front_text Closed told = said told
