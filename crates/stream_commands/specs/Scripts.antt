-- What `script` leaves on output: the replies to the requests of its input, each carried out alone
-- over collections and a board of daemons that begin empty. After each whole request every running
-- daemon runs once, in the order in which they were put on the board (own).
use Rattle.std.specs.Prelude.{◌≡◌, ℕ, ◌<◌, ◌⊎◌, Bool, false, List, [], ◌∷◌, ◌++◌, Option, Some}
use Rattle.io_edge.specs.Edge.{Appends}
use Rattle.tuple_values.specs.Document.{ByteList}
use Rattle.tuple_values.specs.declared.names.NameShards.{NameShards}
use Rattle.exchange_rules.specs.Cells.{Log}
use Rattle.exchange_rules.specs.Rows.{Layout}
use Rattle.daemon_board.specs.Tickets.{Tickets}
use Rattle.form_request.specs.Readings.{Reads}
use Rattle.form_request.specs.Streams.{Held, begun}
use Rattle.form_request.specs.declared.reading.After.{After}
use Rattle.form_request.specs.declared.reading.After.TheVariants.{Refusal, Rest}
use Rattle.form_request.specs.declared.reading.Message.{Message}
use Rattle.stream_handler.specs.Outcomes.{framing_of, reply_of}
use Rattle.stream_handler.specs.Passing.{Passes, front_text, said}
use Rattle.stream_handler.specs.Refusals.{refusal_reply}
use Rattle.stream_handler.specs.Sessions.{Came}
use Rattle.stream_commands.specs.Boards.{no_tickets}
use Rattle.stream_commands.specs.Replies.{layout, logs_at_start}
use Rattle.stream_commands.specs.Rounds.{AreLawful, AreLawfulBefore, after_message, answered_alone}

-- the replies to these messages, each with `100 Continue` before it where it asks for that: one
-- writer carries out their requests alone, in order, and after each whole request every running
-- daemon runs once, in the order in which they were put on the board; each look is at the whole
-- log, and all times are 0
abbrev pub replies_alone : Layout → List Log → Tickets → List Message → ByteList
replies_alone l logs b [] = []
replies_alone l logs b (m ∷ messages) =
    (said m.asks ++ reply_of (framing_of m.request) 0 (answered_alone l logs b m).1)
    ++ replies_alone l (after_message l logs b m).0 (after_message l logs b m).1 messages

-- what is written of what stands behind the last message
abbrev pub tail_text : After → ByteList
tail_text (Refusal status) = refusal_reply status
tail_text (Rest held asks) = said asks

-- the replies over new collections and a new board
abbrev pub replies_over : List NameShards → List Message → ByteList
replies_over names messages =
    replies_alone (layout names) (logs_at_start names) no_tickets messages

-- all that a script writes whose input holds these messages and then this
abbrev pub script_text : List NameShards → List Message → After → ByteList
script_text names messages after = replies_over names messages ++ tail_text after

-- an input, which was told to have these bytes, holds messages and then this, as do those bytes of
-- it that were taken; all that is to be written is written, and the law holds of the histories
-- behind it
pub record IsScriptRun (names : List NameShards) (all : List ℕ) (left : Option (List ℕ)) (after : After)
    (old new : Option (List ℕ)) : Type 0 where
  pub messages : List Message
  pub holds : Reads names all messages after
  pub read : List ℕ
  pub came : Came (Some all) left read
  pub reads : Reads names read messages after
  pub written : Appends old new (script_text names messages after)
  pub lawful : AreLawful names messages

-- such an input ends between messages or is closed by one
abbrev pub IsCarriedThrough : List NameShards → List ℕ → Option (List ℕ) → Option (List ℕ)
    → Option (List ℕ) → Type 0
IsCarriedThrough names all left old new =
    (asks : Bool) × IsScriptRun names all left (Rest 0 asks) old new

-- it ends inside a message
abbrev pub IsCutShort : List NameShards → List ℕ → Option (List ℕ) → Option (List ℕ)
    → Option (List ℕ) → Type 0
IsCutShort names all left old new =
    (held : ℕ) × (asks : Bool) × (0 < held) × IsScriptRun names all left (Rest held asks) old new

-- one of its messages is refused with this status
abbrev pub IsStoppedAt : List NameShards → ℕ → List ℕ → Option (List ℕ) → Option (List ℕ)
    → Option (List ℕ) → Type 0
IsStoppedAt names status all left old new = IsScriptRun names all left (Refusal status) old new

-- the bytes that were taken of such an input hold messages and then something; all that is to be
-- written of them is written, and the law holds of the histories behind it
pub record IsScriptRead (names : List NameShards) (all : List ℕ) (left old new : Option (List ℕ))
    : Type 0 where
  pub messages : List Message
  pub after : After
  pub read : List ℕ
  pub came : Came (Some all) left read
  pub reads : Reads names read messages after
  pub written : Appends old new (script_text names messages after)
  pub lawful : AreLawful names messages

-- behind these messages of the bytes this text is written: of all that stands behind them, or, where
-- they were not read to their end, of the message to which they lead
abbrev pub IsBehind : List NameShards → List ℕ → List Message → ByteList → Type 0
IsBehind names bytes messages text =
    ((after : After) × Reads names bytes messages after × (text ≡ tail_text after))
    ⊎ ((told : Bool) × (held : Held) × Passes names false begun bytes messages told held
    × (text ≡ front_text held.stage told))

-- the bytes that were taken of such an input, but perhaps for the last of them, hold messages, and a
-- first part of what is to be written of them is written; the law held before each of the messages
pub record IsScriptBegun (names : List NameShards) (all : List ℕ) (left old new : Option (List ℕ))
    : Type 0 where
  pub read : List ℕ
  pub lost : List ℕ
  pub came : Came (Some all) left (read ++ lost)
  pub messages : List Message
  pub text : ByteList
  pub behind : IsBehind names read messages text
  pub front : ByteList
  pub rest : ByteList
  pub written : Appends old new front
  pub begins : replies_over names messages ++ text ≡ front ++ rest
  pub lawful : AreLawfulBefore names messages

-- the same, where none of the bytes that were taken are lost
abbrev pub IsScriptInPart : List NameShards → List ℕ → Option (List ℕ) → Option (List ℕ)
    → Option (List ℕ) → Type 0
IsScriptInPart names all left old new =
    (begun : IsScriptBegun names all left old new) × (begun.lost ≡ [])
