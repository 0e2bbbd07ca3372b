-- Exchanges: what requests did and were answered, one after another (own).
use Rattle.std.specs.Prelude.{ℕ, ◌≡◌, List, [], ◌∷◌, ◌++◌, map, Result, Ok, Err}
use Rattle.std.specs.List.{flat_map}
use Rattle.tuple_values.specs.Document.{ByteList}
use Rattle.tuple_values.specs.declared.memory.Memory.{Memory}
use Rattle.shard_versions.specs.declared.cut.CutMark.{CutMark}
use Rattle.shard_versions.specs.declared.cut.OwnMark.{OwnMark}
use Rattle.exchange_rules.specs.Accesses.{Access, marks_of, own_of}
use Rattle.exchange_rules.specs.Cells.{Log}
use Rattle.exchange_rules.specs.Courses.{Course, ends}
use Rattle.exchange_rules.specs.Following.{Follows, Writer, Answers, Begins, cleared, counts}
use Rattle.exchange_rules.specs.Rows.{Layout}
use Rattle.exchange_rules.specs.Recorded.{AreRecorded, AreLookedAt}
use Rattle.form_request.specs.declared.reading.Message.{Message}
use Rattle.form_request.specs.declared.request.Request.{Request}
use Rattle.server_edge.specs.Clocks.{Took}
use Rattle.stream_handler.specs.Asks.{ask_of}
use Rattle.stream_handler.specs.Boards.{BoardState, Says}
use Rattle.stream_handler.specs.Outcomes.{due_for, framing_of, reply_of}
use Rattle.stream_handler.specs.Passing.{said}
use Rattle.stream_handler.specs.Replies.{due}
use Rattle.stream_handler.specs.Requests.{request_course}
use Rattle.stream_handler.specs.declared.exchange.Answered.{Answered}
use Rattle.stream_handler.specs.declared.exchange.Exchange.{Exchange}
use Rattle.stream_handler.specs.declared.outcome.Outcome.{Outcome}
use Rattle.stream_handler.specs.declared.reply.Reply.{Reply}

-- the exchange is sound for the course and this answer: over what the writer has seen, its marks
-- and own marks are those of accesses that follow the whole course, from these counts to those.
-- What the writer appended meanwhile is just what the own marks say, each step once and in order,
-- and each of them begins where a mark of its cell ends. It took so long since this time, which a
-- clock told that may tell these.
pub record IsSound (tells : ℕ → Type 0) (now me : ℕ) (seen : List Log) (had : List ℕ)
    (course : Course Outcome) (x : Exchange) (o : Outcome) (end : List ℕ) : Type 0 where
  pub accesses : List Access
  pub marks : x.marks ≡ marks_of accesses
  pub own : x.own ≡ own_of accesses
  pub followed : Follows me seen had course accesses (ends o) end
  pub recorded : AreRecorded me seen had end x.own
  pub looked_at : AreLookedAt x.marks x.own
  pub began : tells now
  pub lasted : Took tells now x.millis

-- a message, the time when its request began, the exchange that it led to, and its answer
pub record Answer : Type 0 where
  pub message : Message
  pub now : ℕ
  pub exchange : Exchange
  pub outcome : Outcome

-- each exchange is sound for its message's request, one after another; where the board is asked it
-- told the answer itself
abbrev pub AreSound : (ℕ → Type 0) → Layout → ℕ → List Log → List ℕ → List Answer → List ℕ
    → Type 0
AreSound tells l me seen had [] end = end ≡ had
AreSound tells l me seen had (a ∷ answers) end =
    (mid : List ℕ)
    × IsSound tells a.now me seen had (request_course l a.outcome a.message.request) a.exchange
    a.outcome mid
    × AreSound tells l me seen mid answers end

-- a board from what it was to what it is: each answer is what it said to its message's request, one
-- after another, at the time when the request began, which a clock told
abbrev pub BoardsAlong : (ℕ → Type 0) → Layout → BoardState → List Answer → BoardState → Type 0
BoardsAlong tells l old [] new = new ≡ old
BoardsAlong tells l old (a ∷ answers) new =
    (mid : BoardState)
    × tells a.now × Says a.now (ask_of l.names a.message.request) old mid a.outcome
    × BoardsAlong tells l mid answers new

-- what is written of a message: `100 Continue` where it asks for it, and the reply
abbrev pub reply_to : Answer → ByteList
reply_to a =
    said a.message.asks
    ++ reply_of (framing_of a.message.request) a.exchange.millis a.outcome

abbrev pub messages_of : List Answer → List Message
messages_of answers = map (λ a. a.message) answers

abbrev pub exchanges_of : List Answer → List Exchange
exchanges_of answers = map (λ a. a.exchange) answers

-- the replies, in the order of the messages
abbrev pub replies_of : List Answer → ByteList
replies_of answers = flat_map reply_to answers

-- the marks of all looks, in order
abbrev pub looks_of : List Answer → List CutMark
looks_of answers = flat_map (λ a. a.exchange.marks) answers

-- the own steps of these exchanges, in order
abbrev pub owns_of : List Exchange → List OwnMark
owns_of exchanges = flat_map (λ x. x.own) exchanges

-- a request was carried out and answered: its writer began with an empty record, followed the
-- request's course, and left its record to the exchange, which is sound; the board was asked what
-- the request asks, and told the answer where that is something. The time at which it was asked is
-- one that a clock told, and the exchange took so long since then.
pub record IsAnswered (tells : ℕ → Type 0) (l : Layout) (old new : Writer)
    (before after : BoardState) (request : Request) (a : Answered) : Type 0 where
  pub outcome : Outcome
  pub now : ℕ
  pub began : tells now
  pub end : Writer
  pub carried : Answers (cleared old) end (request_course l outcome request) outcome
  pub board : Says now (ask_of l.names request) before after outcome
  pub rest : new ≡ cleared end
  pub marks : a.exchange.marks ≡ end.marks
  pub own : a.exchange.own ≡ end.own
  pub reply : due a.reply ≡ due_for (framing_of request) a.exchange.millis outcome
  pub lasted : Took tells now a.exchange.millis
  pub sound : IsSound tells now old.me end.seen (counts old.seen) (request_course l outcome request)
      a.exchange outcome (counts end.seen)

-- a request was carried out, and this is the response so many milliseconds after the time at which
-- the board was asked, which a clock told
pub record IsTimed (tells : ℕ → Type 0) (l : Layout) (old new : Writer) (before after : BoardState)
    (r : Request) (made : Reply) (millis : ℕ) : Type 0 where
  pub outcome : Outcome
  pub now : ℕ
  pub began : tells now
  pub carried : Answers old new (request_course l outcome r) outcome
  pub board : Says now (ask_of l.names r) before after outcome
  pub reply : due made ≡ due_for (framing_of r) millis outcome
  pub lasted : Took tells now millis

-- the same; where memory was wanting, a beginning of its course was followed, and the board is as
-- it was
abbrev pub IsResponded : (ℕ → Type 0) → Layout → Writer → Writer → BoardState → BoardState → Request
    → Result (Reply × ℕ) Memory → Type 0
IsResponded tells l old new before after r (Ok made) =
    IsTimed tells l old new before after r made.0 made.1
IsResponded tells l old new before after r (Err memory) =
    ((told : Outcome) × Begins old new (request_course l told r)) × (after ≡ before)

-- a request was begun, by a writer that began with an empty record, and memory was wanting: a
-- beginning of its course was followed, and the board is as it was
pub record IsBroken (l : Layout) (old new : Writer) (before after : BoardState) (request : Request)
    : Type 0 where
  pub told : Outcome
  pub begun : Begins (cleared old) new (request_course l told request)
  pub board : after ≡ before
