-- How a request is carried out and its reply written (own).
use Rattle.std.specs.Prelude.{ℕ, ◌≡◌, ◌≤◌, true, false, List, [], ◌∷◌, Option, Some, None}
use Rattle.io_edge.specs.Edge.{Appends, AppendsPrefix, Rose}
use Rattle.exchange_rules.specs.Following.{Writer, Answers, cleared}
use Rattle.exchange_rules.specs.Rows.{Layout}
use Rattle.form_request.specs.declared.request.Request.{Request}
use Rattle.server_edge.specs.Clocks.{Took}
use Rattle.stream_handler.specs.Asks.{ask_of}
use Rattle.stream_handler.specs.Boards.{BoardState, Says}
use Rattle.stream_handler.specs.Exchanges.{IsBroken}
use Rattle.stream_handler.specs.Outcomes.{framing_of, reply_of}
use Rattle.stream_handler.specs.Requests.{request_course}
use Rattle.stream_handler.specs.declared.ending.End.{End}
use Rattle.stream_handler.specs.declared.ending.End.TheVariants as end
use Rattle.stream_handler.specs.declared.ending.OneEnd.{OneEnd}
use Rattle.stream_handler.specs.declared.ending.OneEnd.TheVariants.{Served, Last, Over}
use Rattle.stream_handler.specs.declared.exchange.Exchange.{Exchange}
use Rattle.stream_handler.specs.declared.outcome.Outcome.{Outcome}

-- a writer that began with an empty record carried the request out, and left its record to the
-- exchange; the board was asked what the request asks. The time at which it was asked is one that a
-- clock told, and the exchange took so long since then.
pub record IsCarriedOut (tells : ℕ → Type 0) (l : Layout) (old new : Writer)
    (before after : BoardState) (request : Request) (x : Exchange) (o : Outcome) : Type 0 where
  pub now : ℕ
  pub began : tells now
  pub end : Writer
  pub carried : Answers (cleared old) end (request_course l o request) o
  pub board : Says now (ask_of l.names request) before after o
  pub rest : new ≡ cleared end
  pub marks : x.marks ≡ end.marks
  pub own : x.own ≡ end.own
  pub lasted : Took tells now x.millis

-- a sink before and after: what it has written, and how often it has failed
pub record Sunk : Type 0 where
  pub before : Option (List ℕ)
  pub after : Option (List ℕ)
  pub failed : ℕ
  pub fails : ℕ

abbrev pub sunk : Option (List ℕ) → Option (List ℕ) → ℕ → ℕ → Sunk
sunk before after failed fails =
    record { before = before; after = after; failed = failed; fails = fails }

-- the request was carried out, and its reply is written
pub record IsWritten (tells : ℕ → Type 0) (l : Layout) (old new : Writer)
    (before after : BoardState) (request : Request) (s : Sunk) (x : Exchange) : Type 0 where
  pub stays : s.failed ≤ s.fails
  pub outcome : Outcome
  pub carried : IsCarriedOut tells l old new before after request x outcome
  pub written : Appends s.before s.after (reply_of (framing_of request) x.millis outcome)

-- why a reply isn't written whole: the sink failed, and its count rose; or memory was wanting as it
-- was made
abbrev pub BreaksOff : End → ℕ → ℕ → Type 0
BreaksOff end.Ended failed fails = ⊥
BreaksOff end.Closed failed fails = ⊥
BreaksOff (end.Cut held) failed fails = ⊥
BreaksOff (end.Refused status) failed fails = ⊥
BreaksOff end.ReadFault failed fails = ⊥
BreaksOff end.WriteFault failed fails = Rose failed fails
BreaksOff end.OutOfMemory failed fails = Unit {0}

-- the same, with a part of its reply
pub record IsWrittenInPart (tells : ℕ → Type 0) (l : Layout) (old new : Writer)
    (before after : BoardState) (request : Request) (s : Sunk) (x : Exchange) (e : End)
    : Type 0 where
  pub stays : s.failed ≤ s.fails
  pub cause : BreaksOff e s.failed s.fails
  pub outcome : Outcome
  pub carried : IsCarriedOut tells l old new before after request x outcome
  pub written : AppendsPrefix s.before s.after (reply_of (framing_of request) x.millis outcome)

-- a beginning of it was carried out, and nothing is written
pub record IsLeftOff (l : Layout) (old new : Writer) (before after : BoardState)
    (request : Request) (s : Sunk) : Type 0 where
  pub begun : IsBroken l old new before after request
  pub written : s.after ≡ s.before
  pub fails : s.fails ≡ s.failed

-- how a request was carried out and its reply written
abbrev pub IsReplied : (ℕ → Type 0) → Layout → Writer → Writer → BoardState → BoardState → Request
    → Sunk → OneEnd → Type 0
IsReplied tells l old new before after request s (Served x) =
    (request.closes ≡ false) × IsWritten tells l old new before after request s x
IsReplied tells l old new before after request s (Last x) =
    (request.closes ≡ true) × IsWritten tells l old new before after request s x
IsReplied tells l old new before after request s (Over e None) =
    (e ≡ end.OutOfMemory) × IsLeftOff l old new before after request s
IsReplied tells l old new before after request s (Over e (Some x)) =
    IsWrittenInPart tells l old new before after request s x e

-- the exchange of one message that was served, if there is one
abbrev pub exchanges_in : OneEnd → List Exchange
exchanges_in (Served x) = x ∷ []
exchanges_in (Last x) = x ∷ []
exchanges_in (Over e None) = []
exchanges_in (Over e (Some x)) = x ∷ []

-- how a connection ends with it, unless it goes on
abbrev pub end_of : OneEnd → Option End
end_of (Served x) = None
end_of (Last x) = Some end.Closed
end_of (Over e unfinished) = Some e
