-- How an input is served to its end, where the running daemons run between its messages, by a clock
-- that tells 0 alone (own).
use Rattle.std.specs.Prelude.{ℕ, ◌≡◌, ◌⊎◌, Bool, false, List, [], ◌∷◌, Option, Some, None}
use Rattle.io_edge.specs.Edge.{Appends}
use Rattle.exchange_rules.specs.Following.{Writer}
use Rattle.exchange_rules.specs.Rows.{Layout}
use Rattle.site_laws.specs.SiteCells.{IsLawful}
use Rattle.form_request.specs.declared.plan.Stage.TheVariants as stage
use Rattle.daemon_board.specs.Boards.{Told}
use Rattle.daemon_board.specs.Tickets.{Tickets, tickets_of}
use Rattle.daemon_steps.specs.Stepped.{IsCutShort, IsStepped}
use Rattle.stream_handler.specs.Asks.{ask_of}
use Rattle.stream_handler.specs.Boards.{BoardState, Says, board_state}
use Rattle.stream_handler.specs.Exchanges.{Answer, messages_of, replies_of}
use Rattle.stream_handler.specs.Sessions.{Wire, Counts, Exchanged, IsOneOver, IsOneServed, Passed}
use Rattle.stream_handler.specs.declared.ending.End.{End}
use Rattle.stream_handler.specs.declared.ending.End.TheVariants as end
use Rattle.stream_handler.specs.declared.exchange.Exchange.{Exchange}
use Rattle.stream_commands.specs.declared.ending.Ending.{Ending}
use Rattle.stream_commands.specs.declared.ending.Ending.TheVariants.{Done, InputFailed, OutputFailed, OutOfMemory, InputCut, MessageRefused}

-- a board, as requests see it
abbrev pub state_of : Told → BoardState
state_of b = board_state (Some b.shown) b.answers

-- the clock of a script tells 0 alone
abbrev pub TellsZero : ℕ → Type 0
TellsZero n = n ≡ 0

-- a message was answered: the exchange is the writer's, and the board said what it was asked at 0
pub record IsAnsweredTo (l : Layout) (w v : Writer) (before after : Told) (a : Answer)
    : Type 0 where
  pub exchanged : Exchanged TellsZero l w v (a ∷ [])
  pub said : Says 0 (ask_of l.names a.message.request) (state_of before) (state_of after) a.outcome

-- a message was answered, and then every running daemon of the board ran once; the law holds of all
-- histories afterwards
pub record IsRound (l : Layout) (w v : Writer) (before after : Told) (a : Answer) : Type 0 where
  pub mid : Writer
  pub asked : Told
  pub answered : IsAnsweredTo l w mid before asked a
  pub stepped : IsStepped l mid v (tickets_of asked.shown) (tickets_of after.shown)
  pub lawful : IsLawful l.names v.seen

-- so it was with each of these messages, one after another
abbrev pub AreRounds : Layout → Writer → Told → List Answer → Writer → Told → Type 0
AreRounds l w before [] v after = (v ≡ w) × (after ≡ before)
AreRounds l w before (a ∷ answers) v after =
    (mid : Writer) × (board : Told) × IsRound l w mid before board a
    × AreRounds l mid board answers v after

-- these messages are read and their replies written, and behind each the daemons ran
pub record IsCarriedOn (l : Layout) (old new : Wire) (w v : Writer) (before after : Told)
    (answers : List Answer) : Type 0 where
  pub counts : Counts old new
  pub passed : Passed l.names old new (messages_of answers) false
  pub written : Appends old.written new.written (replies_of answers)
  pub rounds : AreRounds l w before answers v after
  pub board : new.board ≡ state_of after

-- nothing was done since, and the last message closes, or the messages are too many to be counted
pub record IsAtRest (old new : Wire) (w v : Writer) (before after : Told) (e : End) : Type 0 where
  pub wire : new ≡ old
  pub writer : v ≡ w
  pub board : after ≡ before
  pub why : ((e ≡ end.Closed) × (new.held.stage ≡ stage.Closed)) ⊎ (e ≡ end.OutOfMemory)

-- a message was answered and its reply written, and memory was wanting when the daemons ran behind
-- it
pub record IsCutInRuns (l : Layout) (old new : Wire) (w v : Writer) (after : Told) (e : End)
    : Type 0 where
  pub ends : e ≡ end.OutOfMemory
  pub mid : Writer
  pub asked : Told
  pub exchange : Exchange
  pub last : Bool
  pub one : IsOneServed TellsZero l old (record new { board = state_of asked }) w mid exchange last
  pub cut : IsCutShort l mid v (tickets_of asked.shown) (tickets_of after.shown)

-- why no more was served: nothing more was done, or a message wasn't answered whole, or the daemons
-- didn't run to their end behind it
abbrev pub StopsBy : Layout → Wire → Wire → Writer → Writer → Told → Told → End → Type 0
StopsBy l old new w v before after e =
    IsAtRest old new w v before after e
    ⊎ ((unfinished : Option Exchange) × IsOneOver TellsZero l old new w v unfinished e)
    ⊎ IsCutInRuns l old new w v after e

-- an input was served to this end
pub record HasServed (l : Layout) (old new : Wire) (w v : Writer) (before after : Told) (e : End)
    : Type 0 where
  pub answers : List Answer
  pub mid : Wire
  pub turned : Writer
  pub board : Told
  pub served : IsCarriedOn l old mid w turned before board answers
  pub stops : StopsBy l mid new turned v board after e
  pub told : new.board ≡ state_of after

-- one message was served, and it goes on, or it was served to this end
abbrev pub HasRound : Layout → Wire → Wire → Writer → Writer → Told → Told → Option End → Type 0
HasRound l old new w v before after None =
    (a : Answer) × IsCarriedOn l old new w v before after (a ∷ [])
HasRound l old new w v before after (Some e) = HasServed l old new w v before after e

-- every running daemon ran once, and it goes on as it would have; or memory was wanting in that
abbrev pub HasRun : Layout → Writer → Writer → Tickets → Tickets → Option End → Option End → Type 0
HasRun l w v before after next found =
    (IsStepped l w v before after × (found ≡ next))
    ⊎ (IsCutShort l w v before after × (found ≡ Some end.OutOfMemory))

-- how a run ends whose input was served to this end
abbrev pub ending_of : End → Ending
ending_of end.Ended = Done
ending_of end.Closed = Done
ending_of (end.Cut held) = InputCut
ending_of (end.Refused status) = MessageRefused status
ending_of end.ReadFault = InputFailed
ending_of end.WriteFault = OutputFailed
ending_of end.OutOfMemory = OutOfMemory
