-- What is asked of a board of daemons at a time, in milliseconds, and what the board says to it
-- (own; Solr Reference Guide, "Stream Decorator Reference", daemon).
use Rattle.std.specs.Prelude.{ℕ, ◌≡◌, ◌++◌, Bool, List, [], ◌∷◌, Option, None, Result, Ok, Err, codes}
use Rattle.tuple_values.specs.Document.{ByteList, Doc, text}
use Rattle.tuple_values.specs.declared.memory.Memory.{Memory}
use Rattle.expr_types.specs.ExprTree.{ExprTree, expr_tree}
use Rattle.expr_types.specs.declared.expr.Expr.{Expr}
use Rattle.daemon_board.specs.Answers.{after_kill, after_resume, after_start, after_stop}
use Rattle.daemon_board.specs.Calls.{Changes, Kills, Lists, Starts, WhereTold}
use Rattle.daemon_board.specs.Daemons.{Shown, fresh, resumed, stopped}
use Rattle.daemon_board.specs.declared.answers.Answers.{Answers}
use Rattle.daemon_board.specs.declared.fault.BoardFault.{BoardFault}
use Rattle.daemon_board.specs.declared.fault.BoardFault.TheVariants.{DaemonTaken, UnknownDaemon, BoardFull, OutOfMemory}
use Rattle.stream_handler.specs.Outcomes.{exception}
use Rattle.stream_handler.specs.declared.action.Change.{Change}
use Rattle.stream_handler.specs.declared.action.Change.TheVariants.{Stop, Start, Kill}
use Rattle.stream_handler.specs.declared.outcome.Outcome.{Outcome}
use Rattle.stream_handler.specs.declared.outcome.Outcome.TheVariants.{ResultSet}

-- a board: what it holds, where it tells, and how often it gave each answer
pub record BoardState : Type 0 where
  pub shown : Option Shown
  pub answers : Answers

abbrev pub board_state : Option Shown → Answers → BoardState
board_state shown answers = record { shown = shown; answers = answers }

-- what is asked of a board: nothing, the list of its daemons, that the daemon with an id is
-- stopped, runs again or is removed, or that an expression is run under an id from now on, with so
-- much rest after each run, to the first run that reads nothing or on and on
pub data Ask : Type 0 where
  nothing : Ask
  lists : Ask
  stops : ByteList → Ask
  resumes : ByteList → Ask
  kills : ByteList → Ask
  starts : ByteList → ExprTree → ℕ → Bool → Ask

-- one tuple that tells what was done with the daemon
abbrev pub op_docs : ByteList → ByteList → List Doc
op_docs done id = ((codes "DaemonOp", text (done ++ id)) ∷ []) ∷ []

-- it was done
abbrev pub op_done : ByteList → ByteList → Outcome
op_done done id = ResultSet (op_docs done id) None

-- what was done by a change
abbrev pub change_word : Change → ByteList
change_word Stop = codes "stopped "
change_word Start = codes "started "
change_word Kill = codes "killed "

-- what a change is answered: a refusal says that no daemon has the id
abbrev pub change_told : Change → ByteList → Result (Unit {0}) BoardFault → Outcome
change_told change id (Ok u) = op_done (change_word change) id
change_told change id (Err fault) = exception (codes "UnknownDaemon " ++ id)

-- what a change makes at this time of a board that tells what it holds
abbrev pub Makes : ℕ → Change → ByteList → Result (Unit {0}) BoardFault → Shown → Shown → Type 0
Makes now Stop id answer = Changes id stopped answer
Makes now Start id answer = Changes id (resumed now) answer
Makes now Kill id answer = Kills id answer

-- the counts after an answer to it
abbrev pub after_change : Change → Result (Unit {0}) BoardFault → Answers → Answers
after_change Stop answer = after_stop answer
after_change Start answer = after_resume answer
after_change Kill answer = after_kill answer

-- the board made the change at this time or refused it, and that is the outcome
pub record IsChanged (now : ℕ) (change : Change) (id : ByteList) (old new : BoardState)
    (o : Outcome) : Type 0 where
  pub answer : Result (Unit {0}) BoardFault
  pub outcome : o ≡ change_told change id answer
  pub told : WhereTold old.shown new.shown (Makes now change id answer)
  pub counted : new.answers ≡ after_change change answer old.answers

-- the outcome is the answer to a start, which isn't want of memory
abbrev pub IsStartTold : ByteList → Result (Unit {0}) BoardFault → Outcome → Type 0
IsStartTold id (Ok u) o = o ≡ op_done (codes "started ") id
IsStartTold id (Err (DaemonTaken taken)) o = o ≡ exception (codes "DaemonTaken " ++ id)
IsStartTold id (Err UnknownDaemon) o = ⊥
IsStartTold id (Err BoardFull) o = o ≡ exception (codes "BoardFull")
IsStartTold id (Err OutOfMemory) o = ⊥

-- an expression that is this tree was put on the board at this time or refused, and that is the
-- outcome
pub record IsStarted (now : ℕ) (id : ByteList) (t : ExprTree) (interval : ℕ) (terminate : Bool)
    (old new : BoardState) (o : Outcome) : Type 0 where
  pub expr : Expr
  pub tree : expr_tree expr ≡ t
  pub answer : Result (Unit {0}) BoardFault
  pub outcome : IsStartTold id answer o
  pub told : WhereTold old.shown new.shown
      (λ b c. Starts id (fresh b expr interval terminate now) answer b c)
  pub counted : new.answers ≡ after_start answer old.answers

-- the outcome is the list of the board, which is as it was
pub record IsListed (old new : BoardState) (o : Outcome) : Type 0 where
  pub docs : List Doc
  pub outcome : o ≡ ResultSet docs None
  pub told : WhereTold old.shown new.shown (Lists {E = Memory} (Ok docs))
  pub counted : new.answers ≡ old.answers

-- the board was listed, unless memory was wanting: then too it is as it was
abbrev pub IsListing : BoardState → BoardState → Result Outcome Memory → Type 0
IsListing old new (Ok o) = IsListed old new o
IsListing old new (Err memory) = new ≡ old

-- what a board says to what it is asked at this time, and what it is then
abbrev pub Says : ℕ → Ask → BoardState → BoardState → Outcome → Type 0
Says now nothing old new o = new ≡ old
Says now lists old new o = IsListed old new o
Says now (stops id) old new o = IsChanged now Stop id old new o
Says now (resumes id) old new o = IsChanged now Start id old new o
Says now (kills id) old new o = IsChanged now Kill id old new o
Says now (starts id t interval terminate) old new o =
    IsStarted now id t interval terminate old new o

-- the board was asked at this time, and the outcome is what it said, unless memory was wanting:
-- then it is as it was
abbrev pub IsAsked : ℕ → Ask → BoardState → BoardState → Result Outcome Memory → Type 0
IsAsked now ask old new (Ok o) = Says now ask old new o
IsAsked now ask old new (Err memory) = new ≡ old
