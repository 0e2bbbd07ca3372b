-- What the turn of one daemon does at the site and on the board (own).
use Rattle.std.specs.Prelude.{◌≡◌, ℕ, Option, Some, None}
use Rattle.exchange_rules.specs.Courses.{Course}
use Rattle.exchange_rules.specs.Following.{Writer, Answers, Begins, cleared}
use Rattle.exchange_rules.specs.Rows.{Layout}
use Rattle.expr_types.specs.ExprTree.{expr_tree}
use Rattle.expr_types.specs.declared.expr.Expr.{Expr}
use Rattle.expr_check.specs.Parts.{input_of}
use Rattle.daemon_board.specs.Daemons.{Entry, Shown, change_first, claimed, finished, first_such, may_run_after, with_daemons}
use Rattle.daemon_board.specs.declared.daemon.Daemon.{Daemon}
use Rattle.daemon_steps.specs.Steps.{once_course, unknown_run}
use Rattle.daemon_steps.specs.declared.once.Once.{Once}

-- the writer began with an empty record, followed the course to this answer, and left its record
-- empty
pub record IsFollowed {A : Type 0} (old new : Writer) (course : Course A) (a : A) : Type 0 where
  pub end : Writer
  pub carried : Answers (cleared old) end course a
  pub rest : new ≡ cleared end

-- a daemon that was claimed and got its expression back after this run
abbrev pub run_out : Expr → Once → Daemon → Daemon
run_out e run d = finished e run.read run.fault 0 (claimed d)

-- the first daemon that may run after the one with a number is this one, with this expression, and
-- this run of it alone changed the board
pub record IsRunOut (old new : Shown) (after : ℕ) (entry : Entry) (e : Expr) (run : Once)
    : Type 0 where
  pub first : first_such (may_run_after after) old.daemons ≡ Some entry
  pub whole : Some e ≡ entry.daemon.checked
  pub left : new ≡ with_daemons old (change_first (may_run_after after) (run_out e run) old.daemons)

-- the turn of the daemon with this number
pub record IsTurn (l : Layout) (w v : Writer) (old new : Shown) (after number : ℕ) : Type 0 where
  pub entry : Entry
  pub e : Expr
  pub run : Once
  pub numbered : number ≡ entry.daemon.number
  pub ran_out : IsRunOut old new after entry e run
  pub followed : IsFollowed w v (once_course l (input_of (expr_tree e))) run

-- no daemon may run after the one with a number, and nothing was done
pub record HasNone (w v : Writer) (old new : Shown) (after : ℕ) : Type 0 where
  pub none : first_such (may_run_after after) old.daemons ≡ None
  pub same : new ≡ old
  pub still : v ≡ w

-- the turn of the first daemon that may run after the one with a number, where there is one
abbrev pub HasTurn : Layout → Writer → Writer → Shown → Shown → ℕ → Option ℕ → Type 0
HasTurn l w v old new after None = HasNone w v old new after
HasTurn l w v old new after (Some number) = IsTurn l w v old new after number

-- the same turn, which memory was wanting for
pub record IsTurnCut (l : Layout) (w v : Writer) (old new : Shown) (after : ℕ) : Type 0 where
  pub entry : Entry
  pub e : Expr
  pub ran_out : IsRunOut old new after entry e unknown_run
  pub begun : Begins (cleared w) v (once_course l (input_of (expr_tree e)))
