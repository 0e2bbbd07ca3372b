-- What daemons do that are run once each, as courses (Solr Reference Guide, "Stream Decorator
-- Reference", daemon; the order and what is counted are own).
use Rattle.std.specs.Prelude.{◌==◌, ◌&&◌, List, [], ◌∷◌, Option, Some, None, if◌then◌else◌}
use Rattle.std.specs.Option.{is_none}
use Rattle.exchange_rules.specs.Courses.{Course, ends, and_then}
use Rattle.exchange_rules.specs.Rows.{Layout}
use Rattle.expr_types.specs.ExprTree.{ExprTree}
use Rattle.expr_check.specs.Parts.{input_of}
use Rattle.root_runs.specs.Runs.{root_course}
use Rattle.root_runs.specs.declared.done.Done.{Done}
use Rattle.daemon_board.specs.Daemons.{is_running, later}
use Rattle.daemon_board.specs.Tickets.{Ticket}
use Rattle.daemon_board.specs.declared.daemon.State.{State}
use Rattle.daemon_board.specs.declared.daemon.State.TheVariants.{Ended}
use Rattle.daemon_steps.specs.declared.once.Once.{Once}

-- the state after a run: a daemon that is to terminate ends after a run without a fault that read
-- nothing
abbrev pub state_of_run : Ticket → Once → State
state_of_run t run =
    if t.terminate && is_none run.fault && run.read == 0 then Ended else t.state

-- a daemon after a run, which is counted
abbrev pub ran : Ticket → Once → Ticket
ran t run = record t {
  state = state_of_run t run;
  runs = later t.runs 1;
  fault = run.fault;
}

-- a run of which nothing is known
abbrev pub unknown_run : Once
unknown_run = record { read = 1; fault = None }

-- what a run that did so read, and its fault
abbrev pub run_of : Done → Once
run_of done = record { read = done.read; fault = done.exception }

-- one run of the input that an expression has; where it has none, nothing is done
abbrev pub once_course : Layout → Option ExprTree → Course Once
once_course l None = ends unknown_run
once_course l (Some input) = and_then (root_course l input) (λ done. ends (run_of done))

-- one run of a daemon with this expression; one whose expression is out isn't run
abbrev pub turn_course : Layout → Ticket → Option ExprTree → Course Ticket
turn_course l t None = ends t
turn_course l t (Some e) = and_then (once_course l (input_of e)) (λ run. ends (ran t run))

-- one run of a daemon, where it runs
abbrev pub step_course : Layout → Ticket → Course Ticket
step_course l t = if is_running t.state then turn_course l t t.tree else ends t

-- one run of each daemon, one after another in order
abbrev pub steps_course : Layout → List Ticket → Course (List Ticket)
steps_course l [] = ends []
steps_course l (t ∷ tickets) =
    and_then (step_course l t)
    (λ first. and_then (steps_course l tickets) (λ others. ends (first ∷ others)))
