-- The courses of daemons look first.
use Rattle.std.proofs.Common.{[], ◌∷◌, Option, Some, None}
use Rattle.exchange_rules.specs.Courses.{ends, and_then}
use Rattle.exchange_rules.specs.Looking.{LooksFirst}
use Rattle.exchange_rules.specs.Rows.{Layout}
use Rattle.exchange_rules.proofs.LookingLemmas.{either, then_first}
use Rattle.expr_types.specs.ExprTree.{ExprTree}
use Rattle.expr_check.specs.Parts.{input_of}
use Rattle.root_runs.specs.Runs.{root_course}
use Rattle.root_runs.proofs.RootLemmas.{roots_first}
use Rattle.daemon_board.specs.Daemons.{is_running}
use Rattle.daemon_board.specs.Tickets.{Ticket}
use Rattle.daemon_steps.specs.Laws.{StepsLookFirst}
use Rattle.daemon_steps.specs.Steps.{once_course, ran, run_of, step_course, steps_course, turn_course}

once_first : (l : Layout) (input : Option ExprTree) → LooksFirst None (once_course l input)
once_first l None = tt
once_first l (Some e) =
    then_first None (root_course l e) (λ done. ends (run_of done)) (roots_first.root l e) (λ done. tt)

turn_first : (l : Layout) (t : Ticket) (tree : Option ExprTree)
    → LooksFirst None (turn_course l t tree)
turn_first l t None = tt
turn_first l t (Some e) =
    then_first None (once_course l (input_of e)) (λ run. ends (ran t run))
    (once_first l (input_of e)) (λ run. tt)

-- those of all daemons, one after another
pub steps_first : StepsLookFirst
steps_first l [] = tt
steps_first l (t ∷ tickets) =
    then_first None (step_course l t)
    (λ first. and_then (steps_course l tickets) (λ others. ends (first ∷ others)))
    (either None (is_running t.state) (turn_course l t t.tree) (ends t) (turn_first l t t.tree) tt)
    (λ first. then_first None (steps_course l tickets) (λ others. ends (first ∷ others))
    (steps_first l tickets) (λ others. tt))
