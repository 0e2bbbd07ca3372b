use Rattle.std.proofs.Common.{◌≡◌, ap, subst}
use Rattle.std.specs.Prelude.{IfOk}
use Rattle.expr_check.specs.Roots.{IsRootOf}
use Rattle.expr_check.specs.Views.{tree_of}
use Rattle.expr_check.specs.declared.root.Root.{Root}
use Rattle.expr_types.specs.ExprTree.{expr_tree, operator_in}
use Rattle.root_runs.specs.Deeds.{deed_of}
use Rattle.root_runs.specs.Dones.{misplaced}
use Rattle.root_runs.specs.Runs.{root_by, root_course}
use Rattle.root_runs.proofs.CarriedLemmas.{ends_with}
use Rattle.root_runs.proofs.running.run_deed.Goals as goal

pub returns-in-Daemon-clause-course : goal.returns-in-Daemon-clause-course
returns-in-Daemon-clause-course g c =
    let l = g.T.Turns.layout c.args.site.now in
    let e = tree_of c.args.checked.now in
    let is = subst (λ (r : Root). IsRootOf e r) c.in-Daemon.is c.root.ensures.root in
    ends_with (g.T.Turns.writer c.args.site.now) (root_course l e) (misplaced e)
    c.misplaced.result (ap (λ t. root_by l e (deed_of (operator_in t))) is.0)
    (subst (λ x. IfOk c.misplaced.result (λ done. done ≡ misplaced (expr_tree x)))
    c.expr.ensures.value c.misplaced.ensures)
