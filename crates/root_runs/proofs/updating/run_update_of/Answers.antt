use Rattle.std.proofs.Common.{◌∙◌, sym}
use Rattle.std.specs.Prelude.{Some}
use Rattle.expr_check.specs.Views.{tree_of}
use Rattle.root_runs.specs.Dones.{unknown}
use Rattle.root_runs.specs.Runs.{update_over, update_with}
use Rattle.root_runs.proofs.CarriedLemmas.{ends_with}
use Rattle.root_runs.proofs.RootLemmas.{there_told}
use Rattle.root_runs.proofs.updating.run_update_of.Goals as goal

pub returns-then-not-is_there-clause-course : goal.returns-then-not-is_there-clause-course
returns-then-not-is_there-clause-course g c =
    let w = g.T.Turns.writer c.args.site.now in
    let l = g.T.Turns.layout c.args.site.now in
    let input = Some (tree_of c.args.update.now.input.now) in
    let dest = c.args.update.now.dest.now in
    let size = c.args.update.now.batch_size in
    ends_with w (update_over l dest size input) (unknown dest) c.unknown.result
    (there_told l.names dest (update_with l dest size input)
    (sym c.is_there.ensures ∙ c.if-not-is_there.true)) c.unknown.ensures
