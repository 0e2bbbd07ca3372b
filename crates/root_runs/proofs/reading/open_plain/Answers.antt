use Rattle.std.proofs.Common.{[], subst}
use Rattle.std.specs.Prelude.{Ok, Err}
use Rattle.exchange_rules.specs.Calls.{Completed}
use Rattle.exchange_rules.specs.Courses.{ends}
use Rattle.exchange_rules.specs.Rows.{cut_course}
use Rattle.expr_check.specs.Views.{tree_of}
use Rattle.expr_check.specs.Walk.{collections_of}
use Rattle.root_runs.specs.Lists.{list_over}
use Rattle.root_runs.proofs.CarriedLemmas.{first_stopped}
use Rattle.root_runs.proofs.RootLemmas.{list_carried}
use Rattle.root_runs.proofs.reading.open_plain.Goals as goal

pub returns-in-Ok-clause-course : goal.returns-in-Ok-clause-course
returns-in-Ok-clause-course g c =
    let w = g.T.Turns.writer c.args.site.now in
    let new = g.T.Turns.writer c.take_cut_over.new.site in
    let l = g.T.Turns.layout c.args.site.now in
    let cut = subst (λ names. Completed w new (cut_course l.names [] names) (Ok c.in-Ok.cut))
    c.collections.ensures c.in-Ok.ensures.course in
    list_carried w new l (tree_of c.args.checked.now) c.in-Ok.cut c.evaluate.result cut.reached
    c.evaluate.ensures

pub returns-clause-course : goal.returns-clause-course
returns-clause-course g c =
    let w = g.T.Turns.writer c.args.site.now in
    let new = g.T.Turns.writer c.take_cut_over.new.site in
    let l = g.T.Turns.layout c.args.site.now in
    let e = tree_of c.args.checked.now in
    let stopped =
    subst (λ names. Completed w new (cut_course l.names [] names) (Err c.in-Err.field-0))
    c.collections.ensures c.in-Err.ensures.course in
    first_stopped w new (cut_course l.names [] (collections_of e)) (λ cut. ends (list_over e cut))
    c.in-Err.field-0 stopped
