use Rattle.std.proofs.lemmas.Result.{err_from_is_err_and}
use Rattle.exchange_rules.specs.Following.{Begins, cleared}
use Rattle.expr_check.specs.Parts.{input_of}
use Rattle.expr_check.specs.Views.{tree_of}
use Rattle.daemon_steps.specs.Steps.{once_course}
use Rattle.daemon_steps.proofs.TurnLemmas.{at_err, once_cut, once_done, once_nothing}
use Rattle.daemon_steps.proofs.once.run_once.Goals as goal

pub returns-in_default-clause-ok : goal.returns-in_default-clause-ok
returns-in_default-clause-ok g c =
    once_nothing (g.T.Turns.layout c.args.site.now) (g.T.Turns.writer c.args.site.now)
    (g.T.Turns.writer c.take_record_over.new.site) (input_of (tree_of c.args.checked.now))
    c.in_default.ensures c.take_record_over.ensures.rest

pub returns-in_err-run-clause-err : goal.returns-in_err-run-clause-err
returns-in_err-run-clause-err g c =
    let w = g.T.Turns.writer c.args.site.now in
    let v = g.T.Turns.writer c.run_root.new.site in
    let l = g.T.Turns.layout c.args.site.now in
    let input = input_of (tree_of c.args.checked.now) in
    let r = err_from_is_err_and c.from_residual.result c.from_residual.ensures.1 in
    at_err c.from_residual.result r.0 (Begins (cleared w) v (once_course l input)) r.1
    (once_cut l w v input (tree_of c.in-Some.input.now) c.in-Some.ensures c.in_err-run.ensures.err)

pub returns-clause-ok : goal.returns-clause-ok
returns-clause-ok g c =
    once_done (g.T.Turns.layout c.args.site.now) (g.T.Turns.writer c.args.site.now)
    (g.T.Turns.writer c.run_root.new.site) (input_of (tree_of c.args.checked.now))
    (tree_of c.in-Some.input.now) c.in_ok-run.run' c.in-Some.ensures c.in_ok-run.ensures.ok
