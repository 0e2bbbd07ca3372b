use Rattle.std.proofs.Common.{sym, ap, ◌∙◌}
use Rattle.std.proofs.lemmas.Result.{err_from_is_err_and}
use Rattle.expr_check.specs.Views.{tree_of}
use Rattle.expr_types.specs.ExprTree.{operator_in}
use Rattle.stream_handler.specs.Asks.{daemon_of, root_ask}
use Rattle.stream_handler.specs.Requests.{root_or_told}
use Rattle.stream_handler.specs.declared.question.Question.TheVariants as question
use Rattle.stream_handler.proofs.CarriedLemmas.{nothing_carried}
use Rattle.stream_handler.proofs.RootLemmas.{root_done, root_stopped, root_told}
use Rattle.stream_handler.proofs.expression.checked_question.Goals as goal

pub returns-in_err-found-clause-course : goal.returns-in_err-found-clause-course
returns-in_err-found-clause-course g c =
    let e = tree_of c.args.checked in
    let l = g.T.Turns.layout c.args.site.now in
    let r = err_from_is_err_and c.from_residual.result c.from_residual.ensures.1 in
    nothing_carried (g.T.Turns.writer c.args.site.now)
    (λ told. root_or_told l told e (daemon_of (operator_in e))) c.from_residual.result r.0 r.1

pub returns-in-Some-clause-course : goal.returns-in-Some-clause-course
returns-in-Some-clause-course g c =
    let e = tree_of c.args.checked in
    let is = sym c.in_ok-found.ensures ∙ c.in-Some.is in
    root_told (g.T.Turns.layout c.args.site.now) e (daemon_of (operator_in e))
    (g.T.Turns.writer c.args.site.now) c.in-Some.daemon
    (question.Start c.in-Some.daemon c.args.checked) is

pub returns-in-Some-clause-asks : goal.returns-in-Some-clause-asks
returns-in-Some-clause-asks g c =
    let e = tree_of c.args.checked in
    let is = sym c.in_ok-found.ensures ∙ c.in-Some.is in
    sym (ap (root_ask e) is)

pub returns-in_err-outcome-in-None-clause-course : goal.returns-in_err-outcome-in-None-clause-course
returns-in_err-outcome-in-None-clause-course g c =
    let e = tree_of c.args.checked in
    let is = sym c.in_ok-found.ensures ∙ c.in-None.is in
    let from = c.from_residual-in_err-outcome-in-None in
    let r = err_from_is_err_and from.result from.ensures.1 in
    root_stopped (g.T.Turns.layout c.args.site.now) e (daemon_of (operator_in e)) _ _
    from.result r.0 is r.1 c.in_err-outcome-in-None.ensures.course

pub returns-in_ok-outcome-in-None-clause-course : goal.returns-in_ok-outcome-in-None-clause-course
returns-in_ok-outcome-in-None-clause-course g c =
    let e = tree_of c.args.checked in
    let is = sym c.in_ok-found.ensures ∙ c.in-None.is in
    root_done (g.T.Turns.layout c.args.site.now) e (daemon_of (operator_in e)) _ _
    c.in_ok-outcome-in-None.outcome is c.in_ok-outcome-in-None.ensures.course

pub returns-in_ok-outcome-in-None-clause-asks : goal.returns-in_ok-outcome-in-None-clause-asks
returns-in_ok-outcome-in-None-clause-asks g c =
    let e = tree_of c.args.checked in
    let is = sym c.in_ok-found.ensures ∙ c.in-None.is in
    sym (ap (root_ask e) is)
