use Rattle.std.proofs.Common.{ℕ, List, ap, ◌∙◌, sym, Bor}
use Rattle.std.proofs.lemmas.Result.{err_from_is_err_and}
use Rattle.std.specs.Prelude.{Some, option_map}
use Rattle.stream_handler.specs.Requests.{stream_course}
use Rattle.stream_handler.proofs.CarriedLemmas.{nothing_carried}
use Rattle.stream_handler.proofs.RootLemmas.{given_asked, given_carried, missing_asked, missing_told}
use Rattle.stream_handler.proofs.expression.stream_question.Goals as goal

pub returns-in-Some-clause-course : goal.returns-in-Some-clause-course
returns-in-Some-clause-course g c =
    let given = option_map (λ (s : Bor (List ℕ)). s.now) c.args.expr in
    let is = ap (option_map (λ (s : Bor (List ℕ)). s.now)) c.in-Some.is in
    given_carried (g.T.Turns.layout c.args.site.now) given c.as_bytes.result.now
    (is ∙ ap Some (sym c.as_bytes.ensures.value)) _ _
    c.expression_question.result c.expression_question.ensures.course

pub returns-in-Some-clause-asks : goal.returns-in-Some-clause-asks
returns-in-Some-clause-asks g c =
    let given = option_map (λ (s : Bor (List ℕ)). s.now) c.args.expr in
    let is = ap (option_map (λ (s : Bor (List ℕ)). s.now)) c.in-Some.is in
    given_asked (g.T.Turns.layout c.args.site.now) given c.as_bytes.result.now
    (is ∙ ap Some (sym c.as_bytes.ensures.value))
    c.expression_question.result c.expression_question.ensures.asks

pub returns-in_err-outcome-in-None-clause-course : goal.returns-in_err-outcome-in-None-clause-course
returns-in_err-outcome-in-None-clause-course g c =
    let l = g.T.Turns.layout c.args.site.now in
    let given = option_map (λ (s : Bor (List ℕ)). s.now) c.args.expr in
    let r = err_from_is_err_and c.from_residual.result c.from_residual.ensures.1 in
    nothing_carried (g.T.Turns.writer c.args.site.now) (λ told. stream_course l told given)
    c.from_residual.result r.0 r.1

pub returns-in_ok-outcome-in-None-clause-course : goal.returns-in_ok-outcome-in-None-clause-course
returns-in_ok-outcome-in-None-clause-course g c =
    let l = g.T.Turns.layout c.args.site.now in
    let given = option_map (λ (s : Bor (List ℕ)). s.now) c.args.expr in
    let none = ap (option_map (λ (s : Bor (List ℕ)). s.now)) c.in-None.is in
    missing_told (g.T.Turns.writer c.args.site.now) l given c.in_ok-outcome-in-None.outcome none
    c.in_ok-outcome-in-None.ensures

pub returns-in_ok-outcome-in-None-clause-asks : goal.returns-in_ok-outcome-in-None-clause-asks
returns-in_ok-outcome-in-None-clause-asks g c =
    let given = option_map (λ (s : Bor (List ℕ)). s.now) c.args.expr in
    let none = ap (option_map (λ (s : Bor (List ℕ)). s.now)) c.in-None.is in
    missing_asked (g.T.Turns.layout c.args.site.now) given c.in_ok-outcome-in-None.outcome none
