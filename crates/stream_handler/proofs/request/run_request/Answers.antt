use Rattle.std.proofs.lemmas.Result.{err_from_is_err_and}
use Rattle.stream_handler.specs.Asks.{ask_of}
use Rattle.stream_handler.specs.Requests.{request_course}
use Rattle.stream_handler.proofs.BoardLemmas.{asked_by, unasked}
use Rattle.stream_handler.proofs.CarriedLemmas.{carried_before, told_answer}
use Rattle.stream_handler.proofs.request.run_request.Goals as goal

pub returns-in_err-question-clause-course : goal.returns-in_err-question-clause-course
returns-in_err-question-clause-course g c =
    let l = g.T.Turns.layout c.args.site.now in
    let r = err_from_is_err_and c.from_residual.result c.from_residual.ensures.1 in
    carried_before _ _ (λ told. request_course l told c.args.request.now)
    c.from_residual.result r.0 r.1 c.in_err-question.ensures.course

pub returns-in_err-question-clause-asked : goal.returns-in_err-question-clause-asked
returns-in_err-question-clause-asked g c =
    let l = g.T.Turns.layout c.args.site.now in
    let r = err_from_is_err_and c.from_residual.result c.from_residual.ensures.1 in
    unasked c.args.now (ask_of l.names c.args.request.now) _ c.from_residual.result r.0 r.1

pub returns-clause-course : goal.returns-clause-course
returns-clause-course g c =
    let l = g.T.Turns.layout c.args.site.now in
    told_answer c.args.now _ _ (λ told. request_course l told c.args.request.now)
    c.in_ok-question.question _ _ c.ask.result c.in_ok-question.ensures.course c.ask.ensures

pub returns-clause-asked : goal.returns-clause-asked
returns-clause-asked g c =
    let l = g.T.Turns.layout c.args.site.now in
    asked_by c.args.now (ask_of l.names c.args.request.now) c.in_ok-question.question
    _ _ c.ask.result c.in_ok-question.ensures.asks c.ask.ensures
