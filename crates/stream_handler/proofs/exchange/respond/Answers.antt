use Rattle.std.proofs.Common.{◌∙◌}
use Rattle.std.proofs.lemmas.Result.{err_from_is_err_and}
use Rattle.stream_handler.proofs.RespondLemmas.{picked_response, unprepared, unquestioned}
use Rattle.stream_handler.proofs.exchange.respond.Goals as goal

pub returns-in_err-question-clause-responded : goal.returns-in_err-question-clause-responded
returns-in_err-question-clause-responded g c =
    let from = err_from_is_err_and c.from_residual.result c.from_residual.ensures.1 in
    unquestioned _ _ _ _ _ c.args.request.now c.from_residual.result from.0 from.1
    c.in_err-question.ensures.course

pub returns-in_err-prepared-clause-responded : goal.returns-in_err-prepared-clause-responded
returns-in_err-prepared-clause-responded g c =
    let r = c.from_residual-in_err-prepared in
    let from = err_from_is_err_and r.result r.ensures.1 in
    unprepared _ _ _ _ _ _ c.args.request.now c.in_ok-question.question
    c.in_ok-question.ensures.course r.result from.0 from.1 c.in_err-prepared.ensures.same

pub returns-in_err-replies-clause-responded : goal.returns-in_err-replies-clause-responded
returns-in_err-replies-clause-responded g c =
    let r = c.from_residual-in_err-replies in
    let from = err_from_is_err_and r.result r.ensures.1 in
    unprepared _ _ _ _ _ _ c.args.request.now c.in_ok-question.question
    c.in_ok-question.ensures.course r.result from.0 from.1 c.in_ok-prepared.ensures.same

pub returns-in_err-reply-clause-responded : goal.returns-in_err-reply-clause-responded
returns-in_err-reply-clause-responded g c =
    let r = c.from_residual-in_err-reply in
    let from = err_from_is_err_and r.result r.ensures.1 in
    unprepared _ _ _ _ _ _ c.args.request.now c.in_ok-question.question
    c.in_ok-question.ensures.course r.result from.0 from.1
    (c.in_err-reply.ensures ∙ c.in_ok-prepared.ensures.same)

pub returns-clause-responded : goal.returns-clause-responded
returns-clause-responded g c =
    picked_response _ _ _ _ _ _ c.args.request.now c.in_ok-question.question
    c.in_ok-question.ensures.course _ c.in_ok-prepared.prepared c.in_ok-replies.replies
    c.in_ok-reply.reply c.now_ms-now.result c.since-millis.result c.now_ms-now.ensures
    c.since-millis.ensures c.in_ok-question.ensures.asks c.in_ok-prepared.ensures.prepared
    c.in_ok-prepared.ensures.same c.of.result c.of.ensures c.in_ok-replies.ensures
    c.in_ok-reply.ensures
