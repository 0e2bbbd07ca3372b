use Rattle.std.proofs.lemmas.Result.{err_from_is_err_and}
use Rattle.stream_handler.proofs.BoardLemmas.{answer_picked, unprepared}
use Rattle.stream_handler.proofs.question.ask.Goals as goal

pub returns-in_err-prepared : goal.returns-in_err-prepared
returns-in_err-prepared g c =
    let r = err_from_is_err_and c.from_residual.result c.from_residual.ensures.1 in
    unprepared c.args.now c.args.question _ _ c.from_residual.result r.0 r.1
    c.in_err-prepared.ensures.same

pub returns : goal.returns
returns g c =
    answer_picked c.args.now c.args.question _ _ _ c.in_ok-prepared.prepared c.ask.result
    c.in_ok-prepared.ensures.prepared c.in_ok-prepared.ensures.same c.ask.ensures
