use Rattle.std.proofs.Common.{ap, sym}
use Rattle.std.proofs.lemmas.Result.{err_from_is_err_and}
use Rattle.std.specs.Prelude.{Ok}
use Rattle.form_request.specs.declared.request.Handler.TheVariants.{Stream, Update}
use Rattle.stream_handler.specs.Asks.{handled_ask}
use Rattle.stream_handler.specs.Requests.{handled}
use Rattle.stream_handler.specs.declared.outcome.Outcome.TheVariants.{Indexed}
use Rattle.stream_handler.specs.declared.question.Question.TheVariants as question
use Rattle.stream_handler.proofs.BoardLemmas.{same_ask}
use Rattle.stream_handler.proofs.CarriedLemmas.{same_course, site_done, site_stopped}
use Rattle.stream_handler.proofs.request.handled_question.Goals as goal

pub returns-in-Stream-clause-course : goal.returns-in-Stream-clause-course
returns-in-Stream-clause-course g c =
    let l = g.T.Turns.layout c.args.site.now in
    let r = c.args.request.now in
    same_course _ _ (λ told. handled l told r Stream) (λ told. handled l told r r.handler)
    c.acted_question.result (λ told. ap (handled l told r) c.in-Stream.is)
    c.acted_question.ensures.course

pub returns-in-Stream-clause-asks : goal.returns-in-Stream-clause-asks
returns-in-Stream-clause-asks g c =
    let names = (g.T.Turns.layout c.args.site.now).names in
    let r = c.args.request.now in
    same_ask (handled_ask names r r.handler) (handled_ask names r Stream) c.acted_question.result
    (ap (handled_ask names r) c.in-Stream.is) c.acted_question.ensures.asks

pub returns-in_err-outcome-in-Update-clause-course
    : goal.returns-in_err-outcome-in-Update-clause-course
returns-in_err-outcome-in-Update-clause-course g c =
    let l = g.T.Turns.layout c.args.site.now in
    let r = c.args.request.now in
    let from = err_from_is_err_and c.from_residual.result c.from_residual.ensures.1 in
    same_course _ _ (λ told. handled l told r Update) (λ told. handled l told r r.handler)
    c.from_residual.result (λ told. ap (handled l told r) c.in-Update.is)
    (site_stopped _ _ (λ told. handled l told r Update) Indexed c.from_residual.result from.0 from.1
    c.in_err-outcome-in-Update.ensures.course)

pub returns-in_ok-outcome-in-Update-clause-course
    : goal.returns-in_ok-outcome-in-Update-clause-course
returns-in_ok-outcome-in-Update-clause-course g c =
    let l = g.T.Turns.layout c.args.site.now in
    let r = c.args.request.now in
    let w = g.T.Turns.writer c.args.site.now in
    let new = g.T.Turns.writer c.run_updated.new.site in
    let o = c.in_ok-outcome-in-Update.outcome in
    same_course w new (λ told. handled l told r Update) (λ told. handled l told r r.handler)
    (Ok (question.Nothing o)) (λ told. ap (handled l told r) c.in-Update.is)
    (site_done w new (handled l Indexed r Update) o c.in_ok-outcome-in-Update.ensures.course)

pub returns-in_ok-outcome-in-Update-clause-asks : goal.returns-in_ok-outcome-in-Update-clause-asks
returns-in_ok-outcome-in-Update-clause-asks g c =
    let names = (g.T.Turns.layout c.args.site.now).names in
    let r = c.args.request.now in
    sym (ap (handled_ask names r) c.in-Update.is)
