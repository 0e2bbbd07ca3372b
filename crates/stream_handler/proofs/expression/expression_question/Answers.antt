use Rattle.std.proofs.Common.{refl, sym, subst}
use Rattle.std.specs.Prelude.{Ok, Err}
use Rattle.tuple_values.specs.declared.memory.Memory.TheVariants.{OutOfMemory}
use Rattle.expr_check.specs.Views.{tree_of}
use Rattle.expr_check.specs.declared.roots.Roots.TheVariants.{All}
use Rattle.expr_text.specs.Reading.{expression_of, IsTold}
use Rattle.stream_handler.specs.Asks.{expression_ask}
use Rattle.stream_handler.specs.Questions.{Asks, CarriedTo}
use Rattle.stream_handler.specs.Requests.{expression_course}
use Rattle.stream_handler.specs.declared.outcome.Outcome.{Outcome}
use Rattle.stream_handler.specs.declared.question.Question.TheVariants as question
use Rattle.stream_handler.proofs.CarriedLemmas.{nothing_carried}
use Rattle.stream_handler.proofs.RootLemmas.{read_asked, read_carried, unread_asked, unread_told}
use Rattle.stream_handler.proofs.expression.expression_question.Goals as goal

pub returns-in-Ok-clause-course : goal.returns-in-Ok-clause-course
returns-in-Ok-clause-course g c =
    read_carried (g.T.Turns.layout c.args.site.now) c.names.result.now c.args.bytes.now
    c.names.ensures.names _ _ (tree_of c.in-Ok.checked) c.checked_question.result c.in-Ok.ensures
    c.checked_question.ensures.course

pub returns-in-Ok-clause-asks : goal.returns-in-Ok-clause-asks
returns-in-Ok-clause-asks g c =
    read_asked (g.T.Turns.layout c.args.site.now) c.names.result.now c.args.bytes.now
    c.names.ensures.names (tree_of c.in-Ok.checked) c.checked_question.result c.in-Ok.ensures
    c.checked_question.ensures.asks

pub returns-in-Err-Told-clause-course : goal.returns-in-Err-Told-clause-course
returns-in-Err-Told-clause-course g c =
    let w = g.T.Turns.writer c.args.site.now in
    let l = g.T.Turns.layout c.args.site.now in
    let told =
    subst (λ f. IsTold (expression_of All c.names.result.now c.args.bytes.now) (Err f))
    c.in-Err-Told.field-0-is c.in-Err-Told.ensures in
    subst (λ (o : Outcome). CarriedTo w w
    (λ told. expression_course l told (expression_of All l.names c.args.bytes.now))
    (Ok (question.Nothing o))) (sym c.exception.ensures)
    (unread_told l c.names.result.now c.args.bytes.now c.names.ensures.names w c.in-Err-Told.text
    told)

pub returns-in-Err-Told-clause-asks : goal.returns-in-Err-Told-clause-asks
returns-in-Err-Told-clause-asks g c =
    let l = g.T.Turns.layout c.args.site.now in
    let told =
    subst (λ f. IsTold (expression_of All c.names.result.now c.args.bytes.now) (Err f))
    c.in-Err-Told.field-0-is c.in-Err-Told.ensures in
    subst (λ (o : Outcome). Asks (expression_ask (expression_of All l.names c.args.bytes.now))
    (question.Nothing o)) (sym c.exception.ensures)
    (unread_asked l c.names.result.now c.args.bytes.now c.names.ensures.names c.in-Err-Told.text
    told)

pub returns-in-Err-OutOfMemory-clause-course : goal.returns-in-Err-OutOfMemory-clause-course
returns-in-Err-OutOfMemory-clause-course g c =
    let l = g.T.Turns.layout c.args.site.now in
    nothing_carried (g.T.Turns.writer c.args.site.now)
    (λ told. expression_course l told (expression_of All l.names c.args.bytes.now))
    (Err OutOfMemory) OutOfMemory refl
