use Rattle.std.proofs.Common.{◌≡◌, sym, subst}
use Rattle.std.specs.Prelude.{Err}
use Rattle.exchange_rules.specs.Following.{Answers}
use Rattle.expr_check.specs.Views.{tree_of}
use Rattle.expr_check.specs.declared.roots.Roots.TheVariants.{Plain}
use Rattle.expr_text.specs.Reading.{expression_of, IsTold}
use Rattle.stream_handler.specs.Requests.{plain_course}
use Rattle.root_runs.proofs.CarriedLemmas.{nothing_done}
use Rattle.stream_handler.proofs.CarriedLemmas.{plain_told}
use Rattle.stream_handler.proofs.ReadLemmas.{read_plain}
use Rattle.stream_handler.proofs.expression.run_plain_expression.Goals as goal

pub give-requires-clause-plain : goal.give-requires-clause-plain
give-requires-clause-plain g c κs bounds =
    read_plain c.names.result.now c.args.bytes.now (tree_of c.in-Ok.checked) c.in-Ok.ensures

pub returns-in-Err-Told-clause-course : goal.returns-in-Err-Told-clause-course
returns-in-Err-Told-clause-course g c =
    let w = g.T.Turns.writer c.args.site.now in
    let l = g.T.Turns.layout c.args.site.now in
    let text = c.in-Err-Told.text in
    let told =
    subst (λ f. IsTold (expression_of Plain c.names.result.now c.args.bytes.now) (Err f))
    c.in-Err-Told.field-0-is c.in-Err-Told.ensures in
    let read = subst (λ names. expression_of Plain names c.args.bytes.now ≡ Err text)
    c.names.ensures.names told in
    subst (λ o. Answers w w (plain_course l (expression_of Plain l.names c.args.bytes.now)) o)
    (sym c.exception.ensures) (plain_told w l (expression_of Plain l.names c.args.bytes.now) text read)

pub returns-in-Err-OutOfMemory-clause-course : goal.returns-in-Err-OutOfMemory-clause-course
returns-in-Err-OutOfMemory-clause-course g c =
    let l = g.T.Turns.layout c.args.site.now in
    nothing_done (g.T.Turns.writer c.args.site.now)
    (plain_course l (expression_of Plain l.names c.args.bytes.now))
