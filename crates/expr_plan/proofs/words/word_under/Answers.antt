use Rattle.std.proofs.Common.{◌<◌, length, sym, ◌∙◌, refl, arith}
use Rattle.expr_reader.specs.Views.{arg_tree}
use Rattle.expr_plan.proofs.WordsLemmas.{word_under-drop}
use Rattle.expr_plan.proofs.words.word_under.Goals as goal

pub returns-in-Some : goal.returns-in-Some
returns-in-Some c =
    let lt : c.loop-k.k < length c.args.args.now = omega arith in
    sym (c.loop-k.invariant
    ∙ word_under-drop c.args.key.now c.args.args.now c.loop-k.k (arg_tree c.get.result.now) lt
    (c.get.ensures.value _)
    ∙ rw (sym c.in-Some.ensures) refl)

pub loop-k-preserved : goal.loop-k-preserved
loop-k-preserved c =
    let lt : c.loop-k.k < length c.args.args.now = omega arith in
    c.loop-k.invariant
    ∙ word_under-drop c.args.key.now c.args.args.now c.loop-k.k (arg_tree c.get.result.now) lt
    (c.get.ensures.value _)
    ∙ rw (sym c.in-None.ensures) refl
