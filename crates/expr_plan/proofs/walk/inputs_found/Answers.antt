use Rattle.std.proofs.Common.{◌<◌, length, arith}
use Rattle.expr_reader.specs.Views.{arg_tree}
use Rattle.expr_plan.proofs.WalkLemmas.{found_more}
use Rattle.expr_plan.proofs.walk.inputs_found.Goals as goal
use Rattle.expr_plan.proofs.walk.inputs_found.Goals.{then-is_input, else-is_input}

pub loop-k-preserved : goal.loop-k-preserved
loop-k-preserved c =
    let lt : c.loop-k.k < length c.args.args.now = omega arith in
    let more = found_more c.args.place c.args.function c.args.args.now c.loop-k.k (arg_tree c.get.result.now) lt
    (c.get.ensures.value _) in
    elim c.if-is_input.branch [
      | then-is_input w ↦ omega (arith, more.0 (cc), w.found-is)
      | else-is_input w ↦ omega (arith, more.1 (cc), w.found-is)
    ]
