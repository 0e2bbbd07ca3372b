use Rattle.std.proofs.Common.{◌≡◌, ◌∙◌, ap, arith}
use Rattle.std.proofs.lemmas.Int.{to_z-of_z}
use Rattle.std.specs.Int.{w64}
use Rattle.group_kernels.specs.Numbers.{added}
use Rattle.group_kernels.proofs.NumberLemmas.{sum_on_place}
use Rattle.group_kernels.proofs.metric.sum_of.Goals as goal
use mir.Val.{to_z, of_z}

pub loop-tuple-preserved : goal.loop-tuple-preserved
loop-tuple-preserved c =
    let sum = c.added-sum.result in
    let fits : to_z w64 (of_z w64 sum) ≡ sum = grind (arith, to_z-of_z) in
    fits
    ∙ c.added-sum.ensures
    ∙ ap (added (to_z w64 c.loop-tuple.sum-bits)) c.number_at.ensures
    ∙ sum_on_place c.args.field.now c.args.run.now c.loop-tuple.tuple-index c.tuple-item.result
    (to_z w64 c.loop-tuple.sum-bits) c.loop-tuple-test.true c.tuple-item.is
    c.loop-tuple.invariant
