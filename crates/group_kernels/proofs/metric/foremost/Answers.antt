use Rattle.std.proofs.Common.{◌∙◌, ap}
use Rattle.group_kernels.specs.Numbers.{nearer, of_two}
use Rattle.group_kernels.proofs.NumberLemmas.{foremost_on_place}
use Rattle.group_kernels.proofs.metric.foremost.Goals as goal

pub loop-tuple-preserved : goal.loop-tuple-preserved
loop-tuple-preserved c =
    let two = of_two c.args.greatest in
    c.nearer-best.ensures
    ∙ ap (nearer two c.loop-tuple.best) c.number_at.ensures
    ∙ foremost_on_place two c.args.field.now c.args.run.now c.loop-tuple.tuple-index
    c.tuple-item.result c.loop-tuple.best c.loop-tuple-test.true c.tuple-item.is
    c.loop-tuple.invariant
