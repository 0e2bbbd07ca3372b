use Rattle.std.proofs.Common.{◌<◌, ◌+◌, ◌++◌, length, drop, ap, ◌∙◌, arith}
use Rattle.expr_reader.specs.Views.{arg_tree}
use Rattle.expr_plan.specs.Items.{metric_names}
use Rattle.expr_plan.proofs.WordsLemmas.{metric_named}
use Rattle.expr_plan.proofs.metrics.metric_names.Goals as goal

pub loop-k-preserved : goal.loop-k-preserved
loop-k-preserved c =
    let lt : c.loop-k.k < length c.args.args.now = omega arith in
    ap (λ names. names ++ metric_names (drop (c.loop-k.k + 1) c.args.args.now))
    c.in_ok-push_some.ensures
    ∙ metric_named c.args.args.now c.loop-k.k (arg_tree c.get.result.now) c.loop-k.names
    c.in_ok-name.name lt (c.get.ensures.value _) c.in_ok-name.ensures c.loop-k.invariant
