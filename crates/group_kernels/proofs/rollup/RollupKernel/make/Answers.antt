use Rattle.std.proofs.Common.{sym, ◌∙◌, ap, subst, map}
use Rattle.expr_types.specs.Groups.{same_key, groups, rolled}
use Rattle.expr_types.specs.Orders.{IsSortedOver}
use Rattle.group_kernels.proofs.rollup.RollupKernel.make.Goals as goal

pub returns-clause-out : goal.returns-clause-out
returns-clause-out c = λ docs sorted.
    let over = c.args.over.now in
    c.make-groups.ensures.out docs
    (subst (λ names. IsSortedOver names docs) (sym c.in_ok-over.ensures) sorted)
    ∙ ap (λ names. map (rolled names (map (λ n. n.metric) c.in_ok-metrics.metrics.items))
    (groups (same_key names) docs)) c.in_ok-over.ensures
    ∙ ap (λ metrics. map (rolled over metrics) (groups (same_key over) docs))
    (c.in_ok-metrics.ensures ∙ c.as_slice.ensures)
