use Rattle.std.proofs.Common.{sym, ◌∙◌, ap, subst, map}
use Rattle.expr_types.specs.Groups.{same_key, groups, reduced}
use Rattle.expr_types.specs.Orders.{IsSortedOver}
use Rattle.group_kernels.proofs.reduce.ReduceKernel.make.Goals as goal

pub returns-clause-out : goal.returns-clause-out
returns-clause-out c = λ docs sorted.
    let by = c.args.by.now in
    c.make-groups.ensures.out docs
    (subst (λ names. IsSortedOver names docs) (sym c.in_ok-by.ensures) sorted)
    ∙ ap (λ names. map (reduced c.in_ok-op.op) (groups (same_key names) docs)) c.in_ok-by.ensures
    ∙ ap (λ op. map (reduced op) (groups (same_key by) docs)) c.in_ok-op.ensures
