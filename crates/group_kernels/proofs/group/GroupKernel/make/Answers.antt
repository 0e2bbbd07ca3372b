use Rattle.std.proofs.Common.{ap, map, ◌∙◌}
use Rattle.group_kernels.specs.Runs.{spans}
use Rattle.expr_types.specs.Groups.{same_key}
use Rattle.group_kernels.specs.Work.{worked}
use Rattle.group_kernels.proofs.SpanLemmas.{spans-sorted}
use Rattle.group_kernels.proofs.group.GroupKernel.make.Goals as goal

pub returns-clause-out : goal.returns-clause-out
returns-clause-out c = λ docs sorted.
    let names = c.args.names in
    ap (λ run. map (worked names c.args.work) (spans (same_key names) run docs))
    c.new.ensures.items
    ∙ ap (map (worked names c.args.work)) (spans-sorted names docs sorted)
