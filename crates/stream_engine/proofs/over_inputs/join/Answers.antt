use Rattle.std.proofs.Common.{◌∙◌, ap, sym, []}
use Rattle.expr_types.specs.ExprTree.{first_or, second_or}
use Rattle.expr_check.specs.Orders.{directions_of}
use Rattle.kernel_laws.specs.Rests.{Rests}
use Rattle.stream_engine.specs.Flows.{rests_of}
use Rattle.stream_engine.specs.Kernels.{any_ready, any_out, any_ended}
use Rattle.stream_engine.proofs.Openings.{two_rests, two_ready, read_orders}
use Rattle.merge_join.specs.JoinState as kernels
use Rattle.stream_engine.proofs.over_inputs.join.Goals as goal

pub over-requires-clause-ready : goal.over-requires-clause-ready
unfolding any_ready
over-requires-clause-ready c =
    let flows = c.args.inputs.items in
    let kernel = c.in_ok-kernel.kernel in
    let lists = rests_of flows in
    let read =
    read_orders c.args.on.now (directions_of c.args.orders.now) c.in_ok-order.order lists
    c.in_ok-order.ensures c.requires.sorted in
    two_ready (λ (rests : Rests). kernels.ready kernel rests) flows c.requires.two
    (c.in_ok-kernel.ensures.ready (first_or [] lists) (second_or [] lists) read.0 read.1)

pub over-requires-clause-width : goal.over-requires-clause-width
unfolding any_ended
over-requires-clause-width c = c.in_ok-kernel.ensures.width ∙ sym c.requires.two

pub returns-clause-list : goal.returns-clause-list
unfolding any_out
returns-clause-list c =
    let flows = c.args.inputs.items in
    let kernel = c.in_ok-kernel.kernel in
    let lists = rests_of flows in
    c.over.ensures.list
    ∙ ap (λ (rests : Rests). kernels.out kernel rests) (two_rests flows c.requires.two)
    ∙ c.in_ok-kernel.ensures.out (first_or [] lists) (second_or [] lists)
