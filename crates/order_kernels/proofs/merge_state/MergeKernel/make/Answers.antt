use Rattle.std.proofs.Common.{sym, ◌∙◌}
use Rattle.sort_spec.specs.Terms.{less}
use Rattle.order_kernels.proofs.SlotLemmas.{fresh_ready}
use Rattle.order_kernels.proofs.merge_state.MergeKernel.make.Goals as goal

pub returns-clause-ready : goal.returns-clause-ready
returns-clause-ready c = λ rests n a.
    rw c.in_ok-on.ensures
    (fresh_ready (less c.args.on.now) c.in_ok-slots.slots.items rests
    c.in_ok-slots.ensures.fresh
    (n ∙ sym c.in_ok-slots.ensures.len ∙ c.in_ok-slots.slots.ok.0) a)
