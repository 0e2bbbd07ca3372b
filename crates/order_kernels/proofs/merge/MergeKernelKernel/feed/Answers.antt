use Rattle.sort_spec.specs.Terms.{less}
use Rattle.order_kernels.specs.Slots.{held, flags}
use Rattle.order_kernels.proofs.SlotLemmas.{fed_out, fed_ready, ended_ready}
use Rattle.order_kernels.proofs.merge.MergeKernelKernel.feed.Goals as goal

pub returns-in-Some-clause-out : goal.returns-in-Some-clause-out
returns-in-Some-clause-out c =
    let slots = c.args.self.now.slots.items in
    rw c.in-Some.is (λ rests a.
    fed_out (less c.args.self.now.on) c.args.input c.in-Some.tuple (held slots)
    (held c.hold.new.slots.items) c.requires.waits c.hold.ensures.held rests)

pub returns-in-Some-clause-ready : goal.returns-in-Some-clause-ready
returns-in-Some-clause-ready c =
    let slots = c.args.self.now.slots.items in
    rw c.in-Some.is (λ rests a.
    fed_ready (less c.args.self.now.on) c.args.input c.in-Some.tuple (held slots)
    (held c.hold.new.slots.items) (flags slots) (flags c.hold.new.slots.items)
    c.requires.waits c.hold.ensures.held c.hold.ensures.flags rests a)

pub returns-in-None-clause-ready_at_end : goal.returns-in-None-clause-ready_at_end
returns-in-None-clause-ready_at_end c =
    let slots = c.args.self.now.slots.items in
    rw c.in-None.is (λ rests n a.
    ended_ready (less c.args.self.now.on) c.args.input (held slots)
    (held c.end.new.slots.items) (flags slots) (flags c.end.new.slots.items)
    c.end.ensures.held c.end.ensures.flags rests n a)
