use Rattle.order_kernels.proofs.SlotLemmas.{known_on_place}
use Rattle.order_kernels.proofs.merge.first_open.Goals as goal

pub loop-i-preserved : goal.loop-i-preserved
loop-i-preserved c =
    let d = c.index-slots-i.result in
    known_on_place c.args.slots.now c.loop-i.i d c.loop-i-test.true c.loop-i.invariant
    (rw (← c.index-slots-i.is) c.if-is_open.ensures.known)
