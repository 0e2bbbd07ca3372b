use Rattle.std.proofs.Common.{ap}
use Rattle.sort_spec.specs.Terms.{less}
use Rattle.sort_spec.specs.Sorting.{ins_sort}
use Rattle.sort_spec.proofs.TermLemmas.{less_is_weak}
use Rattle.order_kernels.specs.Slots.{held, flags}
use Rattle.order_kernels.proofs.MergeLemmas.{least_not_none, none_joined}
use Rattle.order_kernels.proofs.SlotLemmas.{known_over, taken_out, taken_some, taken_flow}
use Rattle.order_kernels.proofs.SlotLemmas.{flags_same}
use Rattle.order_kernels.proofs.merge.take_least.Goals as goal

pub returns-in-None-clause-end : goal.returns-in-None-clause-end
returns-in-None-clause-end c = λ rests f.
    let lt = less c.args.on.now in
    let slots = c.args.slots.now in
    ap (λ w. ins_sort lt w)
    (none_joined lt (held slots) (flags slots) rests c.in-None.ensures.foremost c.requires f)

pub returns-in-None-clause-over : goal.returns-in-None-clause-over
returns-in-None-clause-over c =
    (c.in-None.ensures.foremost, known_over c.args.slots.now c.in-None.ensures.foremost c.requires)

pub returns-clause-out : goal.returns-clause-out
returns-clause-out c =
    let first = c.in-Some.ensures.foremost in
    taken_out (less c.args.on.now) (less_is_weak c.args.on.now) c.args.slots.now c.in-Some.place
    first.0 c.index-slots-place.result c.take.result _ first.1 c.in-Some.ensures.within
    c.take.ensures.value c.take.ensures.after c.requires

pub returns-clause-flows : goal.returns-clause-flows
returns-clause-flows c =
    taken_flow (less c.args.on.now) c.args.slots.now c.in-Some.place c.index-slots-place.result
    _ c.take.ensures.after

pub returns-clause-end : goal.returns-clause-end
returns-clause-end c =
    let first = c.in-Some.ensures.foremost in
    let some =
    taken_some (less c.args.on.now) c.args.slots.now c.in-Some.place first.0
    c.index-slots-place.result c.take.result first.1 c.in-Some.ensures.within
    c.take.ensures.value in
    rw some tt

pub returns-clause-flags : goal.returns-clause-flags
returns-clause-flags c =
    flags_same c.args.slots.now c.in-Some.place c.index-slots-place.result _

pub returns-clause-over : goal.returns-clause-over
returns-clause-over c =
    let first = c.in-Some.ensures.foremost in
    let some =
    taken_some (less c.args.on.now) c.args.slots.now c.in-Some.place first.0
    c.index-slots-place.result c.take.result first.1 c.in-Some.ensures.within
    c.take.ensures.value in
    rw some tt

pub returns-clause-some : goal.returns-clause-some
returns-clause-some c =
    let lt = less c.args.on.now in
    let place = c.in-Some.place in
    let first = c.in-Some.ensures.foremost in
    let some =
    taken_some lt c.args.slots.now place first.0 c.index-slots-place.result c.take.result
    first.1 c.in-Some.ensures.within c.take.ensures.value in
    rw some (λ n. least_not_none lt first.0 place (held c.args.slots.now) first.1 n)
