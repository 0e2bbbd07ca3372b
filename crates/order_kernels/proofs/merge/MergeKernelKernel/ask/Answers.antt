use Rattle.std.proofs.Common.{rules, sym, ◌≡◌, subst, length, true, None, List}
use Rattle.std.specs.List.{AllByRecursion}
use Rattle.std.proofs.lemmas.List.{with_items_is}
use Rattle.order_kernels.specs.Slots.{held, flags}
use Rattle.order_kernels.specs.declared.merge_state.Slot.{Slot}
use Rattle.order_kernels.proofs.merge.MergeKernelKernel.ask.Goals as goal

pub returns-in-Some-take_least-clause-over : goal.returns-in-Some-take_least-clause-over
returns-in-Some-take_least-clause-over c = λ v.
    absurd (c.in-Some-take_least.ensures.some
    (subst (λ (l : List Slot). AllByRecursion (λ h. h ≡ None) (held l))
    (sym c.as_mut_slice.ensures.value) v.0))

pub returns-in-None-clause-at_end : goal.returns-in-None-clause-at_end
returns-in-None-clause-at_end c =
    let slots = c.args.self.now.slots in
    let len : length c.take_least.new.slots ≡ slots.len = search rules in
    let same = with_items_is slots c.take_least.new.slots len in
    subst
    (λ (l : List Slot). AllByRecursion (λ h. h ≡ None) (held l)
    × AllByRecursion (λ e. e ≡ true) (flags l))
    (sym same) c.in-None.ensures.over
