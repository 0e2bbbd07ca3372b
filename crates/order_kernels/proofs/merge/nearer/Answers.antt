use Rattle.std.proofs.Common.{sym, ◌∙◌}
use Rattle.sort_spec.specs.Terms.{less}
use Rattle.sort_spec.proofs.TermLemmas.{less_is_weak}
use Rattle.order_kernels.proofs.SlotLemmas.{foremost_empty, foremost_first, foremost_held}
use Rattle.order_kernels.proofs.SlotLemmas.{foremost_less, foremost_stays}
use Rattle.order_kernels.proofs.merge.nearer.Goals as goal

pub returns-in_default-clause-foremost : goal.returns-in_default-clause-foremost
returns-in_default-clause-foremost c =
    foremost_empty (less c.args.on.now) c.args.slots.now c.args.i c.index-slots-i.result
    c.args.best c.requires.within c.in_default.is c.requires.best

pub returns-in_default-best-clause-foremost : goal.returns-in_default-best-clause-foremost
returns-in_default-best-clause-foremost c =
    foremost_first (less c.args.on.now) c.args.slots.now c.args.i c.index-slots-i.result
    c.in-Some.tuple c.requires.within c.in-Some.is
    (rw c.in_default-best.is at c.requires.best)

pub returns-in_default-held-clause-foremost : goal.returns-in_default-held-clause-foremost
returns-in_default-held-clause-foremost c =
    let best = rw c.in-Some-best.is at c.requires.best in
    let some =
    foremost_held (less c.args.on.now) c.args.slots.now c.args.i c.in-Some-best.place
    c.index-slots-place.result c.requires.within best in
    let none = c.in_default-held.is in absurd (cc)

pub returns-then-is_less-clause-foremost : goal.returns-then-is_less-clause-foremost
returns-then-is_less-clause-foremost c =
    foremost_less (less c.args.on.now) (less_is_weak c.args.on.now) c.args.slots.now c.args.i
    c.in-Some-best.place c.index-slots-i.result c.index-slots-place.result c.in-Some.tuple
    c.in-Some-held.first
    c.requires.within c.in-Some.is
    c.in-Some-held.is
    (sym c.is_less.ensures ∙ c.if-is_less.true)
    (rw c.in-Some-best.is at c.requires.best)

pub returns-clause-foremost : goal.returns-clause-foremost
returns-clause-foremost c =
    foremost_stays (less c.args.on.now) c.args.slots.now c.args.i c.in-Some-best.place
    c.index-slots-i.result c.index-slots-place.result c.in-Some.tuple c.in-Some-held.first
    c.requires.within c.in-Some.is
    c.in-Some-held.is
    (sym c.is_less.ensures ∙ c.if-is_less.false)
    (rw c.in-Some-best.is at c.requires.best)
