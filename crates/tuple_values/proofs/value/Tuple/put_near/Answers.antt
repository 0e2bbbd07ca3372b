use Rattle.std.proofs.Common.{arith}
use Rattle.tuple_values.proofs.FieldLemmas.{insert_at, insert_rises}
use Rattle.tuple_values.proofs.value.Tuple.put_near.Goals as goal

pub insert-requires : goal.insert-requires
insert-requires c = let within = c.is_gap.ensures.within c.if-is_gap.true in omega arith

pub invariant_of-self-then-is_gap : goal.invariant_of-self-then-is_gap
invariant_of-self-then-is_gap c =
    let gap = rw (c.deref.ensures.value, c.as_str.ensures) at
    (c.is_gap.ensures.gap c.if-is_gap.true) in
    rw c.in_ok-insert.ensures.items (insert_rises _ _ _ gap c.self.invariant)

pub returns-then-is_gap-clause-ok : goal.returns-then-is_gap-clause-ok
returns-then-is_gap-clause-ok c =
    let gap = rw (c.deref.ensures.value, c.as_str.ensures) at
    (c.is_gap.ensures.gap c.if-is_gap.true) in
    rw (c.in_ok-insert.ensures.items, ← c.self.view_is) (insert_at _ _ _ gap)
