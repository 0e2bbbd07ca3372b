use Rattle.tuple_values.proofs.FieldLemmas.{set_at, set_rises, insert_at, insert_rises}
use Rattle.tuple_values.proofs.value.Tuple.put_field.Goals as goal

pub invariant_of-self : goal.invariant_of-self
invariant_of-self c =
    let found = rw (c.deref.ensures.value, c.as_str.ensures) at c.in-Ok.ensures.found in
    set_rises _ _ _ found c.self.invariant

pub invariant_of-self-in-Err : goal.invariant_of-self-in-Err
invariant_of-self-in-Err c =
    let absent = rw (c.deref.ensures.value, c.as_str.ensures) at c.in-Err.ensures.absent in
    rw c.in_ok-insert-in-Err.ensures.items (insert_rises _ _ _ absent c.self.invariant)

pub returns-in-Ok-clause-ok : goal.returns-in-Ok-clause-ok
returns-in-Ok-clause-ok c =
    let found = rw (c.deref.ensures.value, c.as_str.ensures) at c.in-Ok.ensures.found in
    rw (← c.self.view_is) (set_at _ _ _ found)

pub returns-in_ok-insert-in-Err-clause-ok : goal.returns-in_ok-insert-in-Err-clause-ok
returns-in_ok-insert-in-Err-clause-ok c =
    let absent = rw (c.deref.ensures.value, c.as_str.ensures) at c.in-Err.ensures.absent in
    rw (c.in_ok-insert-in-Err.ensures.items, ← c.self.view_is) (insert_at _ _ _ absent)
