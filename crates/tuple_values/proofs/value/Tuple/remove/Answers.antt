use Rattle.std.proofs.Common.{Some, sym, ap, ◌∙◌}
use Rattle.tuple_values.specs.Views.{datum_of}
use Rattle.tuple_values.specs.declared.value.Field.{Field}
use Rattle.tuple_values.proofs.FieldLemmas.{got, remove_at, remove_rises}
use Rattle.tuple_values.proofs.DocumentLemmas.{value_absent, without_absent}
use Rattle.tuple_values.proofs.value.Tuple.remove.Goals as goal

pub invariant_of-self : goal.invariant_of-self
invariant_of-self c =
    let found = rw c.deref.ensures.value at c.in-Ok.ensures.found in
    rw c.remove.ensures.items (remove_rises c.args.name.now _ _ found c.self.invariant)

pub returns-in-Ok-clause-value : goal.returns-in-Ok-clause-value
returns-in-Ok-clause-value c =
    let found = rw c.deref.ensures.value at c.in-Ok.ensures.found in
    rw (← c.self.view_is) (ap (λ (f : Field). Some (datum_of f.value)) c.remove.ensures.value ∙ sym (got c.args.name.now _ _ _ found))

pub returns-in-Ok-clause-rest : goal.returns-in-Ok-clause-rest
returns-in-Ok-clause-rest c =
    let found = rw c.deref.ensures.value at c.in-Ok.ensures.found in
    rw (c.remove.ensures.items, ← c.self.view_is) (remove_at c.args.name.now _ _ found)

pub returns-in-Err-clause-value : goal.returns-in-Err-clause-value
returns-in-Err-clause-value c =
    let absent = rw c.deref.ensures.value at c.in-Err.ensures.absent in
    rw (← c.self.view_is) (sym (value_absent c.args.name.now _ _ absent))

pub returns-in-Err-clause-rest : goal.returns-in-Err-clause-rest
returns-in-Err-clause-rest c =
    let absent = rw c.deref.ensures.value at c.in-Err.ensures.absent in
    rw (← c.self.view_is) (sym (without_absent c.args.name.now _ _ absent))
