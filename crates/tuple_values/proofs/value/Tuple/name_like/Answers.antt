use Rattle.std.proofs.Common.{◌∙◌, ap}
use Rattle.tuple_values.specs.declared.value.Field.{Field}
use Rattle.tuple_values.proofs.FieldLemmas.{named}
use Rattle.tuple_values.proofs.value.Tuple.name_like.Goals as goal

pub returns-in_ok-shared-in-Ok : goal.returns-in_ok-shared-in-Ok
returns-in_ok-shared-in-Ok c =
    let found = rw c.deref.ensures.value at c.in-Ok.ensures.found in
    c.in_ok-shared-in-Ok.ensures ∙ ap (λ (f : Field). f.name) c.index.ensures
    ∙ named c.args.name.now _ _ _ found
