use Rattle.std.proofs.Common.{◌≡◌, take, filter}
use Rattle.tuple_values.specs.Document.{is_named}
use Rattle.tuple_values.proofs.value.Tuple.cut.Given as goal

abbrev pub invariant-loop-field : goal.invariant-loop-field
invariant-loop-field l = l.fields.items ≡ filter (λ f. is_named f.name l.names) (take l.field-index l.field-items)
