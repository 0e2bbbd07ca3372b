use Rattle.std.proofs.Common.{◌≡◌, drop}
use Rattle.tuple_values.specs.Document.{value_at}
use Rattle.tuple_values.specs.Views.{doc_of}
use Rattle.tuple_values.proofs.tuple.scanned.Given as goal

-- the value is that among the fields to come
abbrev pub invariant-loop-field : goal.invariant-loop-field
invariant-loop-field l =
    value_at l.name (doc_of l.fields) ≡ value_at l.name (doc_of (drop l.field-index l.fields))
