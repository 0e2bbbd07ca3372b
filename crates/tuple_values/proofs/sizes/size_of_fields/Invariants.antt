use Rattle.std.proofs.Common.{◌≡◌, ◌<◌, drop, min, ◌+◌, ◌-◌, ◌^◌}
use Rattle.tuple_values.specs.Sizes.{doc_bytes}
use Rattle.tuple_values.specs.Views.{doc_of}
use Rattle.tuple_values.proofs.sizes.size_of_fields.Given as goal

abbrev pub invariant-loop-field : goal.invariant-loop-field
invariant-loop-field l = record {
  fits : l.total < 2 ^ 64;
  counted : min (l.total + doc_bytes (doc_of (drop l.field-index l.fields))) (2 ^ 64 - 1) ≡ min (doc_bytes (doc_of l.fields)) (2 ^ 64 - 1);
}
