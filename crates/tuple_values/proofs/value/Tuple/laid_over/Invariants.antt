use Rattle.std.proofs.Common.{◌≡◌, drop}
use Rattle.tuple_values.specs.Document.{over}
use Rattle.tuple_values.specs.Views.{doc_of}
use Rattle.tuple_values.proofs.value.Tuple.laid_over.Given as goal

-- the right fields that are left go over what was made
abbrev pub invariant-loop-field : goal.invariant-loop-field
invariant-loop-field l =
    over l.fn.self l.right ≡ over l.all (doc_of (drop l.field-index l.field-items))
