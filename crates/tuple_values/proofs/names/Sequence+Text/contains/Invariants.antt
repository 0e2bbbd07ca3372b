use Rattle.std.proofs.Common.{◌≡◌, drop}
use Rattle.tuple_values.specs.Document.{is_named}
use Rattle.tuple_values.proofs.names.Sequence+Text.contains.Given as goal

-- the name is in the list where it is among the names to come
abbrev pub invariant-loop-item : goal.invariant-loop-item
invariant-loop-item l = is_named l.name l.item-items ≡ is_named l.name (drop l.item-index l.item-items)
