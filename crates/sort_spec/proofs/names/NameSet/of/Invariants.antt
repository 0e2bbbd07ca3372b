use Rattle.std.proofs.Common.{◌≡◌, take}
use Rattle.tuple_values.specs.Document.{ByteList, is_named}
use Rattle.sort_spec.proofs.names.NameSet.of.Given as goal

-- the names so far
abbrev pub invariant-loop-name : goal.invariant-loop-name
invariant-loop-name l =
    (name : ByteList) → is_named name l.set ≡ is_named name (take l.name-index l.list)
