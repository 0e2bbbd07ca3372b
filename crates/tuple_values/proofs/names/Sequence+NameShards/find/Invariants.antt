use Rattle.std.proofs.Common.{◌≡◌, drop}
use Rattle.tuple_values.specs.Collections.{is_known, shards_of}
use Rattle.tuple_values.proofs.names.Sequence+NameShards.find.Given as goal

-- the collection is known, and has as many shards, where it is so among those to come
abbrev pub invariant-loop-entry : goal.invariant-loop-entry
invariant-loop-entry l =
    (is_known l.name l.entry-items ≡ is_known l.name (drop l.entry-index l.entry-items))
    × (shards_of l.entry-items l.name ≡ shards_of (drop l.entry-index l.entry-items) l.name)
