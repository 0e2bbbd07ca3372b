use Rattle.std.proofs.Common.{◌≡◌, ◌+◌, ◌++◌, [], map, take, drop}
use Rattle.shard_versions.specs.Histories.{slots, last_version}
use Rattle.shard_versions.specs.Logs.{made_entry, AreMade}
use Rattle.shard_versions.proofs.shard.ShardState.append.Given as goal

-- the entries so far stand behind those before, the rest is made ready, and there is room for it
abbrev pub invariant-loop-entry : goal.invariant-loop-entry
invariant-loop-entry l = record {
  entries : l.self.entries ≡ l.fn.self.entries ++ take l.entry-index l.entry-items;
  rest : map made_entry l.ready.items ≡ drop l.entry-index l.entry-items;
  made : AreMade (last_version 0 (slots l.self.entries)) l.ready.items;
  limit : l.self.limit ≡ l.fn.self.limit;
  room : l.self.room + l.entry-index ≡ l.fn.self.room;
  none : l.self.ready ≡ [];
}
