-- When what a shard keeps beside its entries is right (own).
use Rattle.std.specs.Prelude.{◌+◌, ◌-◌, ◌^◌, ◌≡◌, ◌<◌, ◌≤◌, min, true, false, [], length, map, vec_len, vec_capacity}
use Rattle.shard_versions.specs.Histories.{settled, slots, last_version}
use Rattle.shard_versions.specs.Logs.{made_entry, AreMade}
use Rattle.shard_versions.specs.Sizes.{entries_bytes}
use Rattle.shard_versions.specs.Stored.{AreLatest}
use Rattle.shard_versions.specs.Indexes.{nexts_of, greatests_after}
use Rattle.shard_versions.specs.Trees.{Finds, room_of}
use Rattle.shard_versions.specs.Shards.{Shard}
use Rattle.shard_versions.specs.declared.shard.ShardState.TheInside.{Inside}

-- the history, the limit, the room and what is made ready
abbrev pub shard_in : Inside → Shard
shard_in s = record { entries = s.log.entries; limit = s.limit; room = s.room; ready = map made_entry s.ready.items }

-- indexes and counters are those of the entries, and there is room for as many more as is said
pub record IsState (s : Inside) : Type 0 where
  pub nexts : s.nexts.items ≡ nexts_of 0 s.log.entries
  pub greatests : s.greatests.items ≡ greatests_after [] s.log.entries
  pub ids : Finds false s.ids s.log.entries
  pub sends : Finds true s.sends s.log.entries
  pub current : s.all_current ≡ true → AreLatest (slots s.log.entries)
  pub closed : s.closed ≡ length (settled s.log.entries)
  pub bytes : s.bytes ≡ min (entries_bytes s.log.entries) (2 ^ 64 - 1)
  pub ready : AreMade (last_version 0 (slots s.log.entries)) s.ready.items
  pub limited : s.limit ≤ 268435456
  pub small : length s.log.entries + s.room < 2 ^ 63
  pub room_log : s.room ≤ s.log.room
  pub room_nexts : vec_len s.nexts + s.room ≤ vec_capacity s.nexts
  pub room_greatests : vec_len s.greatests + s.room ≤ vec_capacity s.greatests
  pub room_ids : s.room ≤ room_of s.ids
  pub room_sends : s.room ≤ room_of s.sends
