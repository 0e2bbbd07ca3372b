-- When slots are kept in whole chunks and an open rest (own).
use Rattle.std.specs.Prelude.{◌+◌, ◌^◌, ◌≡◌, ◌<◌, ◌≤◌, ◌++◌, length, vec_len, vec_capacity}
use Rattle.shard_segments.specs.Lists.{joined, AreWhole}
use Rattle.shard_segments.specs.Held.{Held}
use Rattle.shard_segments.specs.declared.chunks.Chunks.TheInside.{Inside}

-- the slots of the whole chunks and then the open ones, and the room
abbrev pub held_in : Inside → Held
held_in c = record { slots = joined c.whole.items ++ c.open.items; room = c.room }

-- chunks are whole, the slots are counted, and there is room for as many more as is said
pub record AreChunks (c : Inside) : Type 0 where
  pub whole : AreWhole c.whole.items
  pub count : c.count ≡ length (joined c.whole.items ++ c.open.items)
  pub room : vec_len c.open + c.room ≤ vec_capacity c.open
  pub small : c.count + c.room < 2 ^ 63
