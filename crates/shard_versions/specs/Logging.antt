-- When a log is right (own).
use Rattle.std.specs.Prelude.{◌-◌, ◌≡◌, min, List, ◌++◌, map, vec_len, vec_capacity}
use Rattle.shard_segments.specs.declared.slot.Slot as segments
use Rattle.shard_versions.specs.Histories.{slots}
use Rattle.shard_versions.specs.Stored.{kept_slot}
use Rattle.shard_versions.specs.Logs.{Logged, entries_in, widths_before}
use Rattle.shard_versions.specs.declared.log.Log.TheInside.{Inside}

-- the entries of the notes, the slots, and the room that both have
abbrev pub logged_in : Inside → Logged
logged_in l =
    record {
      entries = entries_in l.chunks.slots l.notes.items;
      slots = l.chunks.slots;
      room = min (vec_capacity l.notes - vec_len l.notes) l.chunks.room;
    }

-- the slots are those of the writes, each note has the place of its slot, and more slots change
-- no entry
pub record IsLog (l : Inside) : Type 0 where
  pub kept : l.chunks.slots ≡ map kept_slot (slots (entries_in l.chunks.slots l.notes.items))
  pub places : map (λ n. n.at) l.notes.items
      ≡ widths_before 0 (entries_in l.chunks.slots l.notes.items)
  pub stable : (more : List segments.Slot)
      → entries_in (l.chunks.slots ++ more) l.notes.items ≡ entries_in l.chunks.slots l.notes.items
