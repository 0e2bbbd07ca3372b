-- What is read of a history without the state of a shard (own).
use Rattle.std.specs.Prelude.{Bool, false, Option, Some, None, bytes_eq, if◌then◌else◌}
use Rattle.tuple_values.specs.Document.{ByteList, Doc}
use Rattle.shard_versions.specs.Histories.{History, Slot, slots, writes_id}

-- the document that a write left under the id, where there is a write and it is of this id
abbrev pub left_under : ByteList → Option Slot → Option Doc
left_under id None = None
left_under id (Some s) = if bytes_eq id s.id then s.left else None

-- whether one of the entries writes the id, where there is one
abbrev pub is_written : Option ByteList → History → Bool
is_written None h = false
is_written (Some id) h = writes_id id (slots h)
