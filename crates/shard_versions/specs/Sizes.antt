-- The counted bytes of a history (own), by which a shard's limit is counted.
use Rattle.std.specs.Prelude.{ℕ, ◌+◌, List, [], ◌∷◌, length}
use Rattle.tuple_values.specs.Sizes.{doc_bytes}
use Rattle.shard_versions.specs.declared.entry.Kind.{Kind}
use Rattle.shard_versions.specs.declared.entry.Kind.TheVariants.{Put, Del, Sent, Mark}
use Rattle.shard_versions.specs.declared.entry.Entry.{Entry}

-- 16 for a Mark; for a write 32, the size of its document, the bytes of a Del's id and of a source
abbrev pub kind_bytes : Kind → ℕ
kind_bytes (Put doc) = 32 + doc_bytes doc
kind_bytes (Del id) = 32 + length id
kind_bytes (Sent src version doc) = 32 + doc_bytes doc + length src
kind_bytes Mark = 16

-- the counted bytes of entries
abbrev pub entries_bytes : List Entry → ℕ
entries_bytes [] = 0
entries_bytes (e ∷ es) = kind_bytes e.kind + entries_bytes es
