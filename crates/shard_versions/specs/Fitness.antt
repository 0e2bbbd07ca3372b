-- Which entries a shard takes (own).
use Rattle.std.specs.Prelude.{◌≡◌, ℕ, ◌==◌, Bool, true, ◌&&◌, List}
use Rattle.std.specs.List.{AllByRecursion}
use Rattle.tuple_values.specs.Keys.{shard_of}
use Rattle.shard_versions.specs.Documents.{id_of, is_storable}
use Rattle.shard_versions.specs.declared.entry.Kind.{Kind}
use Rattle.shard_versions.specs.declared.entry.Kind.TheVariants.{Put, Del, Sent, Mark}
use Rattle.shard_versions.specs.declared.entry.Entry.{Entry}

-- whether the entry's document can be kept
abbrev pub is_storable_kind : Kind → Bool
is_storable_kind (Put doc) = is_storable doc
is_storable_kind (Del id) = true
is_storable_kind (Sent src version doc) = is_storable doc
is_storable_kind Mark = true

-- each document of the entries can be kept
unfoldable pub AreStorable : List Entry → Type 0
AreStorable es = AllByRecursion (λ e. is_storable_kind e.kind ≡ true) es

-- whether the entry's id belongs to this shard of so many
abbrev pub is_routed : ℕ → ℕ → Kind → Bool
is_routed shards shard (Put doc) = shard_of shards (id_of doc) == shard
is_routed shards shard (Del id) = shard_of shards id == shard
is_routed shards shard (Sent src version doc) = shard_of shards (id_of doc) == shard
is_routed shards shard Mark = true

-- whether this shard of so many takes the entry
abbrev pub is_fit : ℕ → ℕ → Kind → Bool
is_fit shards shard kind = is_storable_kind kind && is_routed shards shard kind

-- this shard of so many may have these entries
unfoldable pub IsFit : ℕ → ℕ → List Entry → Type 0
IsFit shards shard es = AllByRecursion (λ e. is_fit shards shard e.kind ≡ true) es
