-- The writes of an update and the items of a delivery, shard by shard (own).
use Rattle.std.specs.Prelude.{ℕ, ◌^◌, ◌≡◌, ◌<◌, ◌≤◌, List, [], filter, get_or, length, map}
use Rattle.tuple_values.specs.Document.{ByteList}
use Rattle.tuple_values.specs.declared.names.NameShards.{NameShards}
use Rattle.tuple_values.specs.declared.write.Write.{Write}
use Rattle.shard_versions.specs.Fitness.{is_routed}
use Rattle.shard_versions.specs.declared.entry.Entry.{Entry}
use Rattle.shard_versions.specs.declared.entry.Kind.{Kind}
use Rattle.topic_book.specs.Cells.{cell_of}
use Rattle.topic_book.specs.Fitness.{shards_of}
use Rattle.exchange_rules.specs.Cells.{Log}
use Rattle.exchange_rules.specs.Following.{Grows}
use Rattle.exchange_rules.specs.Rows.{length_below}
use Rattle.exchange_rules.specs.Steps.{kind_of, routed, entries_by, kinds_of, writes_in, AreBy}
use Rattle.site_laws.specs.Duties.{MayDeliver}

-- there is a step for each shard, which holds those of the kinds that route there as the writer's
-- entries
pub record AreRouted (writer shards : ℕ) (kinds : List Kind) (steps : List (List Entry))
    : Type 0 where
  pub counted : length steps ≡ shards
  pub shares : (shard : ℕ) → shard < shards
      → get_or steps shard [] ≡ entries_by writer (filter (is_routed shards shard) kinds)

-- the same of writes
abbrev pub AreShares : ℕ → ℕ → List Write → List (List Entry) → Type 0
AreShares writer shards writes steps = AreRouted writer shards (map kind_of writes) steps

-- the counts are those of the writes that route to each shard
abbrev pub AreCounts : ℕ → List Write → List ℕ → Type 0
AreCounts shards writes counts =
    (shard : ℕ) → shard < shards → get_or counts shard 0 ≡ length (routed shards shard writes)

-- what is to be appended at each shard
abbrev pub share_in : List (List Entry) → ℕ → List Kind
share_in steps shard = kinds_of (get_or steps shard [])

-- a step for each shard, of the writer's own entries, all of them writes, and so many that they can
-- be counted
pub record AreSteps (me shards : ℕ) (steps : List (List Entry)) : Type 0 where
  pub counted : length steps ≡ shards
  pub own : (shard : ℕ) → shard < shards → AreBy me (get_or steps shard [])
  pub writes : (shard : ℕ) → shard < shards
      → writes_in (share_in steps shard) ≡ length (share_in steps shard)
  pub few : length_below (share_in steps) shards < 2 ^ 64

-- a step for each shard of the destination, which the writer may deliver there where it isn't empty,
-- whatever more it sees, and so many entries that they can be counted
pub record AreDeliveries (names : List NameShards) (me : ℕ) (seen : List Log) (dest : ByteList)
    (steps : List (List Entry)) : Type 0 where
  pub counted : length steps ≡ shards_of names dest
  pub allowed : (shard : ℕ) → shard < shards_of names dest → 0 < length (get_or steps shard [])
      → (later : List Log) → Grows seen later → cell_of names dest shard < length later
      → MayDeliver names me later (cell_of names dest shard) (get_or steps shard [])
  pub few : length_below (share_in steps) (shards_of names dest) < 2 ^ 64

-- of these steps those from this shard on are still there
pub record AreLeft (steps left : List (List Entry)) (shard : ℕ) : Type 0 where
  pub long : length left ≡ length steps
  pub rest : (s : ℕ) → shard ≤ s → get_or left s [] ≡ get_or steps s []
