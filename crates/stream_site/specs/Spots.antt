-- Where a call is (own).
use Rattle.std.specs.Prelude.{ℕ, ◌≡◌, List}
use Rattle.tuple_values.specs.Document.{ByteList}
use Rattle.tuple_values.specs.declared.names.NameShards.{NameShards}
use Rattle.topic_book.specs.Cells.{cell_of}
use Rattle.exchange_rules.specs.declared.fault.SiteFault.{SiteFault}
use Rattle.exchange_rules.specs.declared.fault.SiteFault.TheVariants.{ShardFull}
use Rattle.stream_site.specs.declared.spot.Spot.{Spot}

-- the refusal of a step there
abbrev pub full_there : Spot → SiteFault
full_there at = ShardFull at.collection.now at.shard at.stand

-- the call is at this shard of the collection, after so many of its writes
pub record IsSpot (names : List NameShards) (collection : ByteList) (shard stand : ℕ) (at : Spot)
    : Type 0 where
  pub collection_is : at.collection.now ≡ collection
  pub shard_is : at.shard ≡ shard
  pub cell_is : at.cell ≡ cell_of names collection shard
  pub stand_is : at.stand ≡ stand
