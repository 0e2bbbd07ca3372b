-- What a writer has seen of what a topic gives, at its source and at its destination (own).
use Rattle.std.specs.Prelude.{◌≡◌, ◌≤◌, true, List, map, Some}
use Rattle.std.specs.List.{AllByRecursion}
use Rattle.tuple_values.specs.Document.{ByteList, Doc}
use Rattle.tuple_values.specs.declared.names.NameShards.{NameShards}
use Rattle.shard_versions.specs.Deliveries.{Reaches, sents}
use Rattle.shard_versions.specs.Documents.{id_of, is_storable, with_version}
use Rattle.shard_versions.specs.Histories.{slots, top, write_at}
use Rattle.once_core.specs.Cells.{home_history}
use Rattle.once_core.specs.declared.world.Histories.{Histories}
use Rattle.exchange_rules.specs.Cells.{Log}
use Rattle.exchange_rules.specs.declared.batch.BatchItem.{BatchItem}
use Rattle.site_laws.specs.SiteCells.{histories_in}
use Rattle.source_streams.specs.Batches.{given_names}
use Rattle.source_streams.specs.declared.batch.TopicItem.{TopicItem}
use Rattle.expr_types.specs.Sources.{cut_to}
use Rattle.update_sink.specs.Topics.{sent_item}

-- the item's document is so made of one that a committed write left, which was seen at its source,
-- and that can be kept
pub record IsGiven (names : List NameShards) (hs : Histories) (src : ByteList) (made : Doc → Doc)
    (i : TopicItem) : Type 0 where
  pub doc : Doc
  pub is : i.document ≡ made (with_version i.version doc)
  pub reached : i.version ≤ top (home_history names hs src (id_of doc))
  pub written : write_at i.version (slots (home_history names hs src (id_of doc)))
      ≡ Some (record { version = i.version; id = id_of doc; left = Some doc })
  pub storable : is_storable doc ≡ true

-- so are these items, whose documents are cut to the fields of a topic
abbrev pub AreGiven : List NameShards → List Log → ByteList → List ByteList → List TopicItem
    → Type 0
AreGiven names seen src fl items =
    AllByRecursion (IsGiven names (histories_in names seen) src (cut_to (given_names fl))) items

-- the item stands in what was seen of the destination, in its version or a later one
abbrev pub IsThereNow : List NameShards → List Log → (dest src : ByteList) → BatchItem → Type 0
IsThereNow names seen dest src i =
    Reaches i.version (sents src (id_of i.document)
    (home_history names (histories_in names seen) dest (id_of i.document)))

-- so do these items
abbrev pub AreThereNow : List NameShards → List Log → (dest src : ByteList) → List TopicItem
    → Type 0
AreThereNow names seen dest src items =
    AllByRecursion (IsThereNow names seen dest src) (map (sent_item src) items)
