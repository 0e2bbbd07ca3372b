-- Items that are made of what snapshots show (own; how a delivered document tells its origin is that
-- of a topic's run).
use Rattle.std.specs.Prelude.{ℕ, ◌≡◌, ◌<◌, ◌++◌, ◌∷◌, [], List, map, pos}
use Rattle.std.specs.List.{AllByRecursion}
use Rattle.tuple_values.specs.Document.{ByteList, Doc, long, text, put, without}
use Rattle.tuple_values.specs.declared.names.NameShards.{NameShards}
use Rattle.shard_versions.specs.Documents.{source_name, source_version_name, version_name}
use Rattle.shard_versions.specs.Histories.{History}
use Rattle.shard_versions.specs.Shards.{Shown}
use Rattle.shard_versions.specs.declared.cut.CutPart.{CutPart}
use Rattle.topic_book.specs.Fitness.{shards_of}
use Rattle.once_core.specs.Cells.{shard_history}
use Rattle.exchange_rules.specs.Cells.{Log}
use Rattle.exchange_rules.specs.Rows.{shown_of}
use Rattle.exchange_rules.specs.declared.batch.BatchItem.{BatchItem}
use Rattle.site_laws.specs.SiteCells.{histories_in}

-- what is delivered of a document that is shown in this version: all but its version, with its source
-- and the version that it has there
abbrev pub made_document : ByteList → ℕ → Doc → Doc
made_document src version shown =
    put source_version_name (long (pos version))
    (put source_name (text src) (without version_name shown))

-- the item that it is
abbrev pub made_item : ByteList → ℕ × Doc → BatchItem
made_item src d = record { version = d.0; document = made_document src d.0 d.1 }

-- the items of all documents that the parts of a cut show
abbrev pub made_items : ByteList → List CutPart → List BatchItem
made_items src [] = []
made_items src (p ∷ ps) = map (made_item src) p.snapshot.documents ++ made_items src ps

-- the snapshot shows a front of what was seen of the source's shard
pub record IsShown (names : List NameShards) (seen : List Log) (src : ByteList) (shard : ℕ)
    (s : Shown) : Type 0 where
  pub front : History
  pub more : History
  pub begins : shard_history names (histories_in names seen) src shard ≡ front ++ more
  pub is : s ≡ shown_of front

-- the part shows one of a shard of the source
pub record IsShownPart (names : List NameShards) (seen : List Log) (src : ByteList) (p : CutPart)
    : Type 0 where
  pub there : p.shard < shards_of names src
  pub shown : IsShown names seen src p.shard p.snapshot

-- so do the parts of a cut
abbrev pub AreShown : List NameShards → List Log → ByteList → List CutPart → Type 0
AreShown names seen src cut = AllByRecursion (IsShownPart names seen src) cut
