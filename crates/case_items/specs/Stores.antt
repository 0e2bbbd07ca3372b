-- Which topics deliver nowhere, up to where a cut reaches, and which versions may be stored (own).
use Rattle.std.specs.Prelude.{ℕ, ◌≡◌, ◌<◌, ◌≤◌, List, length, slice_get, None, Some}
use Rattle.tuple_values.specs.Document.{ByteList}
use Rattle.tuple_values.specs.declared.names.NameShards.{NameShards}
use Rattle.shard_versions.specs.declared.cut.CutPart.{CutPart}
use Rattle.topic_book.specs.Books.{Book, binding_of}
use Rattle.topic_book.specs.Fitness.{shards_of}
use Rattle.topic_book.specs.declared.topic.Binding.{Binding}
use Rattle.topic_book.specs.declared.topic.TopicKey.{TopicKey}
use Rattle.once_core.specs.Allowed.{AreReached}
use Rattle.once_core.specs.Cells.{shard_history}
use Rattle.once_core.specs.declared.world.Histories.{Histories}
use Rattle.exchange_rules.specs.Cells.{Log}
use Rattle.exchange_rules.specs.Rows.{part_of}
use Rattle.site_laws.specs.SiteCells.{histories_in}

-- in this book the topic has this source, and no destination
pub record IsBoundNowhere (key : TopicKey) (src : ByteList) (book : Book) : Type 0 where
  pub binding : Binding
  pub bound : binding_of key book ≡ Some binding
  pub from : binding.src ≡ src
  pub nowhere : binding.dest ≡ None

-- the part is of this shard, and the number is at most its top
pub record IsReachedPart (part : CutPart) (shard number : ℕ) : Type 0 where
  pub shard_is : part.shard ≡ shard
  pub reached : number ≤ part.snapshot.top

-- at the place of each shard of the source, the cut has the part that shows all that was seen of it
abbrev pub ShowsAll : List NameShards → List Log → ByteList → List CutPart → Type 0
ShowsAll names seen src cut =
    (shard : ℕ) → shard < shards_of names src
    → slice_get cut shard
    ≡ Some (part_of src shard (shard_history names (histories_in names seen) src shard))

-- over what was seen, the topic is bound and has no destination, and the versions are one for each
-- shard of its source, each at most that shard's top
pub record MayStoreNowhere (names : List NameShards) (seen : Histories) (key : TopicKey)
    (upto : List ℕ) : Type 0 where
  pub binding : Binding
  pub bound : binding_of key seen.book ≡ Some binding
  pub nowhere : binding.dest ≡ None
  pub counted : length upto ≡ shards_of names binding.src
  pub reached : AreReached names seen binding.src upto
