-- What of the law is no breach: that its histories are fit (own).
use Rattle.std.specs.Prelude.{ℕ, ◌≡◌, List, length}
use Rattle.std.specs.List.{AllByRecursion}
use Rattle.tuple_values.specs.declared.names.NameShards.{NameShards}
use Rattle.shard_versions.specs.Histories.{IsVersioned}
use Rattle.topic_book.specs.Fitness.{IsFitBook}
use Rattle.once_core.specs.Cells.{cells_in, history_at}
use Rattle.once_core.specs.Law.{IsFitCell, IsReadableEntry}
use Rattle.once_core.specs.declared.world.Histories.{Histories}

-- there is a history for each shard, each is fit and versioned, and so is the book, whose queries can
-- be read
pub record ArePlausible (names : List NameShards) (hs : Histories) : Type 0 where
  pub counted : length hs.shards ≡ cells_in names
  pub fit : (cell : ℕ) → IsFitCell names cell (history_at hs cell)
  pub versioned : (cell : ℕ) → IsVersioned (history_at hs cell)
  pub fit_book : IsFitBook names hs.book
  pub readable : AllByRecursion IsReadableEntry hs.book
