-- The logs of shards and of a book, and shards of no entry (own).
use Rattle.std.specs.Prelude.{ℕ, ◌≡◌, ◌++◌, ◌∷◌, [], List, map, replicate}
use Rattle.std.specs.List.{AllByRecursion}
use Rattle.shard_versions.specs.Histories.{History}
use Rattle.shard_versions.specs.Shards.{Shard}
use Rattle.topic_book.specs.Books.{Book}
use Rattle.exchange_rules.specs.Cells.{Log, log_of, log_of_book}

-- the logs of the shards' cells and of the book's
abbrev pub logs_in : List History → Book → List Log
logs_in shards book = map log_of shards ++ log_of_book book ∷ []

-- so many shards of no entry, with this limit
pub record AreEmpty (limit count : ℕ) (shards : List Shard) : Type 0 where
  pub entries : map (λ (s : Shard). s.entries) shards ≡ replicate count []
  pub limits : AllByRecursion (λ (s : Shard). s.limit ≡ limit) shards
