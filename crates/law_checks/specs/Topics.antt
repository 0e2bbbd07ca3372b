-- The checkpoints of topics, and what their queries take (own).
use Rattle.std.specs.Prelude.{ℕ, ◌≡◌, Bool, false, Option, Some, None, unwrap_or}
use Rattle.tuple_values.specs.Document.{Doc}
use Rattle.query_syntax.specs.Matching.{matches}
use Rattle.query_syntax.specs.declared.query.Query.{Query}
use Rattle.topic_book.specs.Books.{Book, checkpoint}
use Rattle.topic_book.specs.declared.topic.TopicKey.{TopicKey}
use Rattle.law_checks.specs.Numbers.{number_at}
use Rattle.law_checks.specs.declared.greatest.Greatest.{Greatest}

-- the greatest number that was told for the topic at a shard, and 0 where none was
abbrev pub stored_at : Greatest → TopicKey → ℕ → ℕ
stored_at g key shard = unwrap_or (number_at g key.checkpoints key.id shard) 0

-- the numbers are the checkpoints of this book
abbrev pub AreCheckpoints : Greatest → Book → Type 0
AreCheckpoints g book = (key : TopicKey) (shard : ℕ) → stored_at g key shard ≡ checkpoint key book shard

-- whether a query takes the document; one that can't be read takes none
abbrev pub is_taken : Option Query → Doc → Bool
is_taken None doc = false
is_taken (Some query) doc = matches query.clauses doc
