use Rattle.std.proofs.Common.{◌≡◌, ◌∷◌, [], ◌++◌, ℕ, max, cond, slice_index}
use Rattle.topic_book.specs.Books.{Book, same_key}
use Rattle.topic_book.specs.declared.topic.TopicKey.{TopicKey}
use Rattle.law_checks.specs.Topics.{stored_at, AreCheckpoints}
use Rattle.law_checks.proofs.SentLemmas.{on_ok}
use Rattle.law_checks.proofs.TopicLemmas.{with-bind, with-store}
use Rattle.law_checks.proofs.topics.raise_entry.Goals as goal

pub returns-in-Bind : goal.returns-in-Bind
returns-in-Bind c =
    let old = c.args.stored.now in
    let new = c.raise_all.new.stored in
    on_ok
    ((other : TopicKey) (shard : ℕ) → stored_at new other shard
    ≡ cond (same_key other c.in-Bind.key) (max (slice_index c.as_slice.result.now shard) (stored_at old other shard)) (stored_at old other shard))
    ((book : Book) → AreCheckpoints old book → AreCheckpoints new (book ++ c.args.entry.now ∷ []))
    (λ up book are. with-bind old new book are c.args.entry.now c.in-Bind.by c.in-Bind.key c.in-Bind.binding c.as_slice.result.now c.in-Bind.is
    c.as_slice.ensures up)
    c.raise_all.result c.raise_all.ensures

pub returns-in-Store : goal.returns-in-Store
returns-in-Store c =
    let old = c.args.stored.now in
    let new = c.raise_all-in-Store.new.stored in
    on_ok
    ((other : TopicKey) (shard : ℕ) → stored_at new other shard
    ≡ cond (same_key other c.in-Store.key) (max (slice_index c.as_slice-in-Store.result.now shard) (stored_at old other shard)) (stored_at old other shard))
    ((book : Book) → AreCheckpoints old book → AreCheckpoints new (book ++ c.args.entry.now ∷ []))
    (λ up book are. with-store old new book are c.args.entry.now c.in-Store.by c.in-Store.key c.in-Store.upto c.as_slice-in-Store.result.now c.in-Store.is
    c.as_slice-in-Store.ensures up)
    c.raise_all-in-Store.result c.raise_all-in-Store.ensures
