-- The rows of requests and of the calls of a site look first.
use Rattle.std.proofs.Common.{◌≡◌, ℕ, zero, suc, ◌+◌, Bool, true, false, List, [], ◌∷◌, length, refl}
use Rattle.std.specs.Prelude.{nat_lt, Option, Some, None, Result, Ok, Err}
use Rattle.tuple_values.specs.Document.{ByteList}
use Rattle.tuple_values.specs.declared.names.NameShards.{NameShards}
use Rattle.shard_versions.specs.Histories.{History}
use Rattle.shard_versions.specs.declared.entry.Kind.{Kind}
use Rattle.topic_book.specs.Alike.{is_alike}
use Rattle.topic_book.specs.Books.{Book, binding_of, raises, topics_in}
use Rattle.topic_book.specs.Cells.{cell_of}
use Rattle.topic_book.specs.Fitness.{shards_of}
use Rattle.topic_book.specs.declared.topic.TopicKey.{TopicKey}
use Rattle.topic_book.specs.declared.topic.Binding.{Binding}
use Rattle.exchange_rules.specs.Bindings.{book_cell, bind_seen}
use Rattle.exchange_rules.specs.Cells.{history_in, book_in}
use Rattle.exchange_rules.specs.Courses.{Course, ends, and_then}
use Rattle.exchange_rules.specs.Deliveries.{admitted_kinds, send_admitted, send_at, send_shards, send_step, sent_share}
use Rattle.exchange_rules.specs.Looking.{LooksFirst, RowsLookFirst}
use Rattle.exchange_rules.specs.Rows.{Layout, finish_course, shares_of, writes_course}
use Rattle.exchange_rules.specs.Steps.{closed, fitting}
use Rattle.exchange_rules.specs.declared.batch.Sent.{Sent}
use Rattle.exchange_rules.specs.declared.fault.SiteFault.{SiteFault}
use Rattle.exchange_rules.proofs.LookingLemmas.{cut_first, either, finish_first, fitting_first, go_on_first, ok_first, commit_shards_first, then_first, writes_first}

-- what is admitted, right after a look at its cell
admitted_first : (limit cell : ℕ) (refusal : SiteFault) (h : History) (ks : List Kind)
    → LooksFirst (Some cell) (send_admitted limit cell refusal h ks)
admitted_first limit cell refusal h [] = tt
admitted_first limit cell refusal h (k ∷ ks) =
    let next : Unit {0} → Course (Result ℕ SiteFault) = λ _. ends (Ok (length (k ∷ ks))) in
    then_first (Some cell) (fitting limit cell (closed true (k ∷ ks)) refusal h) _
    (fitting_first limit cell (closed true (k ∷ ks)) refusal h) (go_on_first next (λ _. tt))

-- a delivery to a shard looks first
send_first : (limit cell : ℕ) (refusal : SiteFault) (ks : List Kind)
    → LooksFirst None (send_step limit cell refusal ks)
send_first limit cell refusal [] = tt
send_first limit cell refusal (k ∷ ks) =
    λ log. admitted_first limit cell refusal (history_in log)
    (admitted_kinds (history_in log) (k ∷ ks))

-- so do those to all shards
sends_first : (l : Layout) (dest : ByteList) (share : ℕ → List Kind) (sent shard left : ℕ)
    → LooksFirst None (send_shards l dest share sent shard left)
sends_first l dest share sent shard zero = tt
sends_first l dest share sent shard (suc left) =
    ok_first (send_at l dest share sent shard)
    (λ more. send_shards l dest share (sent + more) (shard + 1) left)
    (send_first l.limit (cell_of l.names dest shard) _ (share shard))
    (λ more. sends_first l dest share (sent + more) (shard + 1) left)

-- a Bind, right after a look at the book
bind_first : (names : List NameShards) (key : TopicKey) (b : Binding) (book : Book)
    (bound : Option Binding)
    → LooksFirst (Some (book_cell names)) (bind_seen names key b book bound)
bind_first names key b book None =
    either (Some (book_cell names)) (nat_lt (topics_in book) 1000) _ _ (refl, tt) tt
bind_first names key b book (Some kept) =
    either (Some (book_cell names)) (is_alike kept b) _ _ tt tt

-- updates, commits, cuts, deliveries and the calls on topics look first
pub rows_first : RowsLookFirst
rows_first = record {
  index = λ l collection writes commit.
      let share = shares_of l collection writes in
      ok_first (writes_course l collection share commit) _ (writes_first l collection share commit)
      (λ _. ok_first (finish_course l collection share (length writes) commit) _
      (finish_first l collection share (length writes) commit) (λ _. tt));
  commit = λ l collection. commit_shards_first l collection (λ _. 0) 0;
  cut = λ l collections. cut_first l.names [] collections;
  send = λ l dest src batch.
      let n = shards_of l.names dest in
      let share = sent_share src batch n in
      ok_first (send_shards l dest share 0 0 n) _ (sends_first l dest share 0 0 n) (λ _. tt);
  state = λ l key log. tt;
  bind = λ l key b log. bind_first l.names key b (book_in log) (binding_of key (book_in log));
  store = λ l key upto log.
      either (Some (book_cell l.names)) (raises key (book_in log) upto) _ _ (refl, tt) tt;
}
