-- What the run of a load's topic appends, and where.
use Rattle.std.proofs.Common.{◌≡◌, ℕ, zero, suc, ◌+◌, ◌-◌, ◌<◌, ◌≤◌, true, List, [], ◌∷◌, ◌++◌, length, map, refl, arith, Option, Some, None, Result, Ok, Err}
use Rattle.std.specs.Prelude.{nat_lt}
use Rattle.std.specs.List.{AllByRecursion}
use Rattle.tuple_values.specs.Document.{ByteList}
use Rattle.shard_versions.specs.Histories.{History}
use Rattle.shard_versions.specs.declared.cut.CutPart.{CutPart}
use Rattle.shard_versions.specs.declared.entry.Kind.{Kind}
use Rattle.topic_book.specs.Alike.{is_alike}
use Rattle.topic_book.specs.Books.{binding_of, raises, topics_in}
use Rattle.topic_book.specs.Cells.{cell_of, cells_in}
use Rattle.topic_book.specs.Fitness.{shards_of}
use Rattle.topic_book.specs.declared.topic.Binding.{Binding}
use Rattle.exchange_rules.specs.Batches.{Sunk, none_sunk}
use Rattle.exchange_rules.specs.Bindings.{bind_course, bind_seen, book_cell, bound_checkpoint, checkpoint_in, store_course, topic_state_course}
use Rattle.exchange_rules.specs.Cells as cell
use Rattle.exchange_rules.specs.Cells.{bind, book_in, history_in, signed, store}
use Rattle.exchange_rules.specs.Courses.{Course, ends, makes, and_then, and_ok}
use Rattle.exchange_rules.specs.Deliveries.{admitted_kinds, send_admitted, send_at, send_course, send_shards, send_step, sent_share}
use Rattle.exchange_rules.specs.Rows.{Layout, cut_course, cut_shards, part_of}
use Rattle.exchange_rules.specs.Steps.{closed, fitting, is_full}
use Rattle.exchange_rules.specs.Topics.{Asked, after_send, begin_course, binding_for, bound_then, cut_then_store, init_course, run_course, sends_course, source_course, stopped_by, tops_of}
use Rattle.exchange_rules.specs.declared.batch.BatchItem.{BatchItem}
use Rattle.exchange_rules.specs.declared.batch.Sent.{Sent}
use Rattle.exchange_rules.specs.declared.fault.SiteFault.{SiteFault}
use Rattle.exchange_rules.specs.declared.fault.SiteFault.TheVariants.{TopicBound, BookFull, ShardFull}
use Rattle.exchange_rules.specs.declared.log_entry.LogEntry.{LogEntry}
use Rattle.exchange_rules.specs.declared.log_entry.LogEntry.TheVariants as logged
use Rattle.exchange_rules.specs.declared.run.TopicFault.{TopicFault}
use Rattle.load_rules.specs.Topic.{dest_name, load_binding, load_fields, load_key, load_names, load_query, src_name}
use Rattle.load_rules.specs.Worked.{dest_cell, IsOfTopic, src_cell}
use Rattle.load_rules.proofs.CellLemmas.{dest-is, dest-shards, load_layout}
use Rattle.load_mix.proofs.OwnLemmas.{IsEachAt, at-either, at-ok, at-then}

-- what the topic asks for
abbrev pub load_asked : Asked
load_asked = record {
  key = load_key;
  src = src_name;
  q = load_query;
  fields = load_fields;
  dest = Some dest_name;
  init = Some 0;
}

-- an entry of a shard stands at one of the destination's, and one of the book is of the topic
abbrev pub IsRunAt : ℕ → LogEntry → Type 0
IsRunAt cell (logged.Shard e) = (4 ≤ cell) × (cell < 8)
IsRunAt cell (logged.Book e) = (cell ≡ book_cell load_names) × IsOfTopic e

-- a course appends just such entries
abbrev Fits : {A : Type 0} → Course A → Type 0
Fits course = IsEachAt IsRunAt course

-- a Bind
at-bind : (b : Binding) → b ≡ load_binding → Fits (bind_course load_names load_key b)
at-bind b is log = go (binding_of load_key (book_in log))
  where
    go : (o : Option Binding) → Fits (bind_seen load_names load_key b (book_in log) o)
    go None =
        at-either IsRunAt (nat_lt (topics_in (book_in log)) 1000)
        (makes (book_cell load_names) (bind load_key b ∷ [])
        (ends (Ok (bound_checkpoint load_key (book_in log) b))))
        (ends (Err (BookFull (topics_in (book_in log)))))
        (λ me. ((refl, (refl, is)), tt), tt) tt
    go (Some kept) =
        at-either IsRunAt (is_alike kept b) (ends (Ok (checkpoint_in load_key (book_in log))))
        (ends (Err (TopicBound kept))) tt tt

-- what the topic is bound to
bound-so : binding_for load_asked (0 ∷ 0 ∷ 0 ∷ 0 ∷ []) ≡ load_binding
bound-so = refl

-- it begins
pub at-begin : Fits (begin_course load_names load_asked)
unfolding shards_of
at-begin =
    at-then IsRunAt (topic_state_course load_names load_key)
    (λ state. and_then (init_course load_names src_name (Some 0) state) (λ init.
    bind_course load_names load_key (binding_for load_asked init)))
    (λ log. tt) (λ state. at-bind (binding_for load_asked (0 ∷ 0 ∷ 0 ∷ 0 ∷ [])) bound-so)

-- a cut of shards
at-shards : (c : ByteList) (shard left : ℕ) (cut : List CutPart)
    → Fits (cut_shards load_names c shard left cut)
at-shards c shard zero cut = tt
at-shards c shard (suc left) cut = λ log.
    at-shards c (shard + 1) left (cut ++ part_of c shard (history_in log) ∷ [])

-- a cut of a collection
at-source : (src : ByteList) → Fits (source_course load_names src)
at-source src =
    at-then IsRunAt (cut_shards load_names src 0 (shards_of load_names src) [])
    (λ cut. cut_course load_names cut []) (at-shards src 0 (shards_of load_names src) [])
    (λ cut. tt)

-- a Store
at-store : (upto : List ℕ) → Fits (store_course {E = TopicFault} load_names load_key upto)
at-store upto log =
    at-either IsRunAt (raises load_key (book_in log) upto)
    (makes (book_cell load_names) (store load_key upto ∷ []) (ends fine)) (ends fine)
    (λ me. ((refl, refl), tt), tt) tt
  where
    fine : Result (Unit {0}) TopicFault
    fine = Ok tt

module _ (limit at : ℕ) (low : 4 ≤ at) (high : at < 8) where
  -- entries at a shard of the destination
  at-signed : (me : ℕ) (ks : List Kind)
      → AllByRecursion (IsRunAt at) (signed me (map cell.write ks))
  at-signed me [] = tt
  at-signed me (k ∷ ks) = ((low, high), at-signed me ks)

  -- a step of them
  at-fitting : (ks : List Kind) (refusal : SiteFault) (h : History)
      → Fits (fitting limit at ks refusal h)
  at-fitting ks refusal h =
      at-either IsRunAt (is_full limit h ks) (ends (Err refusal))
      (makes at (map cell.write ks) (ends fine)) tt ((λ me. at-signed me ks), tt)
    where
      fine : Result (Unit {0}) SiteFault
      fine = Ok tt

  -- what is admitted of a delivery
  at-admitted : (refusal : SiteFault) (h : History) (given : List Kind)
      → Fits (send_admitted limit at refusal h given)
  at-admitted refusal h [] = tt
  at-admitted refusal h (k ∷ given) =
      at-ok IsRunAt (fitting limit at (closed true (k ∷ given)) refusal h)
      (λ _. ends (Ok (length (k ∷ given))))
      (at-fitting (closed true (k ∷ given)) refusal h) (λ _. tt)

  -- a delivery there
  at-sent : (refusal : SiteFault) (ks : List Kind) → Fits (send_step limit at refusal ks)
  at-sent refusal [] = tt
  at-sent refusal (k ∷ ks) = λ log.
      at-admitted refusal (history_in log) (admitted_kinds (history_in log) (k ∷ ks))

module _ (limit : ℕ) where
  -- a delivery at so many shards
  at-send-shards : (share : ℕ → List Kind) (admitted shard left : ℕ) → shard + left ≤ 4
      → Fits (send_shards (load_layout limit) dest_name share admitted shard left)
  at-send-shards share admitted shard zero le = tt
  at-send-shards share admitted shard (suc left) le =
      let is = dest-is shard in
      at-ok IsRunAt (send_at (load_layout limit) dest_name share admitted shard)
      (λ more. send_shards (load_layout limit) dest_name share (admitted + more) (shard + 1) left)
      (at-sent limit (dest_cell shard) (omega arith) (omega arith)
      (ShardFull dest_name shard admitted) (share shard))
      (λ more. at-send-shards share (admitted + more) (shard + 1) left (omega arith))

  -- a delivery of a batch
  at-send : (src : ByteList) (batch : List BatchItem)
      → Fits (send_course (load_layout limit) dest_name src batch)
  at-send src batch =
      let shards = shards_of load_names dest_name in
      at-ok IsRunAt
      (send_shards (load_layout limit) dest_name (sent_share src batch shards) 0 0 shards)
      (λ n. ends (Ok (record { admitted = n; refused = length batch - n })))
      (at-send-shards (sent_share src batch shards) 0 0 shards (omega (arith, dest-shards)))
      (λ n. tt)

  -- of several
  at-sends : (src : ByteList) (s : Sunk) (batches : List (List BatchItem))
      → Fits (sends_course (load_layout limit) dest_name src s batches)
  at-sends src s [] = tt
  at-sends src s (b ∷ batches) =
      at-then IsRunAt (send_course (load_layout limit) dest_name src b)
      (after_send (length b) s (λ s. sends_course (load_layout limit) dest_name src s batches))
      (at-send src b) (go (λ s. at-sends src s batches))
    where
      go : ((s : Sunk) → Fits (sends_course (load_layout limit) dest_name src s batches))
          → (r : Result Sent SiteFault) → Fits (after_send (length b) s
          (λ s. sends_course (load_layout limit) dest_name src s batches) r)
      go later (Ok sent) = later _
      go later (Err fault) = tt

  -- the run
  pub at-run : {B : Type 0} (batches : List ℕ → List CutPart → List (List BatchItem))
      (answer : List ℕ → List CutPart → Sunk → B)
      → Fits (run_course (load_layout limit) load_asked dest_name batches answer)
  at-run {B} batches answer =
      at-then IsRunAt (begin_course load_names load_asked)
      (bound_then load_names load_asked (stopped_by none_sunk) follow) at-begin go
    where
      sends : List ℕ → List CutPart → Course (Result Sunk TopicFault)
      sends before cut = sends_course (load_layout limit) dest_name src_name none_sunk
          (batches before cut)

      follow : List ℕ → List CutPart → Course (Result B TopicFault)
      follow = cut_then_store load_names load_asked sends answer

      done : List ℕ → List CutPart → Sunk → Unit {0} → Course (Result B TopicFault)
      done before cut a _ = ends (Ok (answer before cut a))

      stored : List ℕ → List CutPart → Sunk → Course (Result B TopicFault)
      stored before cut a =
          and_ok (store_course {E = TopicFault} load_names load_key (tops_of cut))
          (done before cut a)

      go : (r : Result (List ℕ) SiteFault)
          → Fits (bound_then load_names load_asked (stopped_by none_sunk) follow r)
      go (Err fault) = tt
      go (Ok before) =
          at-then IsRunAt (source_course load_names src_name) (λ cut. follow before cut)
          (at-source src_name) (λ cut.
          at-ok IsRunAt (sends before cut) (stored before cut)
          (at-sends src_name none_sunk (batches before cut)) (λ a.
          at-ok IsRunAt (store_course load_names load_key (tops_of cut)) (done before cut a)
          (at-store (tops_of cut)) (λ _. tt)))
