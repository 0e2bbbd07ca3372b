-- What a run of a load's topic did.
use Rattle.std.proofs.Common.{◌≡◌, ℕ, ◌<◌, List, [], ◌∷◌, slice_index, refl, sym, ap, ◌∙◌, subst, arith, Some, Result, Ok, Err}
use Rattle.std.specs.Prelude.{Contains, IfOk, OnOk}
use Rattle.std.specs.List.{AllByRecursion}
use Rattle.std.proofs.lemmas.List.{append_cancel_left}
use Rattle.tuple_values.specs.Document.{ByteList, Doc}
use Rattle.tuple_values.specs.declared.names.NameShards.{NameShards}
use Rattle.shard_versions.specs.declared.entry.Kind.{Kind}
use Rattle.shard_versions.specs.declared.entry.Kind.TheVariants.{Put, Del, Sent, Mark}
use Rattle.shard_versions.proofs.ListLemmas.{each_at}
use Rattle.topic_book.specs.Fitness.{shards_of}
use Rattle.once_core.specs.declared.world.Histories.{Histories}
use Rattle.exchange_rules.specs.Accesses.{at_owns, own_of}
use Rattle.exchange_rules.specs.Bindings.{book_cell}
use Rattle.exchange_rules.specs.Cells.{Log, book_in, history_in}
use Rattle.exchange_rules.specs.Courses.{ends}
use Rattle.exchange_rules.specs.Following.{Answers, Writer, counts}
use Rattle.exchange_rules.specs.Own.{steps_at}
use Rattle.exchange_rules.specs.Rows.{Layout}
use Rattle.exchange_rules.specs.Topics.{run_course, tops_of}
use Rattle.exchange_rules.specs.declared.log_entry.LogEntry.{LogEntry}
use Rattle.exchange_rules.specs.declared.log_entry.LogEntry.TheVariants as logged
use Rattle.exchange_rules.specs.declared.run.TopicFault.{TopicFault}
use Rattle.exchange_rules.specs.declared.run.TopicRun.{TopicRun}
use Rattle.exchange_rules.proofs.GrowthLemmas.{count_at}
use Rattle.site_laws.specs.SiteCells.{histories_in}
use Rattle.source_streams.specs.Batches.{topic_items}
use Rattle.source_streams.specs.declared.batch.TopicItem.{TopicItem}
use Rattle.update_sink.specs.Promises as promised
use Rattle.update_sink.specs.Promises.{IsDelivery, IsKept, IsRunEntry, IsRunKind}
use Rattle.update_sink.specs.Runs.{IsRun}
use Rattle.update_sink.specs.Topics.{IsSinkThere, Sink, asked_of, batches_over, run_of, sent_document}
use Rattle.load_rules.specs.Loaded.{IsDelivered, IsDeliveredKind}
use Rattle.load_rules.specs.Topic.{dest_name, load_names, src_name}
use Rattle.load_rules.proofs.CellLemmas.{book-is, load_layout, src-shards}
use Rattle.load_mix.proofs.AddLemmas.{added_reached}
use Rattle.load_mix.specs.Sink.{load_sink}
use Rattle.load_mix.specs.Topic.{load_parts}
use Rattle.load_rules.specs.Worked.{dest_cell, HasDelivered, HasReached, HasRun, IsOfTopic, src_cell}
use Rattle.load_mix.proofs.CutLemmas.{IsSeenRun, IsSinceTop, run-seen, top-since}
use Rattle.load_mix.proofs.GivenLemmas.{load-delivered}
use Rattle.load_mix.proofs.OwnLemmas.{each-at, each-followed}
use Rattle.load_mix.proofs.StepLemmas.{at-run, IsRunAt, load_asked}

-- what holds of each of a list's elements holds of one that is in it
each-in : {X : Type 0} (P : X → Type 0) (xs : List X) (x : X) → AllByRecursion P xs
    → Contains xs x → P x
each-in P xs x a c = subst P c.2 (each_at P xs c.0 x c.1 a)

-- a delivery of one of these items
item-delivered : (hs : Histories) (before : List ℕ) (items : List TopicItem) (from : ByteList)
    (version : ℕ) (document : Doc)
    → AllByRecursion (λ (i : TopicItem). IsDelivered hs i.version
    (sent_document src_name i.version i.document)) items
    → IsDelivery src_name before items (Sent from version document)
    → (from ≡ src_name) × IsDelivered hs version document
item-delivered hs before items from version document all d =
    let item = d.item in
    let is : Sent from version document
    ≡ Sent src_name item.version (sent_document src_name item.version item.document) = d.is in
    let source : from ≡ src_name = cc in
    let number : version ≡ item.version = cc in
    let same : document ≡ sent_document src_name item.version item.document = cc in
    let one = each-in (λ (i : TopicItem). IsDelivered hs i.version
    (sent_document src_name i.version i.document)) items item all d.given in (
      source,
      subst (λ v. IsDelivered hs v document) (sym number)
          (subst (λ x. IsDelivered hs item.version x) (sym same) one),
    )

module _ (hs : Histories) (before : List ℕ) (items : List TopicItem)
    (all : AllByRecursion (λ (i : TopicItem). IsDelivered hs i.version
    (sent_document src_name i.version i.document)) items) where
  -- a kind of a run
  kind-delivered : (k : Kind) → IsRunKind src_name before items k → IsDeliveredKind hs k
  kind-delivered (Put document) r = r
  kind-delivered (Del id) r = r
  kind-delivered (Sent from version document) r =
      item-delivered hs before items from version document all r
  kind-delivered Mark r = tt

  -- the entries of a run at a shard
  each-delivered : (log : Log) → AllByRecursion (IsRunEntry src_name before items) log
      → AllByRecursion (λ e. IsDeliveredKind hs e.kind) (history_in log)
  each-delivered [] a = tt
  each-delivered (logged.Shard e ∷ log) a =
      (kind-delivered e.kind a.0, each-delivered log a.1)
  each-delivered (logged.Book e ∷ log) a = each-delivered log a.1

-- the entries of a run in the book are of its topic
each-booked : (cell : ℕ) (log : Log) → AllByRecursion (IsRunAt cell) log
    → AllByRecursion IsOfTopic (book_in log)
each-booked cell [] a = tt
each-booked cell (logged.Shard e ∷ log) a = each-booked cell log a.1
each-booked cell (logged.Book e ∷ log) a = (a.0.1, each-booked cell log a.1)

-- it has none at a shard of the source
none-there : (cell : ℕ) (log : Log) → cell < 4 → AllByRecursion (IsRunAt cell) log → log ≡ []
none-there cell [] lt a = refl
none-there cell (logged.Shard e ∷ log) lt a = let low = a.0.0 in absurd (omega (arith, low, lt))
none-there cell (logged.Book e ∷ log) lt a =
    let at = a.0.0 in
    let nine = book-is in
    absurd (omega (arith, at, nine, lt))

module _ (limit : ℕ) (old new : Writer) (run : TopicRun)
    (followed : Answers old new (run_course (load_layout limit) load_asked dest_name
    (batches_over load_sink) run_of) (Ok run))
    (delivered : promised.HasDelivered old new load_sink run)
    (kept : IsKept (load_layout limit) new load_sink run) where
  -- what its own steps appended to a cell
  abbrev Steps : ℕ → Log
  Steps cell = steps_at cell new.seen (own_of followed.accesses)

  -- where and what they are
  steps-at : (cell : ℕ) → AllByRecursion (IsRunAt cell) (Steps cell)
  steps-at cell =
      each-followed IsRunAt old.me new.seen (counts old.seen)
      (run_course (load_layout limit) load_asked dest_name (batches_over load_sink) run_of)
      followed.accesses (ends (Ok run)) (counts new.seen) cell
      (at-run limit (batches_over load_sink) run_of) followed.followed

  -- what it saw
  saw : IsSeenRun load_names old new load_asked run
  saw =
      run-seen (load_layout limit) load_asked dest_name (batches_over load_sink) old new run
      followed

  -- each of its entries is one of a run
  entries-so : (cell : ℕ) → AllByRecursion
      (IsRunEntry src_name run.before (topic_items load_parts run.cut run.before)) (Steps cell)
  entries-so cell =
      let P : LogEntry → Type 0 =
      IsRunEntry src_name run.before (topic_items load_parts run.cut run.before) in
      let same : delivered.gained.own ≡ own_of followed.accesses =
      append_cancel_left old.own delivered.gained.own (own_of followed.accesses)
      (sym delivered.gained.is ∙ followed.own) in
      each-at P cell new.seen (own_of followed.accesses)
      (subst (λ own. AllByRecursion P (at_owns new.seen own)) same delivered.only)

  -- what it appended
  run-had : HasRun old new
  run-had = record {
    steps = Steps;
    added = added_reached old new
        (run_course (load_layout limit) load_asked dest_name (batches_over load_sink) run_of)
        (ends (Ok run)) followed;
    delivered = λ shard lt.
        each-delivered (histories_in load_names new.seen) run.before
        (topic_items load_parts run.cut run.before)
        (load-delivered new.seen (counts old.seen) run.before run.cut saw.cut)
        (Steps (dest_cell shard)) (entries-so (dest_cell shard));
    booked = each-booked (book_cell load_names) (Steps (book_cell load_names))
        (steps-at (book_cell load_names));
    elsewhere = λ cell lt. none-there cell (Steps cell) lt (steps-at cell);
  }

  -- how far its checkpoint came
  run-reached : (shard : ℕ) → shard < 4 → HasReached old new shard
  run-reached shard lt =
      let four = src-shards in
      let t : IsSinceTop load_names new.seen (counts old.seen) src_name shard
      (slice_index (tops_of run.cut) shard) =
      top-since load_names new.seen (counts old.seen) src_name run.cut shard saw.cut
      (omega (arith, four, lt)) in
      let before = count_at old.seen (src_cell shard) in
      let since = t.since in
      let is = t.is in
      let stored : slice_index run.stored shard ≡ slice_index (tops_of run.cut) shard =
      ap (λ tops. slice_index tops shard) kept.tops in
      let reached = kept.reached shard in
      record {
        upto = t.upto;
        since = omega (arith, before, since);
        within = t.within;
        reached = omega (arith, is, stored, reached);
      }

  -- what it delivered
  pub run-delivered : HasDelivered old new
  run-delivered = record {
    run = run-had;
    reached = run-reached;
    binding = saw.begun.kept;
    bound = saw.begun.bound;
  }

-- whatever its answer is
pub if-delivered : (l : Layout) (s : Sink) (old new : Writer) (r : Result TopicRun TopicFault)
    → l.names ≡ load_names → s ≡ load_sink
    → IsRun old new
    (run_course l (asked_of s.topic (Some s.dest)) s.dest (batches_over s) run_of) r
    → IfOk r (IsKept l new s) → IfOk r (promised.HasDelivered old new s)
    → OnOk r (HasDelivered old new)
if-delivered l s old new (Err fault) here is a k d = tt
if-delivered l s old new (Ok run) here is a k d =
    let limit = l.limit in
    let same : l ≡ load_layout limit = λ i. record { names = here i; limit = limit } in
    let a1 : Answers old new (run_course l (asked_of load_sink.topic (Some load_sink.dest))
    load_sink.dest (batches_over load_sink) run_of) (Ok run) =
    subst (λ (x : Sink). Answers old new
    (run_course l (asked_of x.topic (Some x.dest)) x.dest (batches_over x) run_of) (Ok run)) is a in
    let a2 = subst (λ (m : Layout). Answers old new
    (run_course m load_asked dest_name (batches_over load_sink) run_of) (Ok run)) same a1 in
    let k1 = subst (λ (x : Sink). IsKept l new x run) is k in
    let k2 = subst (λ (m : Layout). IsKept m new load_sink run) same k1 in
    let d1 = subst (λ (x : Sink). promised.HasDelivered old new x run) is d in
    run-delivered limit old new run a2 d1 k2

-- a load's collections have shards
there : IsSinkThere load_names load_sink
unfolding shards_of
there = record {
  topic = record { checkpoints = omega arith; src = omega arith };
  dest = omega arith;
}

-- so have those of its update
pub load-there : (names : List NameShards) (s : Sink) → names ≡ load_names → s ≡ load_sink
    → IsSinkThere names s
load-there names s here is =
    subst (λ n. IsSinkThere n s) (sym here) (subst (IsSinkThere load_names) (sym is) there)
