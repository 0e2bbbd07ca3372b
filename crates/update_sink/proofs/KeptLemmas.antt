-- What a run keeps of its promise, by what was done of its cut.
use Rattle.std.proofs.Common.{◌≡◌, ℕ, List, sym, subst, Result, Ok, Err, ◌≢◌}
use Rattle.std.specs.Prelude.{IfErr, IfOk, OnOk}
use Rattle.tuple_values.specs.Document.{ByteList}
use Rattle.shard_versions.specs.declared.cut.CutPart.{CutPart}
use Rattle.topic_book.specs.declared.topic.TopicKey.{TopicKey}
use Rattle.exchange_rules.specs.Calls.{Answered, HasAppended, Stopped}
use Rattle.exchange_rules.specs.Courses.{Course, ends}
use Rattle.exchange_rules.specs.Following.{Writer, Answers}
use Rattle.exchange_rules.specs.Rows.{Layout}
use Rattle.exchange_rules.specs.Topics.{Asked, begin_course, source_course, tops_of}
use Rattle.exchange_rules.specs.declared.fault.SiteFault.{SiteFault}
use Rattle.exchange_rules.specs.declared.fault.SiteFault.TheVariants.{ShardFull, TopicBound, BookFull, LogFault, CellClosed, OutOfMemory}
use Rattle.exchange_rules.specs.declared.run.TopicFault.{TopicFault}
use Rattle.exchange_rules.specs.declared.run.TopicRun.{TopicRun}
use Rattle.exchange_rules.proofs.GrowthLemmas.{grows_join}
use Rattle.source_streams.specs.Batches.{topic_items}
use Rattle.source_streams.specs.declared.batch.TopicItem.{TopicItem}
use Rattle.update_sink.specs.Given.{AreThereNow}
use Rattle.update_sink.specs.Promises as promised
use Rattle.update_sink.specs.Promises.{IsKept, IsUnstored, IsUnstoredBy}
use Rattle.update_sink.specs.Runs.{IsRun}
use Rattle.update_sink.specs.Sends.{IsToldOf}
use Rattle.update_sink.specs.Topics.{Sink, key_of, run_at}
use Rattle.tuple_values.specs.declared.names.NameShards.{NameShards}
use Rattle.exchange_rules.specs.Bindings.{book_cell}
use Rattle.stream_site.specs.Topics.{HasStoredNone}
use Rattle.update_sink.proofs.PromiseLemmas.{HasReached, begin-unstored, run-reached, source-unstored, unstored-only, unstored-then, unstored-same}

-- where nothing was stored, that is so whatever the fault is
pub unstored-by : (names : List NameShards) (old new : Writer) (fault : SiteFault)
    → IsUnstored old new → IsUnstoredBy names old new fault
unstored-by names old new (ShardFull c s n) u = u
unstored-by names old new (TopicBound kept) u = u
unstored-by names old new (BookFull topics) u = u
unstored-by names old new (LogFault cell stand) u = λ _. u
unstored-by names old new (CellClosed cell stand) u = u
unstored-by names old new (OutOfMemory stand) u = u

-- what was stored since an earlier time
pub unstored-since : (names : List NameShards) (mid old new : Writer) (fault : SiteFault)
    → (IsUnstored mid new → IsUnstored old new) → IsUnstoredBy names mid new fault
    → IsUnstoredBy names old new fault
unstored-since names mid old new (ShardFull c s n) f u = f u
unstored-since names mid old new (TopicBound kept) f u = f u
unstored-since names mid old new (BookFull topics) f u = f u
unstored-since names mid old new (LogFault cell stand) f u = λ other. f (u other)
unstored-since names mid old new (CellClosed cell stand) f u = f u
unstored-since names mid old new (OutOfMemory stand) f u = f u

-- the same of a run
pub if-unstored : {A : Type 0} (names : List NameShards) (mid old new : Writer)
    (r : Result A TopicFault) → (IsUnstored mid new → IsUnstored old new)
    → IfErr r (λ x. IsUnstoredBy names mid new x.fault)
    → IfErr r (λ x. IsUnstoredBy names old new x.fault)
if-unstored names mid old new (Ok a) f u = tt
if-unstored names mid old new (Err x) f u = unstored-since names mid old new x.fault f u

-- a Store that was refused
pub store-unstored : (names : List NameShards) (old new : Writer) (fault : SiteFault)
    → HasStoredNone (book_cell names) old new fault → IsUnstoredBy names old new fault
store-unstored names old new (ShardFull c s n) u = unstored-same old new u
store-unstored names old new (TopicBound kept) u = unstored-same old new u
store-unstored names old new (BookFull topics) u = unstored-same old new u
store-unstored names old new (LogFault cell stand) u = λ other. absurd (other u)
store-unstored names old new (CellClosed cell stand) u = unstored-same old new u
store-unstored names old new (OutOfMemory stand) u = unstored-same old new u

-- a call came somewhere in its course
pub refused-reached : {A : Type 0} (old new : Writer) (course : Course (Result A SiteFault))
    (fault : SiteFault) → Answered old new course (Err fault) → HasReached old new course
refused-reached old new course (ShardFull c s n) a =
    record { rest = ends (Err (ShardFull c s n)); reached = a }
refused-reached old new course (TopicBound kept) a =
    record { rest = ends (Err (TopicBound kept)); reached = a }
refused-reached old new course (BookFull topics) a =
    record { rest = ends (Err (BookFull topics)); reached = a }
refused-reached old new course (LogFault cell stand) a =
    record { rest = a.0.rest; reached = a.0.stood.reached }
refused-reached old new course (CellClosed cell stand) a =
    record { rest = a.0.rest; reached = a.0.stood.reached }
refused-reached old new course (OutOfMemory stand) a =
    record { rest = a.rest; reached = a.stood.reached }

-- so did one that only looks
pub stopped-reached : {A : Type 0} (old new : Writer) (course : Course A) (fault : SiteFault)
    → Stopped old new course fault → HasReached old new course
stopped-reached old new course (ShardFull c s n) a = absurd a
stopped-reached old new course (TopicBound kept) a = absurd a
stopped-reached old new course (BookFull topics) a = absurd a
stopped-reached old new course (LogFault cell stand) a = absurd a
stopped-reached old new course (CellClosed cell stand) a =
    record { rest = a.0.rest; reached = a.0.stood.reached }
stopped-reached old new course (OutOfMemory stand) a =
    record { rest = a.rest; reached = a.stood.reached }

-- a topic that didn't begin stored nothing
pub unbegun-unstored : (old new : Writer) (l : Layout) (t : Asked) (fault : SiteFault)
    → Answered old new (begin_course l.names t) (Err fault) → IsUnstored old new
unbegun-unstored old new l t fault a =
    let h = refused-reached old new (begin_course l.names t) fault a in
    unstored-only old new (begin_course l.names t) h.rest h.reached (begin-unstored l.names t)

module _ (old mid : Writer) (l : Layout) (t : Asked) (before : List ℕ)
    (a : Answers old mid (begin_course l.names t) (Ok before)) where
  -- nor one whose source couldn't be read
  pub uncut-unstored : (new : Writer) (l1 : Layout) (src : ByteList) (fault : SiteFault)
      → Stopped mid new (source_course l1.names src) fault → IsUnstored old new
  uncut-unstored new l1 src fault s =
      let h = stopped-reached mid new (source_course l1.names src) fault s in
      unstored-then old mid new (begin_course l.names t) (ends (Ok before)) a
      (begin-unstored l.names t) h.reached.grown
      (unstored-only mid new (source_course l1.names src) h.rest h.reached
      (source-unstored l1.names src))

  -- nor one whose deliveries and store stored nothing
  pub whole-unstored : (cutting new : Writer) (l1 : Layout) (src : ByteList) (cut : List CutPart)
      (course : Course (Result TopicRun TopicFault)) (r : Result TopicRun TopicFault)
      → HasAppended mid cutting (source_course l1.names src) (ends cut) 0
      → IsRun cutting new course r
      → (names : List NameShards) → IfErr r (λ x. IsUnstoredBy names cutting new x.fault)
      → IfErr r (λ x. IsUnstoredBy names old new x.fault)
  whole-unstored cutting new l1 src cut course r c run names u =
      let h = run-reached cutting new course r run in
      if-unstored names cutting old new r (λ x.
      unstored-then old mid new (begin_course l.names t) (ends (Ok before)) a
      (begin-unstored l.names t)
      (grows_join mid.seen cutting.seen new.seen c.reached.grown h.reached.grown)
      (unstored-then mid cutting new (source_course l1.names src) (ends cut) c.reached
      (source-unstored l1.names src) h.reached.grown x)) u

-- what a run keeps, by what was delivered and stored of its cut
pub run-kept : (l there : Layout) (s : Sink) (key : TopicKey) (before : List ℕ) (cut : List CutPart)
    (items : List TopicItem) (tops : List ℕ) (new : Writer) (r : Result TopicRun TopicFault)
    → there ≡ l → key ≡ key_of s.topic → items ≡ topic_items s.topic cut before
    → tops ≡ tops_of cut → IfOk r (λ run. IsToldOf before cut tops run)
    → OnOk r (AreThereNow there.names new.seen s.dest s.topic.collection items)
    → OnOk r (promised.HasReached there.names new.seen key tops) → IfOk r (IsKept l new s)
run-kept l there s key before cut items tops new (Err x) here own given stored told a b = tt
run-kept l there s key before cut items tops new (Ok run) here own given stored told a b =
    let src = s.topic.collection in
    let a1 = subst (λ (x : Layout). AreThereNow x.names new.seen s.dest src items) here a in
    let a2 = subst (AreThereNow l.names new.seen s.dest src) given a1 in
    let b1 = subst (λ (x : Layout). promised.HasReached x.names new.seen key tops) here b in
    let b2 = subst (λ k. promised.HasReached l.names new.seen k tops) own b1 in
    let kept : IsKept l new s (run_at before cut tops told.sunk) = record {
      there = a2;
      tops = stored;
      reached = b2;
    } in
    subst (IsKept l new s) (sym told.is) kept
