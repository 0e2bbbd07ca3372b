-- A topic's run, part by part.
use Rattle.std.proofs.Common.{◌≡◌, ℕ, ◌+◌, ◌<◌, List, [], get_or, refl, sym, subst, ◌∙◌, arith, Some, Result, Ok, Err}
use Rattle.std.specs.Prelude.{map}
use Rattle.tuple_values.specs.Document.{ByteList}
use Rattle.tuple_values.specs.declared.names.NameShards.{NameShards}
use Rattle.query_syntax.specs.Reading.{query_of}
use Rattle.shard_versions.specs.declared.cut.CutPart.{CutPart}
use Rattle.topic_book.specs.declared.topic.TopicKey.{TopicKey}
use Rattle.exchange_rules.specs.Batches.{Sunk, batches_of, none_sunk}
use Rattle.exchange_rules.specs.Bindings.{store_course}
use Rattle.topic_book.specs.Cells.{cells_in}
use Rattle.once_core.specs.Allowed.{MayStore}
use Rattle.once_core.specs.Law.{IsFitCell}
use Rattle.site_laws.specs.SiteCells.{histories_in}
use Rattle.source_streams.specs.Batches.{topic_items}
use Rattle.source_streams.specs.declared.batch.TopicItem.{TopicItem}
use Rattle.exchange_rules.specs.Cells.{Log, history_in}
use Rattle.exchange_rules.specs.declared.run.TopicRun.{TopicRun}
use Rattle.exchange_rules.proofs.GrowthLemmas.{grows_join}
use Rattle.exchange_rules.specs.Calls.{Answered, HasAppended, IsStopped, Stopped}
use Rattle.exchange_rules.specs.Courses.{Course, ends, and_then, and_ok, unless_refused}
use Rattle.exchange_rules.specs.Following.{Grows, Writer, Reaches, Answers}
use Rattle.exchange_rules.specs.Rows.{Layout}
use Rattle.exchange_rules.specs.Topics.{Asked, begin_course, binding_for, bound_then, cut_then_store, run_course, sends_course, source_course, stopped_by, topic_course, tops_of}
use Rattle.exchange_rules.specs.declared.fault.SiteFault.{SiteFault}
use Rattle.exchange_rules.specs.declared.fault.SiteFault.TheVariants.{ShardFull, TopicBound, BookFull, LogFault, CellClosed, OutOfMemory}
use Rattle.exchange_rules.specs.declared.run.TopicFault.{TopicFault}
use Rattle.exchange_rules.proofs.AppendedLemmas.{appended_join, appended_none, appended_then, barred_on, broken_on, is_stopped_then, stopped_at, stopped_on}
use Rattle.exchange_rules.proofs.ReachLemmas.{reaches_join, reaches_then}
use Rattle.update_sink.specs.Runs.{IsRun, IsStoppedBy}
use Rattle.update_sink.specs.Given.{AreGiven, AreThereNow}
use Rattle.update_sink.specs.Promises.{stand_of}
use Rattle.update_sink.specs.Sends.{MayFinish, finish_course}
use Rattle.update_sink.specs.Topics.{Sink, asked_by, asked_of, batches_over, key_of, run_of, sent_item, run_at}
use Rattle.update_sink.specs.declared.taking.Taken.{Taken}
use Rattle.update_sink.proofs.BeginLemmas.{HasBegun, begun-later, cut-later, cut-of, has-begun}
use Rattle.update_sink.proofs.ItemLemmas.{source-fit, topic-given}
use Rattle.update_sink.proofs.QuietLemmas.{quiet-appended, quiet-begin, quiet-store}
use Rattle.update_sink.proofs.ReadLemmas.{cut-on}
use Rattle.update_sink.proofs.StandLemmas.{appended-of, counted-cut, counted-run, counted-store, counted-stored}
use Rattle.update_sink.proofs.StoreLemmas.{may-store}
use Rattle.update_sink.proofs.SendsLemmas.{store-reached, store-unrefused}

module _ {A B : Type 0} (old new : Writer) (p : Course (Result A TopicFault))
    (next : A → Course (Result B TopicFault)) where
  -- a run that stopped in its first part stopped
  pub stopped-first : (told : TopicFault) (fault : SiteFault) → IsStoppedBy old new p told fault
      → IsStoppedBy old new (and_ok p next) told fault
  stopped-first told (ShardFull c s n) a =
      reaches_then old new p (ends (Err told)) (unless_refused next) a
  stopped-first told (TopicBound kept) a =
      reaches_then old new p (ends (Err told)) (unless_refused next) a
  stopped-first told (BookFull topics) a =
      reaches_then old new p (ends (Err told)) (unless_refused next) a
  stopped-first told (LogFault cell stand) a =
      (is_stopped_then 0 old new p (unless_refused next) told.stand a.0, a.1)
  stopped-first told (CellClosed cell stand) a =
      (is_stopped_then 0 old new p (unless_refused next) told.stand a.0, a.1)
  stopped-first told (OutOfMemory stand) a =
      is_stopped_then 0 old new p (unless_refused next) told.stand a

-- a run that goes on from where it is, when no write stands yet
pub run-on : {B : Type 0} (old mid new : Writer) (p q : Course (Result B TopicFault))
    (r : Result B TopicFault) → HasAppended old mid p q 0 → IsRun mid new q r → IsRun old new p r
run-on {B} old mid new p q (Ok b) a s = reaches_join old mid new p q (ends (Ok b)) a.reached s
run-on {B} old mid new p q (Err told) a s = go told.fault s
  where
    go : (fault : SiteFault) → IsStoppedBy mid new q told fault
        → IsStoppedBy old new p told fault
    go (ShardFull c k n) s = reaches_join old mid new p q (ends (Err told)) a.reached s
    go (TopicBound kept) s = reaches_join old mid new p q (ends (Err told)) a.reached s
    go (BookFull topics) s = reaches_join old mid new p q (ends (Err told)) a.reached s
    go (LogFault cell stand) s =
        (stopped_on 0 old mid new p q 0 told.stand a s.0, broken_on old mid new p q cell a.reached s.1)
    go (CellClosed cell stand) s =
        (stopped_on 0 old mid new p q 0 told.stand a s.0, barred_on old mid new p q cell a.reached s.1)
    go (OutOfMemory stand) s = stopped_on 0 old mid new p q 0 told.stand a s

module _ {B : Type 0} (old mid new : Writer) (names : List NameShards) (key : TopicKey)
    (tops : List ℕ) (b : B) where
  -- what was delivered is stored
  pub stored-run : Answers mid new (store_course {E = SiteFault} names key tops) (Ok tt)
      → Answers mid new (and_ok (store_course {E = TopicFault} names key tops)
      (λ done. ends (Ok b))) (Ok b)
  stored-run a =
      let moved = store-reached SiteFault TopicFault mid new names key tops (ends (Ok tt)) a in
      let next : Result (Unit {0}) TopicFault → Course (Result B TopicFault) =
      unless_refused (λ done. ends (Ok b)) in
      let there = subst (Reaches mid new (store_course {E = TopicFault} names key tops))
      (moved.done refl) moved.reached in
      reaches_then mid new (store_course names key tops) (ends (Ok tt)) next there

  -- or the store stopped, after so many writes
  unstored-stopped : (p : Course (Result B TopicFault)) (n : ℕ) (told : TopicFault) (stand : ℕ)
      → HasAppended old mid p (and_ok (store_course {E = TopicFault} names key tops)
      (λ done. ends (Ok b))) n → told.stand ≡ n
      → IsStopped 0 mid new (store_course {E = SiteFault} names key tops) stand
      → IsStopped 0 old new p told.stand
  unstored-stopped p n told stand before is a =
      let moved = store-reached SiteFault TopicFault mid new names key tops a.rest
      a.stood.reached in
      let course = store_course {E = TopicFault} names key tops in
      let next : Result (Unit {0}) TopicFault → Course (Result B TopicFault) =
      unless_refused (λ done. ends (Ok b)) in
      let none = quiet-appended mid new course moved.other (quiet-store TopicFault names key tops)
      moved.reached in
      record {
        rest = and_then moved.other next;
        writes = n + 0;
        stood = appended_join old mid new p (and_then course next) (and_then moved.other next) n 0
            before (appended_then mid new course moved.other next 0 none);
        counted = omega (arith, is);
      }

  -- so the run did
  pub unstored-run : (p : Course (Result B TopicFault)) (n : ℕ) (told : TopicFault)
      (fault : SiteFault)
      → HasAppended old mid p (and_ok (store_course {E = TopicFault} names key tops)
      (λ done. ends (Ok b))) n → told.stand ≡ n
      → Answered mid new (store_course {E = SiteFault} names key tops) (Err fault)
      → IsStoppedBy old new p told fault
  unstored-run p n told (ShardFull c s k) before is a =
      absurd (store-unrefused mid new names key tops (ShardFull c s k) a)
  unstored-run p n told (TopicBound kept) before is a =
      absurd (store-unrefused mid new names key tops (TopicBound kept) a)
  unstored-run p n told (BookFull topics) before is a =
      absurd (store-unrefused mid new names key tops (BookFull topics) a)
  unstored-run p n told (LogFault cell stand) before is a = (
    unstored-stopped p n told stand before is a.0,
    broken_on old mid new p (and_ok (store_course {E = TopicFault} names key tops)
        (λ done. ends (Ok b))) cell before.reached a.1,
  )
  unstored-run p n told (CellClosed cell stand) before is a = (
    unstored-stopped p n told stand before is a.0,
    barred_on old mid new p (and_ok (store_course {E = TopicFault} names key tops)
        (λ done. ends (Ok b))) cell before.reached a.1,
  )
  unstored-run p n told (OutOfMemory stand) before is a =
      unstored-stopped p n told stand before is a

module _ {B : Type 0} (names : List NameShards) (t : Asked)
    (follow : List ℕ → List CutPart → Course (Result B TopicFault)) where
  -- a topic whose beginning stopped
  begin-halted : (old new : Writer) (stand : ℕ) → IsStopped 0 old new (begin_course names t) stand
      → IsStopped 0 old new (topic_course names t (stopped_by none_sunk) follow)
      (none_sunk.stand + stand)
  begin-halted old new stand a =
      let next = bound_then names t (stopped_by none_sunk) follow in
      let count = a.counted in
      record {
        rest = and_then a.rest next;
        writes = a.writes;
        stood = appended_then old new (begin_course names t) a.rest next a.writes a.stood;
        counted = omega (arith, count);
      }

  -- a run whose topic didn't begin
  pub begin-stopped : (old new : Writer) (fault : SiteFault)
      → Answered old new (begin_course names t) (Err fault)
      → IsStoppedBy old new (topic_course names t (stopped_by none_sunk) follow)
      (stopped_by none_sunk fault) fault
  begin-stopped old new (ShardFull c s n) a =
      reaches_then old new (begin_course names t) (ends (Err (ShardFull c s n)))
      (bound_then names t (stopped_by none_sunk) follow) a
  begin-stopped old new (TopicBound kept) a =
      reaches_then old new (begin_course names t) (ends (Err (TopicBound kept)))
      (bound_then names t (stopped_by none_sunk) follow) a
  begin-stopped old new (BookFull topics) a =
      reaches_then old new (begin_course names t) (ends (Err (BookFull topics)))
      (bound_then names t (stopped_by none_sunk) follow) a
  begin-stopped old new (LogFault cell stand) a = (begin-halted old new stand a.0, a.1)
  begin-stopped old new (CellClosed cell stand) a = (begin-halted old new stand a.0, a.1)
  begin-stopped old new (OutOfMemory stand) a = begin-halted old new stand a

  -- a source whose reading stopped
  cut-halted : (old mid new : Writer) (before : List ℕ) (stand : ℕ)
      → Answers old mid (begin_course names t) (Ok before)
      → IsStopped 0 mid new (source_course names t.src) stand
      → IsStopped 0 old new (topic_course names t (stopped_by none_sunk) follow)
      (none_sunk.stand + stand)
  cut-halted old mid new before stand a b =
      let course = topic_course names t (stopped_by none_sunk) follow in
      let begun : Result (List ℕ) SiteFault = Ok before in
      let next : List CutPart → Course (Result B TopicFault) = λ cut. follow before cut in
      let first = appended_then old mid (begin_course names t) (ends begun)
      (bound_then names t (stopped_by none_sunk) follow) 0
      (quiet-appended old mid (begin_course names t) (ends begun) (quiet-begin names t) a) in
      let count = b.counted in
      record {
        rest = and_then b.rest next;
        writes = 0 + b.writes;
        stood = appended_join old mid new course (and_then (source_course names t.src) next)
            (and_then b.rest next) 0 b.writes first
            (appended_then mid new (source_course names t.src) b.rest next b.writes b.stood);
        counted = omega (arith, count);
      }

  -- or whose source couldn't be read
  pub cut-stopped : (old mid new : Writer) (before : List ℕ) (fault : SiteFault)
      → Answers old mid (begin_course names t) (Ok before)
      → Stopped mid new (source_course names t.src) fault
      → IsStoppedBy old new (topic_course names t (stopped_by none_sunk) follow)
      (stopped_by none_sunk fault) fault
  cut-stopped old mid new before (ShardFull c s n) a b = absurd b
  cut-stopped old mid new before (TopicBound kept) a b = absurd b
  cut-stopped old mid new before (BookFull topics) a b = absurd b
  cut-stopped old mid new before (LogFault cell stand) a b = absurd b
  cut-stopped old mid new before (CellClosed cell stand) a b = (
    cut-halted old mid new before stand a b.0,
    barred_on old mid new (begin_course names t) (ends (Ok before)) cell a b.1,
  )
  cut-stopped old mid new before (OutOfMemory stand) a b = cut-halted old mid new before stand a b

module _ (old mid new : Writer) (l : Layout) (key : TopicKey) (dest src : ByteList) (size : ℕ)
    (items : List TopicItem) (tops : List ℕ) (answer : Sunk → TopicRun) where
  -- the deliveries
  abbrev sends : Course (Result Sunk TopicFault)
  sends = sends_course l dest src none_sunk (batches_of size (map (sent_item src) items))

  -- and what follows them
  abbrev behind : Sunk → Course (Result TopicRun TopicFault)
  behind docs = and_ok (store_course l.names key tops) (λ done. ends (Ok (answer docs)))

  abbrev whole : Course (Result TopicRun TopicFault)
  whole = finish_course l key dest src size items tops answer

  -- the deliveries of these
  abbrev sends_of : List TopicItem → Course (Result Sunk TopicFault)
  sends_of given = sends_course l dest src none_sunk (batches_of size (map (sent_item src) given))

  -- all was delivered
  sends-on : (given : List TopicItem) → given ≡ items → (docs : Sunk)
      → Answers old mid (sends_of given) (Ok docs) → Reaches old mid whole (behind docs)
  sends-on given are docs a =
      reaches_then old mid sends (ends (Ok docs)) (unless_refused behind)
      (subst (λ (x : List TopicItem). Answers old mid (sends_of x) (Ok docs)) are a)

  -- and then stored
  pub finished : (given : List TopicItem) → given ≡ items → (others : List NameShards)
      (upto : List ℕ) (docs : Sunk)
      → others ≡ l.names → upto ≡ tops → Answers old mid (sends_of given) (Ok docs)
      → Answers mid new (store_course {E = SiteFault} others key upto) (Ok tt)
      → IsRun old new whole (Ok (answer docs))
  finished given are others upto docs same is a s =
      let there = subst (λ u. Answers mid new (store_course {E = SiteFault} l.names key u) (Ok tt))
      is (subst (λ ns. Answers mid new (store_course {E = SiteFault} ns key upto) (Ok tt)) same
      s) in
      reaches_join old mid new whole (behind docs) (ends (Ok (answer docs))) (sends-on given are docs a)
      (stored-run old mid new l.names key tops (answer docs) there)

  -- or memory was wanting
  pub unfinished : (given : List TopicItem) → given ≡ items → (others : List NameShards)
      (upto : List ℕ) (docs : Sunk) (told : TopicFault)
      → others ≡ l.names → upto ≡ tops → ((s : Sunk) → (answer s).stand ≡ s.stand)
      → told.stand ≡ docs.stand → Answers old mid (sends_of given) (Ok docs)
      → Answered mid new (store_course {E = SiteFault} others key upto) (Err told.fault)
      → IsRun old new whole (Err told)
  unfinished given are others upto docs told same is tells stands a s =
      let there = subst (λ u. Answered mid new (store_course {E = SiteFault} l.names key u)
      (Err told.fault)) is
      (subst (λ ns. Answered mid new (store_course {E = SiteFault} ns key upto)
      (Err told.fault)) same s) in
      let batches = batches_of size (map (sent_item src) items) in
      let before = appended-of stand_of old mid whole (behind docs) docs.stand
      (sends-on given are docs a) (counted-stored l key dest src batches tops answer tells)
      (counted-store stand_of docs.stand l.names key tops (answer docs) (tells docs)) in
      unstored-run old mid new l.names key tops (answer docs) whole docs.stand told told.fault
      before stands there

  -- or not all was delivered
  pub undelivered : (given : List TopicItem) → given ≡ items → (told : TopicFault)
      → IsRun old mid (sends_of given) (Err told) → IsRun old mid whole (Err told)
  undelivered given are told s =
      stopped-first old mid sends behind told told.fault
      (subst (λ (x : List TopicItem). IsRun old mid (sends_of x) (Err told)) are s)

  -- or nothing was begun
  pub unstarted : (told : TopicFault) → told ≡ stopped_by none_sunk (OutOfMemory 0)
      → IsRun old old whole (Err told)
  unstarted told is =
      subst (λ x. IsRun old old whole (Err x)) (sym is)
      (stopped_at 0 old old whole whole (appended_none old whole))

module _ (w w1 : Writer) (l : Layout) (s : Sink) where
  -- what a run asks for
  abbrev asked : Asked
  asked = asked_of s.topic (Some s.dest)

  -- where it reads
  abbrev src : ByteList
  src = s.topic.collection

  -- its course
  abbrev running : Course (Result TopicRun TopicFault)
  running = run_course l asked s.dest (batches_over s) run_of

  -- what is done of its cut
  abbrev done_of : List ℕ → List CutPart → Course (Result TopicRun TopicFault)
  done_of = cut_then_store l.names asked
      (λ before cut. sends_course l s.dest src none_sunk (batches_over s before cut)) run_of

  -- how its topic begins under a key
  abbrev begin : TopicKey → Course (Result (List ℕ) SiteFault)
  begin k = begin_course l.names (asked_by k s.topic (Some s.dest))

  -- nothing was done
  pub run-unasked : (told : TopicFault) → told ≡ stopped_by none_sunk (OutOfMemory 0)
      → IsRun w w running (Err told)
  run-unasked told is =
      subst (λ x. IsRun w w running (Err x)) (sym is)
      (stopped_at 0 w w running running (appended_none w running))

  module _ (key : TopicKey) (own : key ≡ key_of s.topic) where
    -- the topic didn't begin
    pub run-unbegun : (fault : SiteFault) (told : TopicFault) → told ≡ stopped_by none_sunk fault
        → Answered w w1 (begin key) (Err fault) → IsRun w w1 running (Err told)
    run-unbegun fault told e a =
        subst (λ x. IsRun w w1 running (Err x)) (sym e)
        (begin-stopped l.names asked done_of w w1 fault
        (subst (λ k. Answered w w1 (begin k) (Err fault)) own a))

    module _ (w2 : Writer) (l1 : Layout) (same : l1 ≡ l) (before : List ℕ)
        (a : Answers w w1 (begin key) (Ok before)) where
      -- the topic began
      began : Answers w w1 (begin_course l.names asked) (Ok before)
      began = subst (λ k. Answers w w1 (begin k) (Ok before)) own a

      -- its source couldn't be read
      pub run-uncut : (fault : SiteFault) (told : TopicFault) → told ≡ stopped_by none_sunk fault
          → Stopped w1 w2 (source_course l1.names src) fault → IsRun w w2 running (Err told)
      run-uncut fault told e b =
          subst (λ x. IsRun w w2 running (Err x)) (sym e)
          (cut-stopped l.names asked done_of w w1 w2 before fault began
          (subst (λ (x : Layout). Stopped w1 w2 (source_course x.names src) fault) same b))

      module _ (taken : Taken) (kept : taken.before ≡ before)
          (c : HasAppended w1 w2 (source_course l1.names src) (ends taken.cut) 0) (l2 : Layout)
          (still : l2 ≡ l1) (items_are : taken.items ≡ topic_items s.topic taken.cut taken.before)
          (tops_are : taken.tops ≡ tops_of taken.cut) where
        -- it began where it was taken
        there-began : Answers w w1 (begin_course l.names asked) (Ok taken.before)
        there-began =
            subst (λ b. Answers w w1 (begin_course l.names asked) (Ok b)) (sym kept) began

        -- its source was read
        was-cut : Answers w1 w2 (source_course l.names src) taken.cut
        was-cut =
            subst (λ (x : Layout). Answers w1 w2 (source_course x.names src) taken.cut) same
            c.reached

        -- what it gives may be delivered
        pub run-given : ((cell : ℕ) → cell < cells_in l2.names
            → IsFitCell l2.names cell (history_in (get_or w2.seen cell [])))
            → AreGiven l2.names w2.seen src s.topic.fl taken.items
        run-given fit =
            let here : l2 ≡ l = still ∙ same in
            let fit' = subst (λ (x : Layout). (cell : ℕ) → cell < cells_in x.names
            → IsFitCell x.names cell (history_in (get_or w2.seen cell []))) here fit in
            let given = topic-given l.names w2.seen s.topic taken.cut taken.before
            (source-fit l.names w2.seen src fit') (cut-of w1 w2 l.names src taken.cut was-cut) in
            subst (λ (x : Layout). AreGiven x.names w2.seen src s.topic.fl taken.items) (sym here)
            (subst (AreGiven l.names w2.seen src s.topic.fl) (sym items_are) given)

        -- and its tops stored once it was
        run-store : query_of s.topic.q_text ≡ Some s.topic.q → (later : List Log)
            → Grows w2.seen later → AreThereNow l2.names later s.dest src taken.items
            → MayStore l2.names (histories_in l2.names later) key taken.tops
        run-store reads later grown there =
            let here : l2 ≡ l = still ∙ same in
            let begun = has-begun w w1 l.names asked taken.before there-began in
            let all = grows_join w1.seen w2.seen later c.reached.grown grown in
            let now : HasBegun l.names later asked taken.before = record {
              init = begun.init;
              begun = begun-later l.names w1.seen later asked.key (binding_for asked begun.init)
                  taken.before all begun.begun;
            } in
            let seen = cut-later l.names w2.seen later src taken.cut grown
            (cut-of w1 w2 l.names src taken.cut was-cut) in
            let there' = subst (AreThereNow l.names later s.dest src) items_are
            (subst (λ (x : Layout). AreThereNow x.names later s.dest src taken.items) here there) in
            let may = may-store l.names later s.topic s.dest taken.before taken.cut reads now seen
            there' in
            subst (λ (x : Layout). MayStore x.names (histories_in x.names later) key taken.tops)
            (sym here)
            (subst (λ k. MayStore l.names (histories_in l.names later) k taken.tops) (sym own)
            (subst (MayStore l.names (histories_in l.names later) asked.key) (sym tops_are) may))

        -- and its tops stored then
        pub run-may : query_of s.topic.q_text ≡ Some s.topic.q
            → MayFinish l2.names w2.seen key s.dest src taken.items taken.tops
        run-may reads = record { storable = λ later grown there. run-store reads later grown there }

        -- what was done of it
        pub run-done : (w3 : Writer) (r : Result TopicRun TopicFault)
            → IsRun w2 w3 (finish_course l2 key s.dest src s.size taken.items taken.tops
            (run_at taken.before taken.cut taken.tops)) r → IsRun w w3 running r
        run-done w3 r d =
            let answer : List ℕ → Sunk → TopicRun = run_at taken.before taken.cut in
            let here : l2 ≡ l = still ∙ same in
            let d1 = subst (λ (x : Layout). IsRun w2 w3 (finish_course x key s.dest src s.size
            taken.items taken.tops (answer taken.tops)) r) here d in
            let d2 = subst (λ k. IsRun w2 w3 (finish_course l k s.dest src s.size taken.items
            taken.tops (answer taken.tops)) r) own d1 in
            let d3 = subst (λ (x : List TopicItem). IsRun w2 w3 (finish_course l asked.key s.dest
            src s.size x taken.tops (answer taken.tops)) r) items_are d2 in
            let d4 = subst (λ (x : List ℕ). IsRun w2 w3 (finish_course l asked.key s.dest src
            s.size (topic_items s.topic taken.cut taken.before) x (answer x)) r) tops_are d3 in
            let on = cut-on l.names asked (stopped_by none_sunk) done_of w w1 w2 taken.before
            taken.cut there-began was-cut in
            let next = done_of taken.before taken.cut in
            run-on w w2 w3 running next r
            (appended-of stand_of w w2 running next 0 on (counted-run l asked s.dest (batches_over s))
            (counted-cut l asked s.dest (batches_over s) taken.before taken.cut)) d4
