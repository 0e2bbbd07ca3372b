-- What the run of a topic appends, and what it promises.
use Rattle.std.proofs.Common.{◌≡◌, ℕ, zero, suc, ◌+◌, ◌<◌, ◌≤◌, Bool, true, false, cond, bytes_eq, List, [], ◌∷◌, ◌++◌, get_or, set, drop, map, slice_index, ltb-false, ltb-true, refl, sym, ap, ◌∙◌, subst, arith, append_assoc, append-nil, Result, Ok, Err}
use Rattle.std.specs.Prelude.{count_by, filter, not, if◌then◌else◌, ◌&&◌, ◌||◌, nat_lt, max}
use Rattle.std.specs.List.{AllByRecursion}
use Rattle.std.proofs.lemmas.Slice.Eq.{bytes_eq-Decides}
use Rattle.tuple_values.specs.Document.{ByteList, Doc}
use Rattle.tuple_values.specs.declared.names.NameShards.{NameShards}
use Rattle.query_syntax.specs.Matching.{matches}
use Rattle.query_syntax.specs.Tree.{ClauseTree}
use Rattle.shard_versions.specs.declared.cut.CutPart.{CutPart}
use Rattle.shard_versions.specs.declared.entry.Kind.TheVariants.{Mark}
use Rattle.shard_versions.proofs.ListLemmas.{each_append}
use Rattle.topic_book.specs.Books.{Book, checkpoint, is_above, raises, same_key}
use Rattle.topic_book.specs.declared.topic.BookEntry.TheVariants as book
use Rattle.topic_book.specs.declared.topic.Binding.{Binding}
use Rattle.topic_book.specs.declared.topic.TopicKey.{TopicKey}
use Rattle.topic_book.proofs.BookLemmas.{checkpoint-append}
use Rattle.topic_book.proofs.TopicLemmas.{same_key-self}
use Rattle.exchange_rules.specs.Accesses.{at_mark, at_owns, own_of}
use Rattle.exchange_rules.specs.Batches.{Sunk, none_sunk}
use Rattle.exchange_rules.specs.Bindings.{book_cell, store_course, store_seen}
use Rattle.exchange_rules.specs.Calls.{HasAppended, IsStopped}
use Rattle.exchange_rules.specs.Cells.{Log, bind, book_in, signed, store}
use Rattle.exchange_rules.specs.Courses.{Course, ends, makes, and_ok}
use Rattle.exchange_rules.specs.Deliveries.{sent_kind}
use Rattle.exchange_rules.specs.Following.{Follows, Grows, Writer, Reaches, Answers, counts}
use Rattle.exchange_rules.specs.Rows.{Layout}
use Rattle.exchange_rules.specs.Topics.{Asked, begin_course, bound_then, cut_then_store, run_course, sends_course, source_course, stopped_by, tops_of}
use Rattle.exchange_rules.specs.declared.batch.BatchItem.{BatchItem}
use Rattle.exchange_rules.specs.declared.fault.SiteFault.{SiteFault}
use Rattle.exchange_rules.specs.declared.fault.SiteFault.TheVariants.{ShardFull, TopicBound, BookFull, LogFault, CellClosed, OutOfMemory}
use Rattle.exchange_rules.specs.declared.log_entry.LogEntry.{LogEntry}
use Rattle.exchange_rules.specs.declared.log_entry.LogEntry.TheVariants as logged
use Rattle.exchange_rules.specs.declared.run.TopicFault.{TopicFault}
use Rattle.exchange_rules.specs.declared.run.TopicRun.{TopicRun}
use Rattle.exchange_rules.proofs.ReachLemmas.{at_owns-append, count_by-append, owns_still}
use Rattle.site_laws.specs.SiteCells.{histories_in}
use Rattle.site_laws.proofs.CellLemmas.{book-append}
use Rattle.source_streams.specs.Batches.{cut_item, given_names, is_before, is_new, item_of, items_in, items_of, new_items, topic_items, whole_batch}
use Rattle.expr_types.specs.ExprTree.{TopicParts}
use Rattle.update_sink.specs.Promises.{Gained, HasStood, IsAbove, IsRunAlone, IsUnstored, appended, is_bind, is_other, is_store, stand_of}
use Rattle.update_sink.specs.Runs.{IsRun, IsStoppedBy}
use Rattle.update_sink.specs.Topics.{run_of}
use Rattle.update_sink.proofs.ItemLemmas.{each-made, each-sorted}
use Rattle.update_sink.proofs.MostLemmas.{IsAtMost, Misses, at-most, at-most-begin, at-most-behind, at-most-ok, at-most-sends, at-most-source, at-most-store, at-most-then, at-most-up}
use Rattle.update_sink.proofs.PartLemmas.{Looked, look-begins, looked-of, made-of, step-behind}
use Rattle.update_sink.proofs.StandLemmas.{appended-of, counted-run}

-- a run came somewhere in its course
pub record HasReached {A : Type 0} (old new : Writer) (course : Course A) : Type 0 where
  pub rest : Course A
  pub reached : Reaches old new course rest

-- where it stopped
pub stopped-run : {A : Type 0} (old new : Writer) (course : Course (Result A TopicFault))
    (told : TopicFault) → IsRun old new course (Err told) → HasReached old new course
stopped-run {A} old new course told r = go told.fault r
  where
    go : (fault : SiteFault) → IsStoppedBy old new course told fault → HasReached old new course
    go (ShardFull c s n) r = record { rest = ends (Err told); reached = r }
    go (TopicBound kept) r = record { rest = ends (Err told); reached = r }
    go (BookFull topics) r = record { rest = ends (Err told); reached = r }
    go (LogFault cell stand) r = record { rest = r.0.rest; reached = r.0.stood.reached }
    go (CellClosed cell stand) r = record { rest = r.0.rest; reached = r.0.stood.reached }
    go (OutOfMemory stand) r = record { rest = r.rest; reached = r.stood.reached }

-- whatever it answers
pub run-reached : {A : Type 0} (old new : Writer) (course : Course (Result A TopicFault))
    (r : Result A TopicFault) → IsRun old new course r → HasReached old new course
run-reached old new course (Ok a) r = record { rest = ends (Ok a); reached = r }
run-reached old new course (Err told) r = stopped-run old new course told r

-- what the record gained
abbrev pub gained-of : {A : Type 0} (old new : Writer) (course rest : Course A)
    → Reaches old new course rest → Gained old new
gained-of old new course rest r = record { own = own_of r.accesses; is = r.own }

-- of what it appended at most so many pass
gained-most : {A : Type 0} (p : LogEntry → Bool) (n : ℕ) (old new : Writer) (course rest : Course A)
    (r : Reaches old new course rest) → IsAtMost p course n
    → count_by p (appended old new (gained-of old new course rest r)) ≤ n
gained-most p n old new course rest r k =
    at-most p old.me new.seen (counts old.seen) course n r.accesses rest (counts new.seen) k
    r.followed

module _ (p : LogEntry → Bool) (n m : ℕ) (l : Layout) (t : Asked) (dest : ByteList)
    (binds : (b : Binding) (me : ℕ) → count_by p (signed me (bind t.key b ∷ [])) ≤ n)
    (stores : (tops : List ℕ) (me : ℕ) → count_by p (signed me (store t.key tops ∷ [])) ≤ m)
    (mark : Misses p Mark) (misses : (i : BatchItem) → Misses p (sent_kind t.src i)) where
  -- what of a run's course passes: at most what of a Bind and of a Store does
  run-most : {B : Type 0} (batches : List ℕ → List CutPart → List (List BatchItem))
      (answer : List ℕ → List CutPart → Sunk → B)
      → IsAtMost p (run_course l t dest batches answer) (n + m)
  run-most {B} batches answer =
      at-most-then p (begin_course l.names t) (bound_then l.names t (stopped_by none_sunk) follow)
      n m (at-most-begin p l.names t n binds) go
    where
      sends : List ℕ → List CutPart → Course (Result Sunk TopicFault)
      sends before cut = sends_course l dest t.src none_sunk (batches before cut)

      follow : List ℕ → List CutPart → Course (Result B TopicFault)
      follow = cut_then_store l.names t sends answer

      done : List ℕ → List CutPart → Sunk → Unit {0} → Course (Result B TopicFault)
      done before cut a _ = ends (Ok (answer before cut a))

      stored : List ℕ → List CutPart → Sunk → Course (Result B TopicFault)
      stored before cut a =
          and_ok (store_course {E = TopicFault} l.names t.key (tops_of cut)) (done before cut a)

      go : (r : Result (List ℕ) SiteFault)
          → IsAtMost p (bound_then l.names t (stopped_by none_sunk) follow r) m
      go (Err fault) = tt
      go (Ok before) =
          at-most-behind p (source_course l.names t.src) (λ cut. follow before cut) m
          (at-most-source p l.names t.src) (λ cut.
          at-most-up p (follow before cut) (0 + (m + 0)) m (omega arith)
          (at-most-ok p (sends before cut) (stored before cut) 0 (m + 0)
          (at-most-sends p mark l dest t.src misses none_sunk (batches before cut)) (λ a.
          at-most-ok p (store_course l.names t.key (tops_of cut)) (done before cut a) m 0
          (at-most-store p l.names t.key TopicFault (tops_of cut) m (stores (tops_of cut)))
          (λ _. tt))))

-- whether the same key is another
key-same : (key : TopicKey) → not (same_key key key) ≡ false
key-same key = ap not (same_key-self key)

-- whether the same text is another
text-same : (text : ByteList) → not (bytes_eq text text) ≡ false
text-same text = ap not ((bytes_eq-Decides text text).1 refl)

-- a single entry that doesn't pass
one-misses : (p : LogEntry → Bool) (x : LogEntry) → p x ≡ false → count_by p (x ∷ []) ≤ 0
one-misses p x e =
    let none : count_by p (x ∷ []) ≡ 0 = ap (λ b. 0 + cond b 1 0) e in omega (arith, none)

-- how far a run came in its course says what it appended
pub run-alone : {B : Type 0} (old new : Writer) (l : Layout) (t : Asked) (dest : ByteList)
    (batches : List ℕ → List CutPart → List (List BatchItem))
    (answer : List ℕ → List CutPart → Sunk → B) (r : Result B TopicFault)
    → IsRun old new (run_course l t dest batches answer) r → IsRunAlone t.key t.src old new
run-alone old new l t dest batches answer r a =
    let course = run_course l t dest batches answer in
    let h = run-reached old new course r a in
    let most : count_by (is_other t.key t.src) (at_owns new.seen (own_of h.reached.accesses)) ≤ 0 =
    gained-most (is_other t.key t.src) 0 old new course h.rest h.reached
    (run-most (is_other t.key t.src) 0 0 l t dest
    (λ b me. one-misses (is_other t.key t.src) (logged.Book (book.Bind me t.key b))
    (key-same t.key))
    (λ tops me. one-misses (is_other t.key t.src) (logged.Book (book.Store me t.key tops))
    (key-same t.key))
    (λ me. refl) (λ i me. text-same t.src) batches answer) in
    let none : count_by (is_other t.key t.src) (at_owns new.seen (own_of h.reached.accesses)) ≡ 0 =
    omega (arith, most) in
    record {
      gained = gained-of old new course h.rest h.reached;
      binds = gained-most is_bind 1 old new course h.rest h.reached
          (run-most is_bind 1 0 l t dest (λ b me. omega arith) (λ tops me. omega arith)
          (λ me. refl) (λ i me. refl) batches answer);
      stores = gained-most is_store 1 old new course h.rest h.reached
          (run-most is_store 0 1 l t dest (λ b me. omega arith) (λ tops me. omega arith)
          (λ me. refl) (λ i me. refl) batches answer);
      others = none;
    }

-- just so many writes stand as its answer tells
pub run-stood : (old new : Writer) (l : Layout) (t : Asked) (dest : ByteList)
    (batches : List ℕ → List CutPart → List (List BatchItem)) (r : Result TopicRun TopicFault)
    → IsRun old new (run_course l t dest batches run_of) r → HasStood old new (stand_of r)
run-stood old new l t dest batches r a = go r a
  where
    course : Course (Result TopicRun TopicFault)
    course = run_course l t dest batches run_of

    stood : (rest : Course (Result TopicRun TopicFault)) (n m : ℕ) → m ≡ n
        → HasAppended old new course rest n → HasStood old new m
    stood rest n m e h =
        record { gained = gained-of old new course rest h.reached; counted = e ∙ h.counted }

    answered : (r : Result TopicRun TopicFault) → Answers old new course r
        → HasStood old new (stand_of r)
    answered r a =
        stood (ends r) (stand_of r) (stand_of r) refl
        (appended-of stand_of old new course (ends r) (stand_of r) a
        (counted-run l t dest batches) refl)

    halted : (stop : TopicFault) → IsStopped 0 old new course stop.stand
        → HasStood old new stop.stand
    halted stop a =
        let count = a.counted in
        stood a.rest a.writes stop.stand (omega (arith, count)) a.stood

    stopped : (stop : TopicFault) (fault : SiteFault) → IsStoppedBy old new course stop fault
        → HasStood old new stop.stand
    stopped stop (ShardFull c s n) a = answered (Err stop) a
    stopped stop (TopicBound kept) a = answered (Err stop) a
    stopped stop (BookFull topics) a = answered (Err stop) a
    stopped stop (LogFault cell stand) a = halted stop a.0
    stopped stop (CellClosed cell stand) a = halted stop a.0
    stopped stop (OutOfMemory stand) a = halted stop a

    go : (r : Result TopicRun TopicFault) → IsRun old new course r → HasStood old new (stand_of r)
    go (Ok run) a = answered (Ok run) a
    go (Err stop) a = stopped stop stop.fault a

-- nothing is stored where no step is recorded
pub unstored-same : (old new : Writer) → new.own ≡ old.own → IsUnstored old new
unstored-same old new e = record {
  gained = record { own = []; is = e ∙ sym (append-nil old.own) };
  stores = refl;
}

-- nor where a course without a Store is followed first
pub unstored-then : {A : Type 0} (old mid new : Writer) (course rest : Course A)
    → Reaches old mid course rest → IsAtMost is_store course 0 → Grows mid.seen new.seen
    → IsUnstored mid new → IsUnstored old new
unstored-then old mid new course rest r k g u =
    let first = own_of r.accesses in
    let none : count_by is_store (at_owns mid.seen first) ≤ 0 =
    gained-most is_store 0 old mid course rest r k in
    let later : count_by is_store (at_owns new.seen u.gained.own) ≡ 0 = u.stores in
    let still : at_owns new.seen first ≡ at_owns mid.seen first =
    owns_still old.me mid.seen new.seen (counts old.seen) course r.accesses rest
    (counts mid.seen) g r.followed in
    let both : at_owns new.seen (first ++ u.gained.own)
    ≡ at_owns mid.seen first ++ at_owns new.seen u.gained.own =
    at_owns-append new.seen first u.gained.own
    ∙ ap (λ x. x ++ at_owns new.seen u.gained.own) still in
    let sum = ap (count_by is_store) both
    ∙ count_by-append is_store (at_owns mid.seen first) (at_owns new.seen u.gained.own) in
    let zero : count_by is_store (at_owns new.seen (first ++ u.gained.own)) ≡ 0 =
    omega (arith, none, later, sum) in
    record {
      gained = record {
        own = first ++ u.gained.own;
        is = u.gained.is ∙ (ap (λ x. x ++ u.gained.own) r.own
            ∙ append_assoc old.own first u.gained.own);
      };
      stores = zero;
    }

-- nor where that is all
pub unstored-only : {A : Type 0} (old new : Writer) (course rest : Course A)
    → Reaches old new course rest → IsAtMost is_store course 0 → IsUnstored old new
unstored-only old new course rest r k =
    let none : count_by is_store (at_owns new.seen (own_of r.accesses)) ≤ 0 =
    gained-most is_store 0 old new course rest r k in
    let zero : count_by is_store (at_owns new.seen (own_of r.accesses)) ≡ 0 = omega (arith, none) in
    record { gained = gained-of old new course rest r; stores = zero }

-- a topic that begins stores nothing
pub begin-unstored : (names : List NameShards) (t : Asked)
    → IsAtMost is_store (begin_course names t) 0
begin-unstored names t = at-most-begin is_store names t 0 (λ b me. omega arith)

-- nor do deliveries
pub sends-unstored : (l : Layout) (dest src : ByteList) (batches : List (List BatchItem))
    → IsAtMost is_store (sends_course l dest src none_sunk batches) 0
sends-unstored l dest src batches =
    at-most-sends is_store (λ me. refl) l dest src (λ i me. refl) none_sunk batches

-- nor does a cut
pub source-unstored : (names : List NameShards) (src : ByteList)
    → IsAtMost is_store (source_course names src) 0
source-unstored names src = at-most-source is_store names src

-- a Store of these raises the checkpoint to them
stored-above : (key : TopicKey) (b : Book) (me : ℕ) (upto : List ℕ) (shard : ℕ)
    → slice_index upto shard ≤ checkpoint key (b ++ book.Store me key upto ∷ []) shard
unfolding checkpoint
stored-above key [] me upto shard =
    let here : checkpoint key (book.Store me key upto ∷ []) shard
    ≡ max (slice_index upto shard) 0 =
    ap (λ t. if t then max (slice_index upto shard) 0 else 0) (same_key-self key) in
    omega (arith, here)
stored-above key (book.Bind by k c ∷ b) me upto shard =
    go (same_key key k) (stored-above key b me upto shard)
  where
    go : (t : Bool) → slice_index upto shard ≤ checkpoint key (b ++ book.Store me key upto ∷ []) shard
        → slice_index upto shard
        ≤ (if t then max (slice_index c.init shard)
        (checkpoint key (b ++ book.Store me key upto ∷ []) shard)
        else checkpoint key (b ++ book.Store me key upto ∷ []) shard)
    go true le = omega (arith, le)
    go false le = le
stored-above key (book.Store by k u ∷ b) me upto shard =
    go (same_key key k) (stored-above key b me upto shard)
  where
    go : (t : Bool) → slice_index upto shard ≤ checkpoint key (b ++ book.Store me key upto ∷ []) shard
        → slice_index upto shard
        ≤ (if t then max (slice_index u shard)
        (checkpoint key (b ++ book.Store me key upto ∷ []) shard)
        else checkpoint key (b ++ book.Store me key upto ∷ []) shard)
    go true le = omega (arith, le)
    go false le = le

-- where nothing is above the checkpoint all has been reached
none-above : (key : TopicKey) (b : Book) (first k : ℕ) (upto : List ℕ)
    → is_above key b first upto ≡ false → slice_index upto k ≤ checkpoint key b (first + k)
none-above key b first k [] e = omega arith
none-above key b first k (u ∷ us) e =
    go (nat_lt (checkpoint key b first) u) refl (λ f k. none-above key b (first + 1) k us f) e k
  where
    go : (t : Bool) → nat_lt (checkpoint key b first) u ≡ t
        → (is_above key b (first + 1) us ≡ false → (k : ℕ)
        → slice_index us k ≤ checkpoint key b ((first + 1) + k))
        → (t || is_above key b (first + 1) us) ≡ false
        → (k : ℕ) → slice_index (u ∷ us) k ≤ checkpoint key b (first + k)
    go true is later e k = absurd (cc)
    go false is later e zero =
        let same : first + 0 ≡ first = omega arith in
        subst (λ n. u ≤ checkpoint key b n) (sym same)
        (ltb-false (checkpoint key b first) u is)
    go false is later e (suc k) =
        let same : (first + 1) + k ≡ first + suc k = omega arith in
        subst (λ n. slice_index us k ≤ checkpoint key b n) same (later e k)

-- after a Store that was answered the checkpoint has reached what was stored
pub store-reaches : (old new : Writer) (names : List NameShards) (key : TopicKey) (upto : List ℕ)
    → Answers old new (store_course {E = SiteFault} names key upto) (Ok tt)
    → (shard : ℕ) → slice_index upto shard ≤ checkpoint key (histories_in names new.seen).book shard
unfolding raises
store-reaches old new names key upto r shard = go (raises key front upto) refl l.went_on
  where
    n : ℕ
    n = book_cell names

    fine : Result (Unit {0}) SiteFault
    fine = Ok tt

    see : Log → Course (Result (Unit {0}) SiteFault)
    see log = store_seen names key upto (book_in log)

    l : Looked old.me new.seen (counts old.seen) n see fine (counts new.seen)
    l = looked-of old.me new.seen (counts old.seen) n see r.accesses fine (counts new.seen)
        r.followed

    front : Book
    front = book_in (at_mark new.seen l.mark)

    had : List ℕ
    had = set (counts old.seen) l.mark.cell l.mark.upto

    behind : Log
    behind = drop l.mark.upto (get_or new.seen n [])

    whole : get_or new.seen n [] ≡ at_mark new.seen l.mark ++ behind
    whole = look-begins old.me new.seen (counts old.seen) n l.mark l.look

    go : (t : Bool) → raises key front upto ≡ t
        → Follows old.me new.seen had
        (if t then makes n (store key upto ∷ []) (ends fine) else ends fine) l.later (ends fine)
        (counts new.seen)
        → slice_index upto shard ≤ checkpoint key (histories_in names new.seen).book shard
    go false e f =
        let is : (histories_in names new.seen).book ≡ front ++ book_in behind =
        ap book_in whole ∙ book-append (at_mark new.seen l.mark) behind in
        let same : 0 + shard ≡ shard = omega arith in
        let low = subst (λ k. slice_index upto shard ≤ checkpoint key front k) same
        (none-above key front 0 shard upto e) in
        let up = checkpoint-append key front (book_in behind) shard in
        subst (λ b. slice_index upto shard ≤ checkpoint key b shard) (sym is)
        (omega (arith, low, up))
    go true e f =
        let m = made-of old.me new.seen had n (store key upto ∷ []) (ends fine) l.later fine
        (counts new.seen) f in
        let mine = book.Store old.me key upto in
        let rest = book_in (drop m.mark.count behind) in
        let made = step-behind old.me new.seen (counts old.seen) n l.mark l.look
        (store key upto ∷ []) m.mark m.own in
        let is : (histories_in names new.seen).book ≡ (front ++ mine ∷ []) ++ rest =
        ap book_in made
        ∙ (book-append (at_mark new.seen l.mark)
        (signed old.me (store key upto ∷ []) ++ drop m.mark.count behind)
        ∙ sym (append_assoc front (mine ∷ []) rest)) in
        let low = stored-above key front old.me upto shard in
        let up = checkpoint-append key (front ++ mine ∷ []) rest shard in
        subst (λ b. slice_index upto shard ≤ checkpoint key b shard) (sym is)
        (omega (arith, low, up))

-- what the query takes above a number is above it
new-above : (q : List ClauseTree) (before : List ℕ) (shard : ℕ) (ds : List (ℕ × Doc))
    → AllByRecursion (IsAbove before) (new_items q (slice_index before shard) shard ds)
new-above q before shard [] = tt
new-above q before shard (d ∷ ds) =
    go (is_new q (slice_index before shard) d) refl (new-above q before shard ds)
  where
    low : ℕ
    low = slice_index before shard

    go : (t : Bool) → is_new q low d ≡ t → AllByRecursion (IsAbove before) (new_items q low shard ds)
        → AllByRecursion (IsAbove before)
        (map (item_of shard) (cond t (d ∷ filter (is_new q low) ds) (filter (is_new q low) ds)))
    go true e a = (above (nat_lt low d.0) refl e, a)
      where
        above : (b : Bool) → nat_lt low d.0 ≡ b → (b && matches q d.1) ≡ true → low < d.0
        above true is e = ltb-true low d.0 is
        above false is e = absurd (cc)
    go false e a = a

-- so is all that it takes of a cut
items-above : (q : List ClauseTree) (src : ByteList) (before : List ℕ) (cut : List CutPart)
    → AllByRecursion (IsAbove before) (items_of q src before cut)
items-above q src before [] = tt
items-above q src before (part ∷ parts) =
    each_append (IsAbove before) (items_in q src before part) (items_of q src before parts)
    (go (bytes_eq part.collection src)) (items-above q src before parts)
  where
    go : (t : Bool) → AllByRecursion (IsAbove before)
        (if t
        then new_items q (slice_index before part.shard) part.shard part.snapshot.documents
        else [])
    go true = new-above q before part.shard part.snapshot.documents
    go false = tt

-- and all that a topic gives
pub topic-above : (p : TopicParts) (cut : List CutPart) (before : List ℕ)
    → AllByRecursion (IsAbove before) (topic_items p cut before)
topic-above p cut before =
    each-made (IsAbove before) (cut_item (given_names p.fl))
    (whole_batch p.q p.collection before cut)
    (each-sorted (IsAbove before) is_before (items_of p.q p.collection before cut)
    (items-above p.q p.collection before cut))
