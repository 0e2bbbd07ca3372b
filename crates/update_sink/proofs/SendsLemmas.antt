-- How the run of a topic goes on, batch by batch, and to its store.
use Rattle.std.proofs.Common.{◌≡◌, ℕ, zero, suc, ◌+◌, ◌<◌, List, [], ◌∷◌, ◌++◌, length, map, set, take, drop, Bool, true, false, refl, sym, ap, subst, ◌∙◌, arith, append_assoc, append-nil, Some, Result, Ok, Err}
use Rattle.std.specs.Prelude.{IfErr, IfOk, OnOk, if◌then◌else◌}
use Rattle.std.specs.List.{AllByRecursion}
use Rattle.std.proofs.lemmas.List.{length-map, map-append, take-append-drop}
use Rattle.tuple_values.specs.Document.{ByteList}
use Rattle.tuple_values.specs.Keys.{shard_of}
use Rattle.tuple_values.specs.declared.names.NameShards.{NameShards}
use Rattle.shard_versions.specs.Documents.{id_of}
use Rattle.shard_versions.proofs.ListLemmas.{each_append, each_left, each_right, each_weaker}
use Rattle.topic_book.specs.Books.{raises}
use Rattle.topic_book.specs.Cells.{cell_of}
use Rattle.topic_book.specs.Fitness.{shards_of}
use Rattle.topic_book.specs.declared.topic.TopicKey.{TopicKey}
use Rattle.once_core.proofs.GrowthLemmas.{reaches_up, top_up, write_up}
use Rattle.exchange_rules.specs.Accesses.{Access, a_look, a_step, at_mark}
use Rattle.exchange_rules.specs.Batches.{Sunk, batches_of, told_sunk, with_batch}
use Rattle.exchange_rules.specs.Bindings.{book_cell, store_course, store_seen}
use Rattle.exchange_rules.specs.Calls.{Answered, HasAppended, IsStopped}
use Rattle.exchange_rules.specs.Cells.{Log, Payload, book_in, store}
use Rattle.exchange_rules.specs.Courses.{Course, ends, makes, and_then}
use Rattle.exchange_rules.specs.Deliveries.{send_course}
use Rattle.exchange_rules.specs.Following.{Follows, Grows, Writer, Reaches, Answers, counts}
use Rattle.exchange_rules.specs.Rows.{Layout}
use Rattle.exchange_rules.specs.Topics.{after_send, sends_course, stopped_by}
use Rattle.exchange_rules.specs.declared.batch.BatchItem.{BatchItem}
use Rattle.exchange_rules.specs.declared.batch.Sent.{Sent}
use Rattle.exchange_rules.specs.declared.fault.SiteFault.{SiteFault}
use Rattle.exchange_rules.specs.declared.fault.SiteFault.TheVariants.{ShardFull, TopicBound, BookFull, LogFault, CellClosed, OutOfMemory}
use Rattle.exchange_rules.specs.declared.run.TopicFault.{TopicFault}
use Rattle.exchange_rules.proofs.AppendedLemmas.{appended_join, appended_none, appended_then, stopped_at, is_stopped_then, broken_on, barred_on}
use Rattle.exchange_rules.proofs.ReachLemmas.{reaches_join, reaches_then}
use Rattle.site_laws.specs.SiteCells.{histories_in}
use Rattle.site_laws.proofs.CellLemmas.{seen-grows}
use Rattle.source_streams.specs.Batches.{given_names}
use Rattle.source_streams.specs.declared.batch.TopicItem.{TopicItem}
use Rattle.expr_types.specs.Sources.{cut_to}
use Rattle.update_sink.specs.Given.{AreGiven, AreThereNow, IsGiven, IsThereNow}
use Rattle.update_sink.specs.Runs.{IsRun, IsStoppedBy}
use Rattle.update_sink.specs.Sends.{IsSent, Next, send_of, told_of, sunk_done}
use Rattle.update_sink.specs.declared.delivering.Done.{Done}
use Rattle.update_sink.specs.Topics.{sent_item}
use Rattle.update_sink.proofs.BatchLemmas.{batches_of-next}
use Rattle.update_sink.proofs.ItemLemmas.{grown-of}
use Rattle.update_sink.proofs.PartLemmas.{Looked, ended-of, looked-of, made-of}
use Rattle.update_sink.proofs.StandLemmas.{IsCounted, appended-of, counted-batch, counted-sends, stand_sunk}

module _ (old new : Writer) (l : Layout) (dest src : ByteList) (b : List BatchItem) (s : Sunk) where
  -- the course goes on after the delivery of its batch
  after : (r : Result Sent SiteFault) → Answers old new (send_course l dest src b) r
      → (next : Next)
      → Reaches old new (send_of l dest src b s next) (after_send (length b) s next r)
  after r a next =
      reaches_then old new (send_course l dest src b) (ends r) (after_send (length b) s next) a

  -- a batch was delivered
  pub sent-on : (sent : Sent) (now : Sunk) → now ≡ with_batch s (length b) sent.admitted
      → Answers old new (send_course l dest src b) (Ok sent)
      → IsSent old new (send_of l dest src b s) now (Ok tt)
  sent-on sent now is a next =
      subst (λ (x : Sunk). Reaches old new (send_of l dest src b s next) (next x)) (sym is)
      (after (Ok sent) a next)

  -- a batch was refused, or memory was wanting in it
  pub unsent : (c : List BatchItem) → c ≡ b → (now : Sunk) → now ≡ s → (fault : SiteFault)
      → Answered old new (send_course l dest src c) (Err fault)
      → IsSent old new (send_of l dest src b s) now (Err fault)
  unsent c same now is fault a =
      subst (λ (x : Sunk). IsSent old new (send_of l dest src b s) x (Err fault)) (sym is)
      (here fault (subst (λ (x : List BatchItem).
      Answered old new (send_course l dest src x) (Err fault)) same a))
    where
      here : (fault : SiteFault) → Answered old new (send_course l dest src b) (Err fault)
          → IsSent old new (send_of l dest src b s) s (Err fault)
      here (ShardFull c n k) a = λ next. after (Err (ShardFull c n k)) a next
      here (TopicBound kept) a = λ next. after (Err (TopicBound kept)) a next
      here (BookFull topics) a = λ next. after (Err (BookFull topics)) a next
      here (LogFault cell stand) a = λ next. (
        is_stopped_then 0 old new (send_course l dest src b) (after_send (length b) s next) stand
            a.0,
        a.1,
      )
      here (CellClosed cell stand) a = λ next. (
        is_stopped_then 0 old new (send_course l dest src b) (after_send (length b) s next) stand
            a.0,
        a.1,
      )
      here (OutOfMemory stand) a = λ next.
          is_stopped_then 0 old new (send_course l dest src b) (after_send (length b) s next) stand
          a

-- memory was wanting before a batch was begun
pub unsent-none : (w : Writer) (batch : Next → Course (Result Sunk TopicFault)) (now : Sunk)
    → IsSent w w batch now (Err (OutOfMemory 0))
unsent-none w batch now next =
    stopped_at 0 w w (batch next) (batch next) (appended_none w (batch next))

-- a list that is made of the front of another
map-take : {X Y : Type 0} (f : X → Y) (n : ℕ) (xs : List X) → map f (take n xs) ≡ take n (map f xs)
map-take f zero xs = refl
map-take f (suc n) [] = refl
map-take f (suc n) (x ∷ xs) = ap (λ l. f x ∷ l) (map-take f n xs)

-- and of what is behind it
map-drop : {X Y : Type 0} (f : X → Y) (n : ℕ) (xs : List X) → map f (drop n xs) ≡ drop n (map f xs)
map-drop f zero xs = refl
map-drop f (suc n) [] = refl
map-drop f (suc n) (x ∷ xs) = map-drop f n xs

module _ (start old new : Writer) (course : Course (Result Sunk TopicFault))
    (here there : Layout) (dest src : ByteList) (size : ℕ) (s : Sunk) (rest : List TopicItem)
    (same : there ≡ here) (pos : 0 < size) (filled : 0 < length rest) where
  -- the items that are left
  abbrev left : List BatchItem
  left = map (sent_item src) rest

  -- the next batch
  abbrev batch : List BatchItem
  batch = map (sent_item src) (take size rest)

  -- those behind it
  abbrev next : Next
  next s = sends_course here dest src s (batches_of size (map (sent_item src) (drop size rest)))

  -- what is left of the run begins with it
  begins : Reaches start old course (sends_course here dest src s (batches_of size left))
      → Reaches start old course (send_of here dest src batch s next)
  begins r =
      let size_is : length left ≡ length rest = simp length-map in
      let first : take size left ≡ batch = sym (map-take (sent_item src) size rest) in
      let others : drop size left ≡ map (sent_item src) (drop size rest) =
      sym (map-drop (sent_item src) size rest) in
      let e : batches_of size left
      ≡ batch ∷ batches_of size (map (sent_item src) (drop size rest)) =
      batches_of-next size left pos (omega (arith, size_is, filled))
      ∙ (λ i. first i ∷ batches_of size (others i)) in
      subst (λ (bs : List (List BatchItem)).
      Reaches start old course (sends_course here dest src s bs)) e r

  -- the batch, by what was read of it
  sent-here : (front : List TopicItem) (now : Sunk) (r : Result (Unit {0}) SiteFault)
      → front ≡ take size rest
      → IsSent old new (send_of there dest src (map (sent_item src) front) s) now r
      → IsSent old new (send_of here dest src batch s) now r
  sent-here front now r is t =
      subst (λ (b : List TopicItem).
      IsSent old new (send_of here dest src (map (sent_item src) b) s) now r) is
      (subst (λ (l : Layout).
      IsSent old new (send_of l dest src (map (sent_item src) front) s) now r) same t)

  -- a batch was delivered
  pub batch-sent : (front behind : List TopicItem) (now : Sunk) → front ≡ take size rest
      → behind ≡ drop size rest
      → Reaches start old course (sends_course here dest src s (batches_of size left))
      → IsSent old new (send_of there dest src (map (sent_item src) front) s) now (Ok tt)
      → Reaches start new course
      (sends_course here dest src now (batches_of size (map (sent_item src) behind)))
  batch-sent front behind now is behind_is r t =
      subst (λ (b : List TopicItem). Reaches start new course
      (sends_course here dest src now (batches_of size (map (sent_item src) b)))) (sym behind_is)
      (reaches_join start old new course (send_of here dest src batch s next) (next now)
      (begins r) (sent-here front now (Ok tt) is t next))

  -- the run stopped in a batch
  pub batch-unsent : (front : List TopicItem) (now : Sunk) (fault : SiteFault) (told : TopicFault)
      → front ≡ take size rest → now ≡ s → told ≡ stopped_by s fault
      → IsCounted stand_sunk 0 course
      → Reaches start old course (sends_course here dest src s (batches_of size left))
      → IsSent old new (send_of there dest src (map (sent_item src) front) s) now (Err fault)
      → IsRun start new course (Err told)
  batch-unsent front now fault told is still t k r a =
      subst (λ x. IsRun start new course (Err x)) (sym t)
      (go fault (subst (λ (x : Sunk).
      IsSent old new (send_of here dest src batch s) x (Err fault)) still
      (sent-here front now (Err fault) is a)))
    where
      course_of : Course (Result Sunk TopicFault)
      course_of = send_of here dest src batch s next

      refused : (f : SiteFault) → Answers old new course_of (Err (stopped_by s f))
          → Answers start new course (Err (stopped_by s f))
      refused f a =
          reaches_join start old new course course_of (ends (Err (stopped_by s f))) (begins r) a

      -- so many writes stand before it
      before : HasAppended start old course course_of s.stand
      before =
          appended-of stand_sunk start old course course_of s.stand (begins r) k
          (counted-batch here dest src batch s next (λ t.
          counted-sends here dest src t
          (batches_of size (map (sent_item src) (drop size rest)))))

      stopped : (stand : ℕ) → IsStopped 0 old new course_of stand
          → IsStopped 0 start new course (s.stand + stand)
      stopped stand b =
          let count = b.counted in
          record {
            rest = b.rest;
            writes = s.stand + b.writes;
            stood = appended_join start old new course course_of b.rest s.stand b.writes before
                b.stood;
            counted = omega (arith, count);
          }

      go : (f : SiteFault) → IsSent old new (send_of here dest src batch s) s (Err f)
          → IsStoppedBy start new course (stopped_by s f) f
      go (ShardFull c n k) a = refused (ShardFull c n k) (a next)
      go (TopicBound kept) a = refused (TopicBound kept) (a next)
      go (BookFull topics) a = refused (BookFull topics) (a next)
      go (LogFault cell stand) a =
          let b = a next in
          (stopped stand b.0, broken_on start old new course course_of cell before.reached b.1)
      go (CellClosed cell stand) a =
          let b = a next in
          (stopped stand b.0, barred_on start old new course course_of cell before.reached b.1)
      go (OutOfMemory stand) a = stopped stand (a next)

-- the run has delivered all of its batches
pub sends-done : (start new : Writer) (course : Course (Result Sunk TopicFault))
    (l : Layout) (dest src : ByteList) (size : ℕ) (s : Sunk) (rest : List TopicItem)
    (docs : Sunk) → length rest ≡ 0 → docs ≡ told_sunk s
    → Reaches start new course
    (sends_course l dest src s (batches_of size (map (sent_item src) rest)))
    → Answers start new course (Ok docs)
sends-done start new course l dest src size s [] docs e is r =
    subst (λ d. Answers start new course (Ok d)) (sym is) r
sends-done start new course l dest src size s (x ∷ rest) docs e is r = absurd (omega arith)

-- the shard to which an id routes
abbrev home : List NameShards → ByteList → ByteList → ℕ
home names collection id = shard_of (shards_of names collection) id

-- items that were given are given as more is seen
pub given-later : (names : List NameShards) (seen later : List Log) (src : ByteList)
    (fl : List ByteList) (items : List TopicItem) → Grows seen later
    → AreGiven names seen src fl items → AreGiven names later src fl items
given-later names seen later src fl items g a =
    let hs = histories_in names seen in
    let hs' = histories_in names later in
    let grown = seen-grows names seen later (grown-of seen later g) in
    each_weaker (IsGiven names hs src (cut_to (given_names fl)))
    (IsGiven names hs' src (cut_to (given_names fl)))
    (λ i x.
    let cell = cell_of names src (home names src (id_of x.doc)) in
    let up = top_up names hs hs' grown cell in
    let low = x.reached in
    record {
      doc = x.doc;
      is = x.is;
      reached = omega (arith, low, up);
      written = write_up names hs hs' grown cell i.version
          (record { version = i.version; id = id_of x.doc; left = Some x.doc }) x.written;
      storable = x.storable;
    }) items a

-- items that are there are there as more is seen
pub there-later : (names : List NameShards) (seen later : List Log) (dest src : ByteList)
    (items : List TopicItem) → Grows seen later → AreThereNow names seen dest src items
    → AreThereNow names later dest src items
there-later names seen later dest src items g a =
    let hs = histories_in names seen in
    let hs' = histories_in names later in
    let grown = seen-grows names seen later (grown-of seen later g) in
    each_weaker (IsThereNow names seen dest src) (IsThereNow names later dest src)
    (λ i x. reaches_up names hs hs' grown i.version src (id_of i.document)
    (cell_of names dest (home names dest (id_of i.document))) x)
    (map (sent_item src) items) a

-- items that are there before these, which are there
pub there-more : (names : List NameShards) (seen : List Log) (dest src : ByteList)
    (front more : List TopicItem) → AreThereNow names seen dest src front
    → AreThereNow names seen dest src more → AreThereNow names seen dest src (front ++ more)
there-more names seen dest src front more a b =
    subst (AllByRecursion (IsThereNow names seen dest src))
    (sym (map-append (sent_item src) front more))
    (each_append (IsThereNow names seen dest src) (map (sent_item src) front)
    (map (sent_item src) more) a b)

-- those in front of others that were given
pub given-take : (names : List NameShards) (seen : List Log) (src : ByteList)
    (fl : List ByteList) (size : ℕ) (items : List TopicItem) → AreGiven names seen src fl items
    → AreGiven names seen src fl (take size items)
given-take names seen src fl size items a =
    each_left (IsGiven names (histories_in names seen) src (cut_to (given_names fl)))
    (take size items) (drop size items)
    (subst (AreGiven names seen src fl) (sym (take-append-drop size items)) a)

-- and those behind
pub given-drop : (names : List NameShards) (seen : List Log) (src : ByteList)
    (fl : List ByteList) (size : ℕ) (items : List TopicItem) → AreGiven names seen src fl items
    → AreGiven names seen src fl (drop size items)
given-drop names seen src fl size items a =
    each_right (IsGiven names (histories_in names seen) src (cut_to (given_names fl)))
    (take size items) (drop size items)
    (subst (AreGiven names seen src fl) (sym (take-append-drop size items)) a)

-- a Store isn't refused
pub store-unrefused : (old new : Writer) (names : List NameShards) (key : TopicKey)
    (upto : List ℕ) (fault : SiteFault)
    → Answers old new (store_course names key upto) (Err fault) → ⊥
store-unrefused old new names key upto fault r = go (raises key (book_in log) upto) l.went_on
  where
    n : ℕ
    n = book_cell names

    see : Log → Course (Result (Unit {0}) SiteFault)
    see log = store_seen names key upto (book_in log)

    l : Looked old.me new.seen (counts old.seen) n see (Err fault) (counts new.seen)
    l = looked-of old.me new.seen (counts old.seen) n see r.accesses (Err fault)
        (counts new.seen) r.followed

    log : Log
    log = at_mark new.seen l.mark

    fine : Result (Unit {0}) SiteFault
    fine = Ok tt

    had : List ℕ
    had = set (counts old.seen) l.mark.cell l.mark.upto

    go : (b : Bool)
        → Follows old.me new.seen had
        (if b then makes n (store key upto ∷ []) (ends fine) else ends fine) l.later
        (ends (Err fault)) (counts new.seen) → ⊥
    go true f =
        let m = made-of old.me new.seen had n (store key upto ∷ []) (ends fine) l.later
        (Err fault) (counts new.seen) f in
        let e : Err fault ≡ fine =
        ended-of old.me new.seen _ fine m.later (Err fault) (counts new.seen) m.went_on in cc
    go false f =
        let e : Err fault ≡ fine =
        ended-of old.me new.seen had fine l.later (Err fault) (counts new.seen) f in cc

-- how far a Store came is how far it came whatever its faults are
record StoreMoved (E F : Type 0) (me : ℕ) (seen : List Log) (had : List ℕ)
    (p : Course (Result (Unit {0}) F)) (accesses : List Access)
    (rest : Course (Result (Unit {0}) E)) (end : List ℕ) : Type 0 where
  other : Course (Result (Unit {0}) F)
  followed : Follows me seen had p accesses other end
  done : rest ≡ ends (Ok tt) → other ≡ ends (Ok tt)

-- by what was done of it
seen-moved : (E F : Type 0) (me : ℕ) (seen : List Log) (had : List ℕ) (n : ℕ)
    (step : List Payload) (b : Bool) (accesses : List Access)
    (rest : Course (Result (Unit {0}) E)) (end : List ℕ)
    → Follows me seen had (if b then makes n step (ends (Ok tt)) else ends (Ok tt)) accesses rest
    end
    → StoreMoved E F me seen had (if b then makes n step (ends (Ok tt)) else ends (Ok tt))
    accesses rest end
seen-moved E F me seen had n step true [] rest end f = record {
  other = makes n step (ends (Ok tt));
  followed = (refl, f.1);
  done = λ e. absurd (let bad : makes n step (ends (Ok tt)) ≡ ends (Ok tt) = sym f.0 ∙ e in cc);
}
seen-moved E F me seen had n step true (a_look m ∷ accesses) rest end f = absurd f.0
seen-moved E F me seen had n step true (a_step o ∷ []) rest end f = record {
  other = ends (Ok tt);
  followed = (f.0, (refl, f.1.1));
  done = λ e. refl;
}
seen-moved E F me seen had n step true (a_step o ∷ (x ∷ accesses)) rest end f = absurd f.1.0
seen-moved E F me seen had n step false [] rest end f = record {
  other = ends (Ok tt);
  followed = (refl, f.1);
  done = λ e. refl;
}
seen-moved E F me seen had n step false (x ∷ accesses) rest end f = absurd f.0

store-moved : (E F : Type 0) (me : ℕ) (seen : List Log) (had : List ℕ) (names : List NameShards)
    (key : TopicKey) (upto : List ℕ) (accesses : List Access)
    (rest : Course (Result (Unit {0}) E)) (end : List ℕ)
    → Follows me seen had (store_course names key upto) accesses rest end
    → StoreMoved E F me seen had (store_course names key upto) accesses rest end
store-moved E F me seen had names key upto [] rest end f = record {
  other = store_course names key upto;
  followed = (refl, f.1);
  done = λ e. absurd (let bad : store_course names key upto ≡ ends (Ok tt) = sym f.0 ∙ e in cc);
}
store-moved E F me seen had names key upto (a_step o ∷ accesses) rest end f = absurd f.0
store-moved E F me seen had names key upto (a_look m ∷ accesses) rest end f =
    let book = book_in (at_mark seen m) in
    let more = seen-moved E F me seen (set had m.cell m.upto) (book_cell names)
    (store key upto ∷ []) (raises key book upto) accesses rest end f.1 in
    record { other = more.other; followed = (f.0, more.followed); done = more.done }

-- how far a writer came that followed it
pub record StoreReached (E F : Type 0) (old new : Writer) (names : List NameShards)
    (key : TopicKey) (upto : List ℕ) (rest : Course (Result (Unit {0}) E)) : Type 0 where
  pub other : Course (Result (Unit {0}) F)
  pub done : rest ≡ ends (Ok tt) → other ≡ ends (Ok tt)
  pub reached : Reaches old new (store_course {E = F} names key upto) other

pub store-reached : (E F : Type 0) (old new : Writer) (names : List NameShards) (key : TopicKey)
    (upto : List ℕ) (rest : Course (Result (Unit {0}) E))
    → Reaches old new (store_course names key upto) rest
    → StoreReached E F old new names key upto rest
store-reached E F old new names key upto rest r =
    let m = store-moved E F old.me new.seen (counts old.seen) names key upto r.accesses rest
    (counts new.seen) r.followed in
    record {
      other = m.other;
      done = m.done;
      reached = record {
        same = r.same;
        grown = r.grown;
        accesses = r.accesses;
        marks = r.marks;
        own = r.own;
        looked = r.looked;
        faults = r.faults;
        followed = m.followed;
      };
    }

-- a run whose batches are all delivered, as it is told
pub done-run : (start new : Writer) (course : Course (Result Sunk TopicFault)) (l : Layout)
    (dest src : ByteList) (size : ℕ) (s : Sunk) (rest : List TopicItem)
    (r : Result Done TopicFault) → length rest ≡ 0
    → IfOk r (λ d. sunk_done d ≡ told_sunk s)
    → IfErr r (λ x. x ≡ stopped_by s (OutOfMemory 0)) → IsCounted stand_sunk 0 course
    → Reaches start new course
    (sends_course l dest src s (batches_of size (map (sent_item src) rest)))
    → IsRun start new course (told_of r)
done-run start new course l dest src size s rest (Ok d) e is want k r =
    sends-done start new course l dest src size s rest (sunk_done d) e is r
done-run start new course l dest src size s rest (Err x) e is want k r =
    let batches = batches_of size (map (sent_item src) rest) in
    let left = sends_course l dest src s batches in
    subst (λ y. IsRun start new course (Err y)) (sym want)
    (record {
      rest = left;
      writes = s.stand;
      stood = appended-of stand_sunk start new course left s.stand r k
          (counted-sends l dest src s batches);
      counted = omega arith;
    })

-- all items are there where those are that were before none
pub there-all : (names : List NameShards) (seen : List Log) (dest src : ByteList)
    (items front rest : List TopicItem) (r : Result Done TopicFault) → items ≡ front ++ rest
    → length rest ≡ 0 → AreThereNow names seen dest src front
    → OnOk r (AreThereNow names seen dest src items)
there-all names seen dest src items front rest (Err x) is e a = tt
there-all names seen dest src items front [] (Ok d) is e a =
    subst (AreThereNow names seen dest src) (sym (is ∙ append-nil front)) a
there-all names seen dest src items front (i ∷ rest) (Ok d) is e a = absurd (omega arith)

-- one more batch is behind those that were delivered
pub whole-more : (items front rest : List TopicItem) (size : ℕ) → items ≡ front ++ rest
    → items ≡ (front ++ take size rest) ++ drop size rest
whole-more items front rest size is =
    is ∙ (ap (λ l. front ++ l) (sym (take-append-drop size rest))
    ∙ sym (append_assoc front (take size rest) (drop size rest)))

-- from old to new logs grew, where a batch was delivered
pub sent-grown : (old new : Writer) (batch : Next → Course (Result Sunk TopicFault))
    (after : Sunk) → IsSent old new batch after (Ok tt) → Grows old.seen new.seen
sent-grown old new batch after f = (f (λ s. ends (Ok s))).grown
