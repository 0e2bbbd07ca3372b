-- How many writes stand where a course was followed, by what its answer tells.
use Rattle.std.proofs.Common.{◌≡◌, ℕ, zero, suc, ◌+◌, ◌-◌, Bool, true, false, not, cond, List, [], ◌∷◌, ◌++◌, length, map, refl, sym, ap, ◌∙◌, subst, arith, Option, Some, None, Result, Ok, Err}
use Rattle.std.specs.Prelude.{count_by, nat_lt, if◌then◌else◌}
use Rattle.std.proofs.lemmas.List.Sums.{sum_by-cons}
use Rattle.tuple_values.specs.Document.{ByteList}
use Rattle.tuple_values.specs.declared.names.NameShards.{NameShards}
use Rattle.shard_versions.specs.Histories.{History, is_mark}
use Rattle.shard_versions.specs.declared.cut.CutPart.{CutPart}
use Rattle.shard_versions.specs.declared.entry.Kind.{Kind}
use Rattle.topic_book.specs.Alike.{is_alike}
use Rattle.topic_book.specs.Books.{binding_of, raises, topics_in}
use Rattle.topic_book.specs.Cells.{cell_of}
use Rattle.topic_book.specs.Fitness.{shards_of}
use Rattle.topic_book.specs.declared.topic.Binding.{Binding}
use Rattle.topic_book.specs.declared.topic.TopicKey.{TopicKey}
use Rattle.exchange_rules.specs.Accesses.{Access, a_look, a_step, at_mark, at_own, at_owns, had_after, own_of}
use Rattle.exchange_rules.specs.Batches.{Sunk, none_sunk, stand_in, with_batch}
use Rattle.exchange_rules.specs.Bindings.{bind_course, bind_seen, book_cell, bound_checkpoint, checkpoint_in, store_course, topic_state_course}
use Rattle.exchange_rules.specs.Calls.{HasAppended, is_write}
use Rattle.exchange_rules.specs.Cells.{Log, bind, book_in, history_in, signed, signed_by, store, write}
use Rattle.exchange_rules.specs.Courses.{Course, ends, looks, makes, and_then, and_ok, unless_refused}
use Rattle.exchange_rules.specs.Deliveries.{admitted_kinds, send_admitted, send_at, send_course, send_shards, send_step, sent_share}
use Rattle.exchange_rules.specs.Following.{Follows, Reaches, Writer, counts}
use Rattle.exchange_rules.specs.Rows.{Layout}
use Rattle.exchange_rules.specs.Steps.{closed, is_full, writes_in}
use Rattle.exchange_rules.specs.Topics.{Asked, after_send, begin_course, binding_for, bound_then, cut_then_store, init_course, run_course, sends_course, source_course, stopped_by, tops_of}
use Rattle.exchange_rules.specs.declared.batch.BatchItem.{BatchItem}
use Rattle.exchange_rules.specs.declared.batch.Sent.{Sent}
use Rattle.exchange_rules.specs.declared.fault.SiteFault.{SiteFault}
use Rattle.exchange_rules.specs.declared.fault.SiteFault.TheVariants.{TopicBound, BookFull, ShardFull}
use Rattle.exchange_rules.specs.declared.run.TopicFault.{TopicFault}
use Rattle.exchange_rules.specs.declared.run.TopicRun.{TopicRun}
use Rattle.exchange_rules.proofs.DeliveryLemmas.{admitted_kinds-writes}
use Rattle.exchange_rules.proofs.ReachLemmas.{count_by-append}
use Rattle.exchange_rules.proofs.RoutingLemmas.{writes_in-closed}
use Rattle.update_sink.specs.Promises.{stand_of}
use Rattle.update_sink.specs.Sends.{Next, send_of}
use Rattle.update_sink.specs.Topics.{run_of}
use Rattle.update_sink.proofs.QuietLemmas.{IsQuiet, quiet-init, quiet-source}

-- whoever follows the course to its end, when so many writes stand, is told how many stand then
abbrev pub IsCounted : {A : Type 0} → (A → ℕ) → ℕ → Course A → Type 0
IsCounted told n (ends a) = told a ≡ n
IsCounted told n (looks cell see) = (log : Log) → IsCounted told n (see log)
IsCounted told n (makes cell step rest) =
    (k : ℕ) × ((me : ℕ) → count_by is_write (signed me step) ≡ k) × IsCounted told (n + k) rest

module _ {A : Type 0} (told : A → ℕ) where
  -- as far as it was followed, so many more stand as were appended
  pub counted-after : (me : ℕ) (seen : List Log) (had : List ℕ) (n : ℕ) (p : Course A)
      (accesses : List Access) (q : Course A) (end : List ℕ) → IsCounted told n p
      → Follows me seen had p accesses q end
      → IsCounted told (n + count_by is_write (at_owns seen (own_of accesses))) q
  counted-after me seen had n p [] q end k f =
      let e : n ≡ n + 0 = omega arith in
      subst (λ m. IsCounted told m q) e (subst (IsCounted told n) (sym f.0) k)
  counted-after me seen had n (ends a) (access ∷ accesses) q end k f = absurd f.0
  counted-after me seen had n (looks c see) (a_step o ∷ accesses) q end k f = absurd f.0
  counted-after me seen had n (makes c step p) (a_look m ∷ accesses) q end k f = absurd f.0
  counted-after me seen had n (looks c see) (a_look m ∷ accesses) q end k f =
      counted-after me seen (had_after had (a_look m)) n (see (at_mark seen m)) accesses q end
      (k (at_mark seen m)) f.1
  counted-after me seen had n (makes c step p) (a_step o ∷ accesses) q end k f =
      let rest = at_owns seen (own_of accesses) in
      let here : count_by is_write (at_own seen o) ≡ k.0 =
      ap (count_by is_write) f.0.appended ∙ k.1 me in
      let both = count_by-append is_write (at_own seen o) rest in
      let later = counted-after me seen (had_after had (a_step o)) (n + k.0) p accesses q end k.2
      f.1 in
      let e : (n + k.0) + count_by is_write rest
      ≡ n + count_by is_write (at_own seen o ++ rest) = omega (arith, both, here) in
      subst (λ m. IsCounted told m q) e later

  -- no other number stands there
  pub counted-same : (n m : ℕ) (p : Course A) → IsCounted told n p → IsCounted told m p → n ≡ m
  counted-same n m (ends a) k l = sym k ∙ l
  counted-same n m (looks c see) k l = counted-same n m (see []) (k []) (l [])
  counted-same n m (makes c step p) k l =
      let same = counted-same (n + k.0) (m + l.0) p k.2 l.2 in
      let a = k.1 0 in
      let b = l.1 0 in
      omega (arith, same, a, b)

  -- so many were appended as stand where nothing stood before
  pub appended-of : (old new : Writer) (p q : Course A) (m : ℕ) → Reaches old new p q
      → IsCounted told 0 p → IsCounted told m q → HasAppended old new p q m
  appended-of old new p q m r k l =
      let count = count_by is_write (at_owns new.seen (own_of r.accesses)) in
      let after = counted-after old.me new.seen (counts old.seen) 0 p r.accesses q
      (counts new.seen) k r.followed in
      let same = counted-same m (0 + count) q l after in
      let c : m ≡ count = omega (arith, same) in
      record { reached = r; counted = c }

-- the same where more stood before
counted-up : {A : Type 0} (told : A → ℕ) (more n : ℕ) (p : Course A) → IsCounted told n p
    → IsCounted (λ a. more + told a) (more + n) p
counted-up told more n (ends a) k = ap (λ x. more + x) k
counted-up told more n (looks c see) k = λ log. counted-up told more n (see log) (k log)
counted-up told more n (makes c step p) k =
    let e : more + (n + k.0) ≡ (more + n) + k.0 = omega arith in (
      k.0,
      k.1,
      subst (λ m. IsCounted (λ a. more + told a) m p) e (counted-up told more (n + k.0) p k.2),
    )

-- one of two
counted-either : {A : Type 0} (told : A → ℕ) (n : ℕ) (b : Bool) (p q : Course A)
    → IsCounted told n p → IsCounted told n q → IsCounted told n (if b then p else q)
counted-either told n true p q k l = k
counted-either told n false p q k l = l

-- one course, and then the one that its answer leads to
counted-then : {A B : Type 0} (here : A → ℕ) (told : B → ℕ) (n : ℕ) (p : Course A)
    (next : A → Course B) → IsCounted here n p → ((a : A) → IsCounted told (here a) (next a))
    → IsCounted told n (and_then p next)
counted-then here told n (ends a) next k f = subst (λ m. IsCounted told m (next a)) k (f a)
counted-then here told n (looks c see) next k f =
    λ log. counted-then here told n (see log) next (k log) f
counted-then here told n (makes c step p) next k f =
    (k.0, k.1, counted-then here told (n + k.0) p next k.2 f)

-- where the first appends no write
pub counted-behind : {A B : Type 0} (told : B → ℕ) (n : ℕ) (p : Course A) (next : A → Course B)
    → IsQuiet p → ((a : A) → IsCounted told n (next a)) → IsCounted told n (and_then p next)
counted-behind told n (ends a) next q f = f a
counted-behind told n (looks c see) next q f =
    λ log. counted-behind told n (see log) next (q log) f
counted-behind told n (makes c step p) next q f =
    let e : n ≡ n + 0 = omega arith in (
      0,
      q.0,
      subst (λ m. IsCounted told m (and_then p next)) e (counted-behind told n p next q.1 f),
    )

-- the writes of a step at a shard are counted as entries
pub writes-signed : (me : ℕ) (step : List Kind)
    → count_by is_write (signed me (map write step)) ≡ writes_in step
writes-signed me [] = refl
writes-signed me (k ∷ step) =
    let e = signed_by me (write k) in
    sum_by-cons (λ n. cond (is_write n) 1 0) e (signed me (map write step))
    ∙ (ap (λ n. cond (not (is_mark k)) 1 0 + n) (writes-signed me step)
    ∙ sym (sum_by-cons (λ x. cond (not (is_mark x)) 1 0) k step))

-- what a step of admitted writes and its Mark appends
pub admitted-step : (me : ℕ) (k : Kind) (ks : List Kind)
    → writes_in (k ∷ ks) ≡ length (k ∷ ks)
    → count_by is_write (signed me (map write (closed true (k ∷ ks)))) ≡ length (k ∷ ks)
admitted-step me k ks e =
    writes-signed me (closed true (k ∷ ks)) ∙ (writes_in-closed true (k ∷ ks) ∙ e)

-- how many stand after a part of a delivery, before which so many did
abbrev stand_at : ℕ → Result ℕ SiteFault → ℕ
stand_at before (Ok more) = before + more
stand_at before (Err fault) = stand_in fault

module _ (limit cell before : ℕ) (refusal : SiteFault) (is : stand_in refusal ≡ before) where
  -- what a shard admits
  counted-admitted : (h : History) (ks : List Kind) → writes_in ks ≡ length ks
      → IsCounted (stand_at before) before (send_admitted limit cell refusal h ks)
  counted-admitted h [] e = omega arith
  counted-admitted h (k ∷ ks) e = go (is_full limit h (closed true (k ∷ ks)))
    where
      count : ℕ
      count = length (k ∷ ks)

      next : Result (Unit {0}) SiteFault → Course (Result ℕ SiteFault)
      next = unless_refused (λ done. ends (Ok count))

      fine : Course (Result (Unit {0}) SiteFault)
      fine = ends (Ok tt)

      go : (b : Bool) → IsCounted (stand_at before) before (and_then
          (if b then ends (Err refusal) else makes cell (map write (closed true (k ∷ ks))) fine)
          next)
      go true = is
      go false = (count, (λ me. admitted-step me k ks e), refl)

  -- a delivery at a shard
  counted-step : (ks : List Kind)
      → IsCounted (stand_at before) before (send_step limit cell refusal ks)
  counted-step [] = omega arith
  counted-step (k ∷ ks) = λ log.
      counted-admitted (history_in log) (admitted_kinds (history_in log) (k ∷ ks))
      (admitted_kinds-writes (history_in log) (k ∷ ks))

-- at so many shards
counted-shards : (l : Layout) (dest : ByteList) (share : ℕ → List Kind) (admitted shard left : ℕ)
    → IsCounted (stand_at 0) admitted (send_shards l dest share admitted shard left)
counted-shards l dest share admitted shard zero = omega arith
counted-shards l dest share admitted shard (suc left) =
    counted-then (stand_at admitted) (stand_at 0) admitted (send_at l dest share admitted shard)
    (unless_refused next)
    (counted-step l.limit (cell_of l.names dest shard) admitted (ShardFull dest shard admitted)
    refl (share shard))
    (go (λ more. counted-shards l dest share (admitted + more) (shard + 1) left))
  where
    next : ℕ → Course (Result ℕ SiteFault)
    next more = send_shards l dest share (admitted + more) (shard + 1) left

    go : ((more : ℕ) → IsCounted (stand_at 0) (admitted + more) (next more))
        → (r : Result ℕ SiteFault)
        → IsCounted (stand_at 0) (stand_at admitted r) (unless_refused next r)
    go later (Ok more) = later more
    go later (Err fault) = refl

-- how many stand after a delivery
abbrev pub stand_sent : Result Sent SiteFault → ℕ
stand_sent (Ok sent) = sent.admitted
stand_sent (Err fault) = stand_in fault

-- a delivery of a batch
pub counted-send : (l : Layout) (dest src : ByteList) (batch : List BatchItem)
    → IsCounted stand_sent 0 (send_course l dest src batch)
counted-send l dest src batch =
    counted-then (stand_at 0) stand_sent 0 (send_shards l dest share 0 0 shards)
    (unless_refused next) (counted-shards l dest share 0 0 shards) go
  where
    shards : ℕ
    shards = shards_of l.names dest

    share : ℕ → List Kind
    share = sent_share src batch shards

    next : ℕ → Course (Result Sent SiteFault)
    next n = ends (Ok (record { admitted = n; refused = length batch - n }))

    go : (r : Result ℕ SiteFault) → IsCounted stand_sent (stand_at 0 r) (unless_refused next r)
    go (Ok n) = omega arith
    go (Err fault) = refl

-- how many stand after the batches of a run
abbrev pub stand_sunk : Result Sunk TopicFault → ℕ
stand_sunk (Ok s) = s.stand
stand_sunk (Err stop) = stop.stand

-- a batch, and what follows it
pub counted-batch : (l : Layout) (dest src : ByteList) (b : List BatchItem) (s : Sunk) (next : Next)
    → ((s : Sunk) → IsCounted stand_sunk s.stand (next s))
    → IsCounted stand_sunk s.stand (send_of l dest src b s next)
counted-batch l dest src b s next k =
    counted-then told stand_sunk s.stand (send_course l dest src b) (after_send (length b) s next)
    (subst (λ m. IsCounted told m (send_course l dest src b)) e
    (counted-up stand_sent s.stand 0 (send_course l dest src b) (counted-send l dest src b))) go
  where
    told : Result Sent SiteFault → ℕ
    told r = s.stand + stand_sent r

    e : s.stand + 0 ≡ s.stand
    e = omega arith

    go : (r : Result Sent SiteFault)
        → IsCounted stand_sunk (told r) (after_send (length b) s next r)
    go (Ok sent) = k (with_batch s (length b) sent.admitted)
    go (Err fault) = refl

-- the batches that are left
pub counted-sends : (l : Layout) (dest src : ByteList) (s : Sunk) (batches : List (List BatchItem))
    → IsCounted stand_sunk s.stand (sends_course l dest src s batches)
counted-sends l dest src s [] = refl
counted-sends l dest src s (b ∷ batches) =
    counted-batch l dest src b s (λ t. sends_course l dest src t batches)
    (λ t. counted-sends l dest src t batches)

-- a Store, after which the answer tells how many stand
pub counted-store : {B : Type 0} (told : Result B TopicFault → ℕ) (n : ℕ)
    (names : List NameShards) (key : TopicKey) (tops : List ℕ) (b : B) → told (Ok b) ≡ n
    → IsCounted told n (and_ok (store_course {E = TopicFault} names key tops)
    (λ done. ends (Ok b)))
counted-store {B} told n names key tops b is = λ log. go (raises key (book_in log) tops)
  where
    fine : Course (Result (Unit {0}) TopicFault)
    fine = ends (Ok tt)

    next : Result (Unit {0}) TopicFault → Course (Result B TopicFault)
    next = unless_refused (λ done. ends (Ok b))

    go : (t : Bool) → IsCounted told n (and_then
        (if t then makes (book_cell names) (store key tops ∷ []) fine else fine) next)
    go true = (0, (λ me. refl), omega (arith, is))
    go false = is

-- the deliveries of a run, and then its Store
pub counted-stored : (l : Layout) (key : TopicKey) (dest src : ByteList)
    (batches : List (List BatchItem)) (tops : List ℕ) (answer : Sunk → TopicRun)
    → ((s : Sunk) → (answer s).stand ≡ s.stand)
    → IsCounted stand_of 0 (and_ok (sends_course l dest src none_sunk batches) (λ s.
    and_ok (store_course {E = TopicFault} l.names key tops) (λ done. ends (Ok (answer s)))))
counted-stored l key dest src batches tops answer is =
    counted-then stand_sunk stand_of 0 (sends_course l dest src none_sunk batches)
    (unless_refused next) (counted-sends l dest src none_sunk batches) go
  where
    next : Sunk → Course (Result TopicRun TopicFault)
    next s = and_ok (store_course {E = TopicFault} l.names key tops) (λ done. ends (Ok (answer s)))

    go : (r : Result Sunk TopicFault)
        → IsCounted stand_of (stand_sunk r) (unless_refused next r)
    go (Ok s) = counted-store stand_of s.stand l.names key tops (answer s) (is s)
    go (Err stop) = refl

-- how many stand where a topic began: none
abbrev pub stand_begun : Result (List ℕ) SiteFault → ℕ
stand_begun (Ok before) = 0
stand_begun (Err fault) = stand_in fault

-- a Bind
counted-bind : (names : List NameShards) (key : TopicKey) (b : Binding)
    → IsCounted stand_begun 0 (bind_course names key b)
counted-bind names key b log = go (binding_of key (book_in log))
  where
    go : (o : Option Binding) → IsCounted stand_begun 0 (bind_seen names key b (book_in log) o)
    go None =
        counted-either stand_begun 0 (nat_lt (topics_in (book_in log)) 1000)
        (makes (book_cell names) (bind key b ∷ [])
        (ends (Ok (bound_checkpoint key (book_in log) b))))
        (ends (Err (BookFull (topics_in (book_in log))))) (0, (λ me. refl), refl) refl
    go (Some kept) =
        counted-either stand_begun 0 (is_alike kept b)
        (ends (Ok (checkpoint_in key (book_in log)))) (ends (Err (TopicBound kept))) refl refl

-- a topic that begins
pub counted-begin : (names : List NameShards) (t : Asked)
    → IsCounted stand_begun 0 (begin_course names t)
counted-begin names t =
    counted-behind stand_begun 0 (topic_state_course names t.key)
    (λ state. and_then (init_course names t.src t.init state) (λ init.
    bind_course names t.key (binding_for t init)))
    (λ log. tt) (λ state.
    counted-behind stand_begun 0 (init_course names t.src t.init state)
    (λ init. bind_course names t.key (binding_for t init))
    (quiet-init names t.src t.init state) (λ init.
    counted-bind names t.key (binding_for t init)))

module _ (l : Layout) (t : Asked) (dest : ByteList)
    (batches : List ℕ → List CutPart → List (List BatchItem)) where
  -- what is done of a topic's checkpoint and cut
  abbrev follow : List ℕ → List CutPart → Course (Result TopicRun TopicFault)
  follow = cut_then_store l.names t
      (λ before cut. sends_course l dest t.src none_sunk (batches before cut)) run_of

  -- once it is read
  pub counted-cut : (before : List ℕ) (cut : List CutPart)
      → IsCounted stand_of 0 (follow before cut)
  counted-cut before cut =
      counted-stored l t.key dest t.src (batches before cut) (tops_of cut) (run_of before cut)
      (λ s. refl)

  -- once the topic has begun
  pub counted-begun : (before : List ℕ)
      → IsCounted stand_of 0 (and_then (source_course l.names t.src) (λ cut. follow before cut))
  counted-begun before =
      counted-behind stand_of 0 (source_course l.names t.src) (λ cut. follow before cut)
      (quiet-source l.names t.src) (λ cut. counted-cut before cut)

  -- the run of a topic
  pub counted-run : IsCounted stand_of 0 (run_course l t dest batches run_of)
  counted-run =
      counted-then stand_begun stand_of 0 (begin_course l.names t)
      (bound_then l.names t (stopped_by none_sunk) follow) (counted-begin l.names t) go
    where
      go : (r : Result (List ℕ) SiteFault)
          → IsCounted stand_of (stand_begun r) (bound_then l.names t (stopped_by none_sunk) follow r)
      go (Ok before) = counted-begun before
      go (Err fault) = omega arith
