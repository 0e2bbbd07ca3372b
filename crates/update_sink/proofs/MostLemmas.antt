-- How many entries of some kind whoever follows a course appends at most.
use Rattle.std.proofs.Common.{◌≡◌, ℕ, zero, suc, ◌+◌, ◌≤◌, Bool, true, false, cond, List, [], ◌∷◌, ◌++◌, map, length, ◌-◌, refl, ap, arith, Option, Some, None, Result, Ok, Err}
use Rattle.std.specs.Prelude.{count_by, nat_lt, if◌then◌else◌}
use Rattle.std.specs.List.{AllByRecursion}
use Rattle.tuple_values.specs.Document.{ByteList}
use Rattle.tuple_values.specs.declared.names.NameShards.{NameShards}
use Rattle.shard_versions.specs.Deliveries.{admitted}
use Rattle.shard_versions.specs.Fitness.{is_routed}
use Rattle.shard_versions.specs.Histories.{History}
use Rattle.shard_versions.specs.declared.cut.CutPart.{CutPart}
use Rattle.shard_versions.specs.declared.entry.Entry.{Entry}
use Rattle.shard_versions.specs.declared.entry.Kind.{Kind}
use Rattle.shard_versions.specs.declared.entry.Kind.TheVariants.{Mark}
use Rattle.shard_versions.proofs.DeliveryLemmas.{admitted-each}
use Rattle.topic_book.specs.Alike.{is_alike}
use Rattle.topic_book.specs.Books.{binding_of, raises, topics_in}
use Rattle.topic_book.specs.Cells.{cell_of}
use Rattle.topic_book.specs.Fitness.{shards_of}
use Rattle.topic_book.specs.declared.topic.Binding.{Binding}
use Rattle.topic_book.specs.declared.topic.TopicKey.{TopicKey}
use Rattle.exchange_rules.specs.Accesses.{Access, a_look, a_step, at_mark, at_own, at_owns, had_after, own_of}
use Rattle.exchange_rules.specs.Batches.{Sunk}
use Rattle.exchange_rules.specs.Bindings.{bind_course, bind_seen, book_cell, bound_checkpoint, checkpoint_in, store_course, topic_state_course}
use Rattle.exchange_rules.specs.Cells as cell
use Rattle.exchange_rules.specs.Cells.{Log, Payload, bind, book_in, history_in, signed, signed_by, store}
use Rattle.exchange_rules.specs.Courses.{Course, ends, looks, makes, and_then, and_ok, unless_refused}
use Rattle.exchange_rules.specs.Deliveries.{admitted_kinds, deliver_course, send_admitted, send_at, send_course, send_shards, send_step, sent_kind, sent_share}
use Rattle.exchange_rules.specs.Following.{Follows}
use Rattle.exchange_rules.specs.Rows.{Layout, cut_course, cut_shards, part_of}
use Rattle.exchange_rules.specs.Steps.{closed, entries_by, fitting, is_full, kinds_of}
use Rattle.exchange_rules.specs.Topics.{Asked, after_send, begin_course, binding_for, init_course, sends_course, source_course, tops_of}
use Rattle.exchange_rules.specs.declared.batch.BatchItem.{BatchItem}
use Rattle.exchange_rules.specs.declared.batch.Sent.{Sent}
use Rattle.exchange_rules.specs.declared.fault.SiteFault.{SiteFault}
use Rattle.exchange_rules.specs.declared.fault.SiteFault.TheVariants.{TopicBound, BookFull, ShardFull}
use Rattle.exchange_rules.specs.declared.log_entry.LogEntry.{LogEntry}
use Rattle.exchange_rules.proofs.ReachLemmas.{count_by-append}

module _ (p : LogEntry → Bool) where
  -- at most so many of the entries that its steps append pass the test
  abbrev pub IsAtMost : {A : Type 0} → Course A → ℕ → Type 0
  IsAtMost (ends a) n = Unit {0}
  IsAtMost (looks cell see) n = (log : Log) → IsAtMost (see log) n
  IsAtMost (makes cell step rest) n =
      (m : ℕ) × ((me : ℕ) → count_by p (signed me step) + m ≤ n) × IsAtMost rest m

  -- nor do more of those that whoever follows it appended
  pub at-most : {A : Type 0} (me : ℕ) (seen : List Log) (had : List ℕ) (c : Course A) (n : ℕ)
      (accesses : List Access) (q : Course A) (end : List ℕ) → IsAtMost c n
      → Follows me seen had c accesses q end
      → count_by p (at_owns seen (own_of accesses)) ≤ n
  at-most me seen had c n [] q end k f = omega arith
  at-most me seen had (ends a) n (access ∷ accesses) q end k f = absurd f.0
  at-most me seen had (looks c see) n (a_step o ∷ accesses) q end k f = absurd f.0
  at-most me seen had (makes c step rest) n (a_look m ∷ accesses) q end k f = absurd f.0
  at-most me seen had (looks c see) n (a_look m ∷ accesses) q end k f =
      at-most me seen (had_after had (a_look m)) (see (at_mark seen m)) n accesses q end
      (k (at_mark seen m)) f.1
  at-most me seen had (makes c step rest) n (a_step o ∷ accesses) q end k f =
      let here : count_by p (at_own seen o) ≡ count_by p (signed me step) =
      ap (count_by p) f.0.appended in
      let most = k.1 me in
      let later = at-most me seen (had_after had (a_step o)) rest k.0 accesses q end k.2 f.1 in
      let both = count_by-append p (at_own seen o) (at_owns seen (own_of accesses)) in
      omega (arith, both, here, most, later)

  -- nor do more where more may
  pub at-most-up : {A : Type 0} (c : Course A) (n m : ℕ) → n ≤ m → IsAtMost c n → IsAtMost c m
  at-most-up (ends a) n m le k = tt
  at-most-up (looks cell see) n m le k = λ log. at-most-up (see log) n m le (k log)
  at-most-up (makes cell step rest) n m le k =
      (k.0, (λ me. let most = k.1 me in omega (arith, le, most)), k.2)

  -- a course and then others
  pub at-most-then : {A B : Type 0} (c : Course A) (next : A → Course B) (n m : ℕ)
      → IsAtMost c n → ((a : A) → IsAtMost (next a) m) → IsAtMost (and_then c next) (n + m)
  at-most-then (ends a) next n m k f = at-most-up (next a) m (n + m) (omega arith) (f a)
  at-most-then (looks cell see) next n m k f = λ log. at-most-then (see log) next n m (k log) f
  at-most-then (makes cell step rest) next n m k f = (
    k.0 + m,
    (λ me. let most = k.1 me in omega (arith, most)),
    at-most-then rest next k.0 m k.2 f,
  )

  -- where the first appends none that pass
  pub at-most-behind : {A B : Type 0} (c : Course A) (next : A → Course B) (m : ℕ)
      → IsAtMost c 0 → ((a : A) → IsAtMost (next a) m) → IsAtMost (and_then c next) m
  at-most-behind c next m k f =
      at-most-up (and_then c next) (0 + m) m (omega arith) (at-most-then c next 0 m k f)

  -- unless the first is refused
  pub at-most-ok : {A B E : Type 0} (c : Course (Result A E)) (next : A → Course (Result B E))
      (n m : ℕ) → IsAtMost c n → ((a : A) → IsAtMost (next a) m)
      → IsAtMost (and_ok c next) (n + m)
  at-most-ok {A} {B} {E} c next n m k f = at-most-then c (unless_refused next) n m k go
    where
      go : (r : Result A E) → IsAtMost (unless_refused next r) m
      go (Ok a) = f a
      go (Err e) = tt

  -- one of two
  at-most-either : {A : Type 0} (b : Bool) (c d : Course A) (n : ℕ) → IsAtMost c n → IsAtMost d n
      → IsAtMost (if b then c else d) n
  at-most-either true c d n k f = k
  at-most-either false c d n k f = f

  -- one step
  at-most-step : {A : Type 0} (cell n : ℕ) (step : List Payload) (a : A)
      → ((me : ℕ) → count_by p (signed me step) ≤ n) → IsAtMost (makes cell step (ends a)) n
  at-most-step cell n step a k = (0, (λ me. let most = k me in omega (arith, most)), tt)

  -- a cut of shards
  at-most-shards : (names : List NameShards) (c : ByteList) (shard left : ℕ) (cut : List CutPart)
      → IsAtMost (cut_shards names c shard left cut) 0
  at-most-shards names c shard zero cut = tt
  at-most-shards names c shard (suc left) cut = λ log.
      at-most-shards names c (shard + 1) left (cut ++ part_of c shard (history_in log) ∷ [])

  -- a cut of a collection
  pub at-most-source : (names : List NameShards) (src : ByteList)
      → IsAtMost (source_course names src) 0
  at-most-source names src =
      at-most-then (cut_shards names src 0 (shards_of names src) [])
      (λ cut. cut_course names cut []) 0 0
      (at-most-shards names src 0 (shards_of names src) []) (λ cut. tt)

  -- where a topic begins
  at-most-init : (names : List NameShards) (src : ByteList) (init : Option ℕ)
      (state : Option (List ℕ)) → IsAtMost (init_course names src init state) 0
  at-most-init names src (Some n) state = tt
  at-most-init names src None (Some upto) = tt
  at-most-init names src None None =
      at-most-then (source_course names src) (λ cut. ends (tops_of cut)) 0 0
      (at-most-source names src) (λ cut. tt)

  module _ (names : List NameShards) (key : TopicKey) where
    -- a Bind
    at-most-bind : (b : Binding) (n : ℕ)
        → ((me : ℕ) → count_by p (signed me (bind key b ∷ [])) ≤ n)
        → IsAtMost (bind_course names key b) n
    at-most-bind b n k log = go (binding_of key (book_in log))
      where
        go : (o : Option Binding) → IsAtMost (bind_seen names key b (book_in log) o) n
        go None =
            at-most-either (nat_lt (topics_in (book_in log)) 1000)
            (makes (book_cell names) (bind key b ∷ [])
            (ends (Ok (bound_checkpoint key (book_in log) b))))
            (ends (Err (BookFull (topics_in (book_in log))))) n
            (at-most-step {A = Result (List ℕ) SiteFault} (book_cell names) n (bind key b ∷ [])
            (Ok (bound_checkpoint key (book_in log) b)) k) tt
        go (Some kept) =
            at-most-either (is_alike kept b) (ends (Ok (checkpoint_in key (book_in log))))
            (ends (Err (TopicBound kept))) n tt tt

    -- a Store
    pub at-most-store : (E : Type 0) (upto : List ℕ) (n : ℕ)
        → ((me : ℕ) → count_by p (signed me (store key upto ∷ [])) ≤ n)
        → IsAtMost (store_course {E = E} names key upto) n
    at-most-store E upto n k log =
        at-most-either (raises key (book_in log) upto)
        (makes (book_cell names) (store key upto ∷ []) (ends fine)) (ends fine) n
        (at-most-step (book_cell names) n (store key upto ∷ []) fine k) tt
      where
        fine : Result (Unit {0}) E
        fine = Ok tt

  -- a topic that begins
  pub at-most-begin : (names : List NameShards) (t : Asked) (n : ℕ)
      → ((b : Binding) (me : ℕ) → count_by p (signed me (bind t.key b ∷ [])) ≤ n)
      → IsAtMost (begin_course names t) n
  at-most-begin names t n k =
      at-most-behind (topic_state_course names t.key)
      (λ state. and_then (init_course names t.src t.init state) (λ init.
      bind_course names t.key (binding_for t init))) n
      (λ log. tt) (λ state.
      at-most-behind (init_course names t.src t.init state)
      (λ init. bind_course names t.key (binding_for t init)) n
      (at-most-init names t.src t.init state) (λ init.
      at-most-bind names t.key (binding_for t init) n (k (binding_for t init))))

  -- none of those that don't pass pass
  none-pass : (xs : List LogEntry) → AllByRecursion (λ x. p x ≡ false) xs → count_by p xs ≡ 0
  none-pass [] a = refl
  none-pass (x ∷ xs) a =
      let more = none-pass xs a.1 in
      let here : count_by p (x ∷ []) ≡ 0 = ap (λ b. 0 + cond b 1 0) a.0 in
      let both : count_by p (x ∷ xs) ≡ count_by p (x ∷ []) + count_by p xs =
      count_by-append p (x ∷ []) xs in
      omega (arith, both, here, more)

  -- a kind that doesn't pass, whoever wrote it
  abbrev pub Misses : Kind → Type 0
  Misses k = (me : ℕ) → p (signed_by me (cell.write k)) ≡ false

  -- so do none of these
  none-signed : (me : ℕ) (ks : List Kind) → AllByRecursion Misses ks
      → AllByRecursion (λ x. p x ≡ false) (signed me (map cell.write ks))
  none-signed me [] a = tt
  none-signed me (k ∷ ks) a = (a.0 me, none-signed me ks a.1)

  -- with a Mark behind them
  none-closed : (ks : List Kind) → Misses Mark → AllByRecursion Misses ks
      → AllByRecursion Misses (closed true ks)
  none-closed [] m a = tt
  none-closed (k ∷ ks) m a = (a.0, behind ks a.1)
    where
      behind : (ks : List Kind) → AllByRecursion Misses ks
          → AllByRecursion Misses (ks ++ Mark ∷ [])
      behind [] a = (m, tt)
      behind (k ∷ ks) a = (a.0, behind ks a.1)

  -- those that are admitted of some
  none-admitted : (h : History) (ks : List Kind) → AllByRecursion Misses ks
      → AllByRecursion Misses (admitted_kinds h ks)
  none-admitted h ks a =
      kinds (admitted h (entries_by 0 ks))
      (admitted-each (λ e. Misses e.kind) h (entries_by 0 ks) (entries ks a))
    where
      entries : (ks : List Kind) → AllByRecursion Misses ks
          → AllByRecursion (λ (e : Entry). Misses e.kind) (entries_by 0 ks)
      entries [] a = tt
      entries (k ∷ ks) a = (a.0, entries ks a.1)

      kinds : (es : List Entry) → AllByRecursion (λ (e : Entry). Misses e.kind) es
          → AllByRecursion Misses (kinds_of es)
      kinds [] a = tt
      kinds (e ∷ es) a = (a.0, kinds es a.1)

  module _ (mark : Misses Mark) where
    -- a step of such kinds
    at-most-fitting : (limit at : ℕ) (ks : List Kind) (refusal : SiteFault) (h : History)
        → AllByRecursion Misses ks → IsAtMost (fitting limit at ks refusal h) 0
    at-most-fitting limit at ks refusal h a =
        at-most-either (is_full limit h ks) (ends (Err refusal))
        (makes at (map cell.write ks) (ends fine)) 0 tt
        (at-most-step at 0 (map cell.write ks) fine (λ me.
        let none = none-pass (signed me (map cell.write ks)) (none-signed me ks a) in
        omega (arith, none)))
      where
        fine : Result (Unit {0}) SiteFault
        fine = Ok tt

    -- a delivery at a shard
    at-most-deliver : (limit cell : ℕ) (refusal : SiteFault) (ks : List Kind)
        → AllByRecursion Misses ks → IsAtMost (deliver_course limit cell refusal ks) 0
    at-most-deliver limit cell refusal ks a log =
        go (admitted_kinds (history_in log) ks) (none-admitted (history_in log) ks a)
      where
        go : (given : List Kind) → AllByRecursion Misses given
            → IsAtMost (send_admitted limit cell refusal (history_in log) given) 0
        go [] b = tt
        go (k ∷ given) b =
            at-most-ok (fitting limit cell (closed true (k ∷ given)) refusal (history_in log))
            (λ _. ends (Ok (length (k ∷ given)))) 0 0
            (at-most-fitting limit cell (closed true (k ∷ given)) refusal (history_in log)
            (none-closed (k ∷ given) mark b)) (λ _. tt)

    at-most-sent : (limit cell : ℕ) (refusal : SiteFault) (ks : List Kind)
        → AllByRecursion Misses ks → IsAtMost (send_step limit cell refusal ks) 0
    at-most-sent limit cell refusal [] a = tt
    at-most-sent limit cell refusal (k ∷ ks) a = at-most-deliver limit cell refusal (k ∷ ks) a

    -- at so many shards
    at-most-send-shards : (l : Layout) (dest : ByteList) (share : ℕ → List Kind)
        (admitted shard left : ℕ) → ((shard : ℕ) → AllByRecursion Misses (share shard))
        → IsAtMost (send_shards l dest share admitted shard left) 0
    at-most-send-shards l dest share admitted shard zero a = tt
    at-most-send-shards l dest share admitted shard (suc left) a =
        at-most-ok (send_at l dest share admitted shard)
        (λ more. send_shards l dest share (admitted + more) (shard + 1) left) 0 0
        (at-most-sent l.limit (cell_of l.names dest shard) (ShardFull dest shard admitted)
        (share shard) (a shard))
        (λ more. at-most-send-shards l dest share (admitted + more) (shard + 1) left a)

    module _ (l : Layout) (dest src : ByteList)
        (misses : (i : BatchItem) → Misses (sent_kind src i)) where
      -- what of a batch routes to a shard
      none-shared : (shards shard : ℕ) (batch : List BatchItem)
          → AllByRecursion Misses (sent_share src batch shards shard)
      none-shared shards shard [] = tt
      none-shared shards shard (i ∷ batch) =
          go (is_routed shards shard (sent_kind src i)) (none-shared shards shard batch)
        where
          go : (b : Bool) → AllByRecursion Misses (sent_share src batch shards shard)
              → AllByRecursion Misses (cond b
              (sent_kind src i ∷ sent_share src batch shards shard)
              (sent_share src batch shards shard))
          go true a = (misses i, a)
          go false a = a

      -- a delivery of a batch
      at-most-send : (batch : List BatchItem) → IsAtMost (send_course l dest src batch) 0
      at-most-send batch =
          let shards = shards_of l.names dest in
          at-most-ok (send_shards l dest (sent_share src batch shards) 0 0 shards)
          (λ n. ends (Ok (record { admitted = n; refused = length batch - n }))) 0 0
          (at-most-send-shards l dest (sent_share src batch shards) 0 0 shards
          (λ shard. none-shared shards shard batch)) (λ n. tt)

      -- a delivery of several
      pub at-most-sends : (s : Sunk) (batches : List (List BatchItem))
          → IsAtMost (sends_course l dest src s batches) 0
      at-most-sends s [] = tt
      at-most-sends s (b ∷ batches) =
          at-most-then (send_course l dest src b)
          (after_send (length b) s (λ s. sends_course l dest src s batches)) 0 0
          (at-most-send b) (go (λ s. at-most-sends s batches))
        where
          go : ((s : Sunk) → IsAtMost (sends_course l dest src s batches) 0)
              → (r : Result Sent SiteFault) → IsAtMost
              (after_send (length b) s (λ s. sends_course l dest src s batches) r) 0
          go later (Ok sent) = later _
          go later (Err fault) = tt
