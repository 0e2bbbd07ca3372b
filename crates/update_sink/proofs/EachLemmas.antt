-- What is true of each entry that whoever follows a course appends.
use Rattle.std.proofs.Common.{ℕ, zero, suc, ◌+◌, Bool, true, false, cond, List, [], ◌∷◌, ◌++◌, map, length, ◌-◌, sym, subst, Option, Some, None, Result, Ok, Err}
use Rattle.std.specs.Prelude.{nat_lt, if◌then◌else◌}
use Rattle.std.specs.List.{AllByRecursion}
use Rattle.tuple_values.specs.Document.{ByteList}
use Rattle.tuple_values.specs.declared.names.NameShards.{NameShards}
use Rattle.shard_versions.specs.Deliveries.{admitted}
use Rattle.shard_versions.specs.Fitness.{is_routed}
use Rattle.shard_versions.specs.Histories.{History}
use Rattle.shard_versions.specs.declared.cut.CutPart.{CutPart}
use Rattle.shard_versions.specs.declared.entry.Entry.{Entry}
use Rattle.shard_versions.specs.declared.entry.Kind.{Kind}
use Rattle.shard_versions.specs.declared.entry.Kind.TheVariants.{Mark}
use Rattle.shard_versions.proofs.DeliveryLemmas.{admitted-each}
use Rattle.shard_versions.proofs.ListLemmas.{each_append}
use Rattle.topic_book.specs.Alike.{is_alike}
use Rattle.topic_book.specs.Books.{binding_of, raises, topics_in}
use Rattle.topic_book.specs.Cells.{cell_of}
use Rattle.topic_book.specs.Fitness.{shards_of}
use Rattle.topic_book.specs.declared.topic.Binding.{Binding}
use Rattle.topic_book.specs.declared.topic.TopicKey.{TopicKey}
use Rattle.exchange_rules.specs.Accesses.{Access, a_look, a_step, at_mark, at_own, at_owns, had_after, own_of}
use Rattle.exchange_rules.specs.Batches.{Sunk}
use Rattle.exchange_rules.specs.Bindings.{bind_course, bind_seen, book_cell, bound_checkpoint, checkpoint_in, store_course, topic_state_course}
use Rattle.exchange_rules.specs.Cells as cell
use Rattle.exchange_rules.specs.Cells.{Log, bind, book_in, history_in, signed, signed_by, store}
use Rattle.exchange_rules.specs.Courses.{Course, ends, looks, makes, and_then, and_ok, unless_refused}
use Rattle.exchange_rules.specs.Deliveries.{admitted_kinds, deliver_course, send_admitted, send_at, send_course, send_shards, send_step, sent_kind, sent_share}
use Rattle.exchange_rules.specs.Following.{Follows}
use Rattle.exchange_rules.specs.Rows.{Layout, cut_course, cut_shards, part_of}
use Rattle.exchange_rules.specs.Steps.{closed, entries_by, fitting, is_full, kinds_of}
use Rattle.exchange_rules.specs.Topics.{Asked, after_send, begin_course, binding_for, init_course, sends_course, source_course, tops_of}
use Rattle.exchange_rules.specs.declared.batch.BatchItem.{BatchItem}
use Rattle.exchange_rules.specs.declared.batch.Sent.{Sent}
use Rattle.exchange_rules.specs.declared.fault.SiteFault.{SiteFault}
use Rattle.exchange_rules.specs.declared.fault.SiteFault.TheVariants.{TopicBound, BookFull, ShardFull}
use Rattle.exchange_rules.specs.declared.log_entry.LogEntry.{LogEntry}

-- each answer that ends the course is so
abbrev pub EndsIn : {A : Type 0} → (A → Type 0) → Course A → Type 0
EndsIn Q (ends a) = Q a
EndsIn Q (looks cell see) = (log : Log) → EndsIn Q (see log)
EndsIn Q (makes cell step rest) = EndsIn Q rest

-- that with which it was followed to its end too
pub ended-in : {A : Type 0} (Q : A → Type 0) (me : ℕ) (seen : List Log) (had : List ℕ) (c : Course A)
    (accesses : List Access) (a : A) (end : List ℕ) → EndsIn Q c
    → Follows me seen had c accesses (ends a) end → Q a
ended-in Q me seen had c [] a end k f = subst (EndsIn Q) (sym f.0) k
ended-in Q me seen had (ends b) (access ∷ accesses) a end k f = absurd f.0
ended-in Q me seen had (looks c see) (a_step o ∷ accesses) a end k f = absurd f.0
ended-in Q me seen had (makes c step rest) (a_look m ∷ accesses) a end k f = absurd f.0
ended-in Q me seen had (looks c see) (a_look m ∷ accesses) a end k f =
    ended-in Q me seen (had_after had (a_look m)) (see (at_mark seen m)) accesses a end
    (k (at_mark seen m)) f.1
ended-in Q me seen had (makes c step rest) (a_step o ∷ accesses) a end k f =
    ended-in Q me seen (had_after had (a_step o)) rest accesses a end k f.1

-- a course and then others, by how those end
pub ends-then : {A B : Type 0} (Q : B → Type 0) (c : Course A) (next : A → Course B)
    → ((a : A) → EndsIn Q (next a)) → EndsIn Q (and_then c next)
ends-then Q (ends a) next f = f a
ends-then Q (looks cell see) next f = λ log. ends-then Q (see log) next f
ends-then Q (makes cell step rest) next f = ends-then Q rest next f

module _ (P : LogEntry → Type 0) where
  -- each entry of its steps is so
  abbrev pub AreEach : {A : Type 0} → Course A → Type 0
  AreEach (ends a) = Unit {0}
  AreEach (looks cell see) = (log : Log) → AreEach (see log)
  AreEach (makes cell step rest) = ((me : ℕ) → AllByRecursion P (signed me step)) × AreEach rest

  -- whoever follows it to this answer appends only entries that are so
  abbrev pub Leads : {A : Type 0} → A → Course A → Type 0
  Leads a c =
      (me : ℕ) (seen : List Log) (had : List ℕ) (accesses : List Access) (end : List ℕ)
      → Follows me seen had c accesses (ends a) end
      → AllByRecursion P (at_owns seen (own_of accesses))

  -- a course that only ends
  pub leads-end : {A : Type 0} (a b : A) → Leads a (ends b)
  leads-end a b me seen had [] end f = tt
  leads-end a b me seen had (access ∷ accesses) end f = absurd f.0

  -- a course and then others
  pub leads-then : {A B : Type 0} (b : B) (c : Course A) (next : A → Course B) → AreEach c
      → ((a : A) → Leads b (next a)) → Leads b (and_then c next)
  leads-then b (ends a) next k n me seen had accesses end f = n a me seen had accesses end f
  leads-then b (looks c see) next k n me seen had [] end f = tt
  leads-then b (looks c see) next k n me seen had (a_step o ∷ accesses) end f = absurd f.0
  leads-then b (looks c see) next k n me seen had (a_look m ∷ accesses) end f =
      leads-then b (see (at_mark seen m)) next (k (at_mark seen m)) n me seen
      (had_after had (a_look m)) accesses end f.1
  leads-then b (makes c step rest) next k n me seen had [] end f = tt
  leads-then b (makes c step rest) next k n me seen had (a_look m ∷ accesses) end f = absurd f.0
  leads-then b (makes c step rest) next k n me seen had (a_step o ∷ accesses) end f =
      each_append P (at_own seen o) (at_owns seen (own_of accesses))
      (subst (AllByRecursion P) (sym f.0.appended) (k.0 me))
      (leads-then b rest next k.1 n me seen (had_after had (a_step o)) accesses end f.1)

  -- a course, each of whose entries is so
  pub each-leads : {A : Type 0} (a : A) (c : Course A) → AreEach c → Leads a c
  each-leads a (ends b) k me seen had accesses end f = leads-end a b me seen had accesses end f
  each-leads a (looks c see) k me seen had [] end f = tt
  each-leads a (looks c see) k me seen had (a_step o ∷ accesses) end f = absurd f.0
  each-leads a (looks c see) k me seen had (a_look m ∷ accesses) end f =
      each-leads a (see (at_mark seen m)) (k (at_mark seen m)) me seen
      (had_after had (a_look m)) accesses end f.1
  each-leads a (makes c step rest) k me seen had [] end f = tt
  each-leads a (makes c step rest) k me seen had (a_look m ∷ accesses) end f = absurd f.0
  each-leads a (makes c step rest) k me seen had (a_step o ∷ accesses) end f =
      each_append P (at_own seen o) (at_owns seen (own_of accesses))
      (subst (AllByRecursion P) (sym f.0.appended) (k.0 me))
      (each-leads a rest k.1 me seen (had_after had (a_step o)) accesses end f.1)

  -- a course and then others, each of whose entries is so
  pub each-then : {A B : Type 0} (c : Course A) (next : A → Course B) → AreEach c
      → ((a : A) → AreEach (next a)) → AreEach (and_then c next)
  each-then (ends a) next k n = n a
  each-then (looks cell see) next k n = λ log. each-then (see log) next (k log) n
  each-then (makes cell step rest) next k n = (k.0, each-then rest next k.1 n)

  -- unless the first is refused
  pub each-ok : {A B E : Type 0} (c : Course (Result A E)) (next : A → Course (Result B E))
      → AreEach c → ((a : A) → AreEach (next a)) → AreEach (and_ok c next)
  each-ok {A} {B} {E} c next k n = each-then c (unless_refused next) k go
    where
      go : (r : Result A E) → AreEach (unless_refused next r)
      go (Ok a) = n a
      go (Err e) = tt

  -- one of two
  each-either : {A : Type 0} (b : Bool) (c d : Course A) → AreEach c → AreEach d
      → AreEach (if b then c else d)
  each-either true c d k n = k
  each-either false c d k n = n

  -- a cut of shards
  each-shards : (names : List NameShards) (c : ByteList) (shard left : ℕ) (cut : List CutPart)
      → AreEach (cut_shards names c shard left cut)
  each-shards names c shard zero cut = tt
  each-shards names c shard (suc left) cut = λ log.
      each-shards names c (shard + 1) left (cut ++ part_of c shard (history_in log) ∷ [])

  -- a cut of a collection
  pub each-source : (names : List NameShards) (src : ByteList) → AreEach (source_course names src)
  each-source names src =
      each-then (cut_shards names src 0 (shards_of names src) []) (λ cut. cut_course names cut [])
      (each-shards names src 0 (shards_of names src) []) (λ cut. tt)

  -- where a topic begins
  each-init : (names : List NameShards) (src : ByteList) (init : Option ℕ)
      (state : Option (List ℕ)) → AreEach (init_course names src init state)
  each-init names src (Some n) state = tt
  each-init names src None (Some upto) = tt
  each-init names src None None =
      each-then (source_course names src) (λ cut. ends (tops_of cut)) (each-source names src)
      (λ cut. tt)

  module _ (names : List NameShards) (key : TopicKey)
      (binds : (b : Binding) (me : ℕ) → AllByRecursion P (signed me (bind key b ∷ []))) where
    -- a Bind
    each-bind : (b : Binding) → AreEach (bind_course names key b)
    each-bind b log = go (binding_of key (book_in log))
      where
        go : (o : Option Binding) → AreEach (bind_seen names key b (book_in log) o)
        go None =
            each-either (nat_lt (topics_in (book_in log)) 1000)
            (makes (book_cell names) (bind key b ∷ [])
            (ends (Ok (bound_checkpoint key (book_in log) b))))
            (ends (Err (BookFull (topics_in (book_in log))))) (binds b, tt) tt
        go (Some kept) =
            each-either (is_alike kept b) (ends (Ok (checkpoint_in key (book_in log))))
            (ends (Err (TopicBound kept))) tt tt

  -- a topic that begins
  pub each-begin : (names : List NameShards) (t : Asked)
      → ((b : Binding) (me : ℕ) → AllByRecursion P (signed me (bind t.key b ∷ [])))
      → AreEach (begin_course names t)
  each-begin names t binds =
      each-then (topic_state_course names t.key)
      (λ state. and_then (init_course names t.src t.init state) (λ init.
      bind_course names t.key (binding_for t init)))
      (λ log. tt) (λ state.
      each-then (init_course names t.src t.init state)
      (λ init. bind_course names t.key (binding_for t init))
      (each-init names t.src t.init state) (λ init.
      each-bind names t.key binds (binding_for t init)))

  -- a Store
  pub each-store : (E : Type 0) (names : List NameShards) (key : TopicKey) (upto : List ℕ)
      → ((me : ℕ) → AllByRecursion P (signed me (store key upto ∷ [])))
      → AreEach (store_course {E = E} names key upto)
  each-store E names key upto stores log =
      each-either (raises key (book_in log) upto)
      (makes (book_cell names) (store key upto ∷ []) (ends fine)) (ends fine) (stores, tt) tt
    where
      fine : Result (Unit {0}) E
      fine = Ok tt

  -- a kind of entry that is so, whoever wrote it
  abbrev pub Fits : Kind → Type 0
  Fits k = (me : ℕ) → P (signed_by me (cell.write k))

  each-signed : (me : ℕ) (ks : List Kind) → AllByRecursion Fits ks
      → AllByRecursion P (signed me (map cell.write ks))
  each-signed me [] a = tt
  each-signed me (k ∷ ks) a = (a.0 me, each-signed me ks a.1)

  -- with a Mark behind them
  each-closed : (ks : List Kind) → Fits Mark → AllByRecursion Fits ks
      → AllByRecursion Fits (closed true ks)
  each-closed [] m a = tt
  each-closed (k ∷ ks) m a = (a.0, each_append Fits ks (Mark ∷ []) a.1 (m, tt))

  -- those that are admitted of some
  each-admitted : (h : History) (ks : List Kind) → AllByRecursion Fits ks
      → AllByRecursion Fits (admitted_kinds h ks)
  each-admitted h ks a =
      kinds (admitted h (entries_by 0 ks))
      (admitted-each (λ e. Fits e.kind) h (entries_by 0 ks) (entries ks a))
    where
      entries : (ks : List Kind) → AllByRecursion Fits ks
          → AllByRecursion (λ (e : Entry). Fits e.kind) (entries_by 0 ks)
      entries [] a = tt
      entries (k ∷ ks) a = (a.0, entries ks a.1)

      kinds : (es : List Entry) → AllByRecursion (λ (e : Entry). Fits e.kind) es
          → AllByRecursion Fits (kinds_of es)
      kinds [] a = tt
      kinds (e ∷ es) a = (a.0, kinds es a.1)

  module _ (mark : Fits Mark) where
    -- a step of such kinds
    each-fitting : (limit at : ℕ) (ks : List Kind) (refusal : SiteFault) (h : History)
        → AllByRecursion Fits ks → AreEach (fitting limit at ks refusal h)
    each-fitting limit at ks refusal h a =
        each-either (is_full limit h ks) (ends (Err refusal))
        (makes at (map cell.write ks) (ends fine)) tt ((λ me. each-signed me ks a), tt)
      where
        fine : Result (Unit {0}) SiteFault
        fine = Ok tt

    -- a delivery at a shard
    each-deliver : (limit cell : ℕ) (refusal : SiteFault) (ks : List Kind)
        → AllByRecursion Fits ks → AreEach (deliver_course limit cell refusal ks)
    each-deliver limit cell refusal ks a log =
        go (admitted_kinds (history_in log) ks) (each-admitted (history_in log) ks a)
      where
        go : (given : List Kind) → AllByRecursion Fits given
            → AreEach (send_admitted limit cell refusal (history_in log) given)
        go [] b = tt
        go (k ∷ given) b =
            each-ok (fitting limit cell (closed true (k ∷ given)) refusal (history_in log))
            (λ _. ends (Ok (length (k ∷ given))))
            (each-fitting limit cell (closed true (k ∷ given)) refusal (history_in log)
            (each-closed (k ∷ given) mark b)) (λ _. tt)

    each-sent : (limit cell : ℕ) (refusal : SiteFault) (ks : List Kind)
        → AllByRecursion Fits ks → AreEach (send_step limit cell refusal ks)
    each-sent limit cell refusal [] a = tt
    each-sent limit cell refusal (k ∷ ks) a = each-deliver limit cell refusal (k ∷ ks) a

    -- at so many shards
    each-send-shards : (l : Layout) (dest : ByteList) (share : ℕ → List Kind)
        (admitted shard left : ℕ) → ((shard : ℕ) → AllByRecursion Fits (share shard))
        → AreEach (send_shards l dest share admitted shard left)
    each-send-shards l dest share admitted shard zero a = tt
    each-send-shards l dest share admitted shard (suc left) a =
        each-ok (send_at l dest share admitted shard)
        (λ more. send_shards l dest share (admitted + more) (shard + 1) left)
        (each-sent l.limit (cell_of l.names dest shard) (ShardFull dest shard admitted)
        (share shard) (a shard))
        (λ more. each-send-shards l dest share (admitted + more) (shard + 1) left a)

    module _ (l : Layout) (dest src : ByteList) where
      -- what of a batch routes to a shard
      each-shared : (shards shard : ℕ) (batch : List BatchItem)
          → AllByRecursion (λ i. Fits (sent_kind src i)) batch
          → AllByRecursion Fits (sent_share src batch shards shard)
      each-shared shards shard [] a = tt
      each-shared shards shard (i ∷ batch) a =
          go (is_routed shards shard (sent_kind src i)) (each-shared shards shard batch a.1)
        where
          go : (b : Bool) → AllByRecursion Fits (sent_share src batch shards shard)
              → AllByRecursion Fits (cond b
              (sent_kind src i ∷ sent_share src batch shards shard)
              (sent_share src batch shards shard))
          go true rest = (a.0, rest)
          go false rest = rest

      -- a delivery of a batch
      each-send : (batch : List BatchItem) → AllByRecursion (λ i. Fits (sent_kind src i)) batch
          → AreEach (send_course l dest src batch)
      each-send batch a =
          let shards = shards_of l.names dest in
          each-ok (send_shards l dest (sent_share src batch shards) 0 0 shards)
          (λ n. ends (Ok (record { admitted = n; refused = length batch - n })))
          (each-send-shards l dest (sent_share src batch shards) 0 0 shards
          (λ shard. each-shared shards shard batch a)) (λ n. tt)

      -- a delivery of several
      pub each-sends : (s : Sunk) (batches : List (List BatchItem))
          → AllByRecursion (AllByRecursion (λ i. Fits (sent_kind src i))) batches
          → AreEach (sends_course l dest src s batches)
      each-sends s [] a = tt
      each-sends s (b ∷ batches) a =
          each-then (send_course l dest src b)
          (after_send (length b) s (λ s. sends_course l dest src s batches)) (each-send b a.0)
          (go (λ s. each-sends s batches a.1))
        where
          go : ((s : Sunk) → AreEach (sends_course l dest src s batches))
              → (r : Result Sent SiteFault)
              → AreEach (after_send (length b) s (λ s. sends_course l dest src s batches) r)
          go later (Ok sent) = later _
          go later (Err fault) = tt
