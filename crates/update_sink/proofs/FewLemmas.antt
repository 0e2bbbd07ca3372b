-- No more writes stand of a batch than it has items.
use Rattle.std.proofs.Common.{◌≡◌, ℕ, zero, suc, ◌+◌, ◌-◌, ◌<◌, ◌≤◌, Bool, true, false, List, [], ◌∷◌, length, map, ap, ◌∙◌, arith, Result, Ok, Err}
use Rattle.std.specs.Prelude.{count_by, if◌then◌else◌}
use Rattle.std.proofs.lemmas.List.{length-map}
use Rattle.tuple_values.specs.Document.{ByteList}
use Rattle.shard_versions.specs.Histories.{History}
use Rattle.shard_versions.specs.declared.entry.Kind.{Kind}
use Rattle.topic_book.specs.Cells.{cell_of}
use Rattle.topic_book.specs.Fitness.{shards_of}
use Rattle.exchange_rules.specs.Accesses.{at_owns, own_of}
use Rattle.exchange_rules.specs.Batches.{stand_in}
use Rattle.exchange_rules.specs.Calls.{Answered, is_write, IsStopped}
use Rattle.exchange_rules.specs.Cells.{history_in, write}
use Rattle.exchange_rules.specs.Courses.{Course, ends, makes, and_then, unless_refused}
use Rattle.exchange_rules.specs.Deliveries.{admitted_kinds, send_admitted, send_at, send_course, send_shards, send_step, sent_share}
use Rattle.exchange_rules.specs.Following.{Answers, Reaches, Writer, counts}
use Rattle.exchange_rules.specs.Rows.{Layout, length_below}
use Rattle.exchange_rules.specs.Steps.{closed, is_full, writes_in}
use Rattle.exchange_rules.specs.declared.batch.BatchItem.{BatchItem}
use Rattle.exchange_rules.specs.declared.batch.Sent.{Sent}
use Rattle.exchange_rules.specs.declared.fault.SiteFault.{SiteFault}
use Rattle.exchange_rules.specs.declared.fault.SiteFault.TheVariants.{ShardFull, TopicBound, BookFull, LogFault, CellClosed, OutOfMemory}
use Rattle.exchange_rules.proofs.DeliveryLemmas.{admitted_kinds-few, admitted_kinds-writes}
use Rattle.source_streams.specs.declared.batch.TopicItem.{TopicItem}
use Rattle.stream_site.proofs.SendLemmas.{sent_all}
use Rattle.update_sink.specs.Topics.{sent_item}
use Rattle.update_sink.proofs.MostLemmas.{IsAtMost, at-most, at-most-ok, at-most-up}
use Rattle.update_sink.proofs.StandLemmas.{admitted-step, counted-after, counted-send, stand_sent}

-- what a shard admits
most-admitted : (limit cell : ℕ) (refusal : SiteFault) (h : History) (ks : List Kind) (n : ℕ)
    → writes_in ks ≡ length ks → length ks ≤ n
    → IsAtMost is_write (send_admitted limit cell refusal h ks) n
most-admitted limit cell refusal h [] n e le = tt
most-admitted limit cell refusal h (k ∷ ks) n e le = go (is_full limit h (closed true (k ∷ ks)))
  where
    next : Result (Unit {0}) SiteFault → Course (Result ℕ SiteFault)
    next = unless_refused (λ done. ends (Ok (length (k ∷ ks))))

    fine : Course (Result (Unit {0}) SiteFault)
    fine = ends (Ok tt)

    go : (b : Bool) → IsAtMost is_write (and_then
        (if b then ends (Err refusal) else makes cell (map write (closed true (k ∷ ks))) fine)
        next) n
    go true = tt
    go false = (0, (λ me. let c = admitted-step me k ks e in omega (arith, c, le)), tt)

-- a delivery at a shard
most-step : (limit cell : ℕ) (refusal : SiteFault) (ks : List Kind)
    → IsAtMost is_write (send_step limit cell refusal ks) (length ks)
most-step limit cell refusal [] = tt
most-step limit cell refusal (k ∷ ks) = λ log.
    let h = history_in log in
    let all = k ∷ ks in
    most-admitted limit cell refusal h (admitted_kinds h all) (length all)
    (admitted_kinds-writes h all) (admitted_kinds-few h all)

-- how many entries the shares of so many shards have, from this one on
abbrev length_from : (ℕ → List Kind) → (shard left : ℕ) → ℕ
length_from share shard zero = 0
length_from share shard (suc left) = length (share shard) + length_from share (shard + 1) left

-- those before it have the others
length_from-below : (share : ℕ → List Kind) (shard left : ℕ)
    → length_below share shard + length_from share shard left
    ≡ length_below share (shard + left)
length_from-below share shard zero =
    let e : shard ≡ shard + 0 = omega arith in
    let f = ap (length_below share) e in
    omega (arith, f)
length_from-below share shard (suc left) =
    let next : shard + 1 ≡ suc shard = omega arith in
    let here = ap (length_below share) next in
    let all : (shard + 1) + left ≡ shard + suc left = omega arith in
    let whole = ap (length_below share) all in
    let later = length_from-below share (shard + 1) left in
    omega (arith, here, whole, later)

-- at so many shards
most-shards : (l : Layout) (dest : ByteList) (share : ℕ → List Kind) (admitted shard left : ℕ)
    → IsAtMost is_write (send_shards l dest share admitted shard left)
    (length_from share shard left)
most-shards l dest share admitted shard zero = tt
most-shards l dest share admitted shard (suc left) =
    at-most-ok is_write (send_at l dest share admitted shard)
    (λ more. send_shards l dest share (admitted + more) (shard + 1) left) (length (share shard))
    (length_from share (shard + 1) left)
    (most-step l.limit (cell_of l.names dest shard) (ShardFull dest shard admitted) (share shard))
    (λ more. most-shards l dest share (admitted + more) (shard + 1) left)

module _ (l : Layout) (dest src : ByteList) (batch : List BatchItem)
    (some : 0 < shards_of l.names dest) where
  -- a delivery of a batch
  most-send : IsAtMost is_write (send_course l dest src batch) (length batch)
  most-send =
      let n = shards_of l.names dest in
      let share = sent_share src batch n in
      let next : ℕ → Course (Result Sent SiteFault) =
      λ k. ends (Ok (record { admitted = k; refused = length batch - k })) in
      let below = length_from-below share 0 n in
      let same : 0 + n ≡ n = omega arith in
      let whole = ap (length_below share) same in
      let all = sent_all src n batch some in
      at-most-up is_write (send_course l dest src batch) (length_from share 0 n + 0) (length batch)
      (omega (arith, below, whole, all))
      (at-most-ok is_write (send_shards l dest share 0 0 n) next (length_from share 0 n) 0
      (most-shards l dest share 0 0 n) (λ k. tt))

  -- as far as it was followed
  few : (old new : Writer) (rest : Course (Result Sent SiteFault))
      (r : Reaches old new (send_course l dest src batch) rest)
      → count_by is_write (at_owns new.seen (own_of r.accesses)) ≤ length batch
  few old new rest r =
      at-most is_write old.me new.seen (counts old.seen) (send_course l dest src batch)
      (length batch) r.accesses rest (counts new.seen) most-send r.followed

  -- by what was told of it
  told-few : (old new : Writer) (r : Result Sent SiteFault)
      → Answers old new (send_course l dest src batch) r → stand_sent r ≤ length batch
  told-few old new r a =
      let counted : stand_sent r ≡ 0 + count_by is_write (at_owns new.seen (own_of a.accesses)) =
      counted-after stand_sent old.me new.seen (counts old.seen) 0 (send_course l dest src batch)
      a.accesses (ends r) (counts new.seen) (counted-send l dest src batch) a.followed in
      let most = few old new (ends r) a in
      omega (arith, counted, most)

  -- no more were admitted
  pub sent-few : (old new : Writer) (sent : Sent)
      → Answers old new (send_course l dest src batch) (Ok sent) → sent.admitted ≤ length batch
  sent-few old new sent a = told-few old new (Ok sent) a

  -- nor do more stand where it stopped
  stopped-few : (old new : Writer) (stand : ℕ)
      → IsStopped 0 old new (send_course l dest src batch) stand → stand ≤ length batch
  stopped-few old new stand a =
      let most = few old new a.rest a.stood.reached in
      let writes = a.stood.counted in
      let told = a.counted in
      omega (arith, most, writes, told)

  -- or was refused
  pub refused-few : (old new : Writer) (fault : SiteFault)
      → Answered old new (send_course l dest src batch) (Err fault)
      → stand_in fault ≤ length batch
  refused-few old new (ShardFull c s n) a = told-few old new (Err (ShardFull c s n)) a
  refused-few old new (TopicBound kept) a = told-few old new (Err (TopicBound kept)) a
  refused-few old new (BookFull topics) a = told-few old new (Err (BookFull topics)) a
  refused-few old new (LogFault cell stand) a = stopped-few old new stand a.0
  refused-few old new (CellClosed cell stand) a = stopped-few old new stand a.0
  refused-few old new (OutOfMemory stand) a = stopped-few old new stand a

-- a batch has as many items as it is made of
pub made-length : (src : ByteList) (items : List TopicItem) (batch : List BatchItem)
    → batch ≡ map (sent_item src) items → length batch ≡ length items
made-length src items batch is =
    let size : length (map (sent_item src) items) ≡ length items = simp length-map in
    ap length is ∙ size
