-- Deliveries at one shard after another, as a call makes them.
use Rattle.std.proofs.Common.{◌≡◌, ℕ, zero, suc, ◌+◌, ◌-◌, ◌^◌, ◌<◌, ◌≤◌, Bool, true, false, List, [], ◌∷◌, length, get_or, map, refl, sym, ap, ◌∙◌, subst, arith, if◌then◌else◌}
use Rattle.std.specs.Prelude.{Result, Ok, Err}
use Rattle.std.proofs.lemmas.List.{length-map}
use Rattle.tuple_values.specs.Document.{ByteList}
use Rattle.tuple_values.specs.declared.names.NameShards.{NameShards}
use Rattle.tuple_values.specs.declared.write.Write.{Write}
use Rattle.tuple_values.specs.declared.write.Write.TheVariants as write
use Rattle.shard_versions.specs.Fitness.{is_routed}
use Rattle.shard_versions.specs.declared.entry.Entry.{Entry}
use Rattle.shard_versions.specs.declared.entry.Kind.{Kind}
use Rattle.topic_book.specs.Cells.{cell_of}
use Rattle.topic_book.specs.Fitness.{shards_of}
use Rattle.exchange_rules.specs.Calls.{HasAppended, Refused, PassedSent, Answered}
use Rattle.exchange_rules.specs.Cells.{Log, history_in}
use Rattle.exchange_rules.specs.Courses.{Course, ends, looks, and_ok}
use Rattle.exchange_rules.specs.Deliveries.{admitted_kinds, send_admitted, send_at, send_course, send_shards, send_step, sent_kind, sent_kinds, sent_share}
use Rattle.exchange_rules.specs.Following.{Grows, Writer}
use Rattle.exchange_rules.specs.Primitives.{LooksAt}
use Rattle.exchange_rules.specs.Rows.{Layout, length_below}
use Rattle.exchange_rules.specs.Steps.{kind_of, kinds_of, routed}
use Rattle.exchange_rules.specs.declared.batch.BatchItem.{BatchItem}
use Rattle.exchange_rules.specs.declared.batch.Sent as sent
use Rattle.exchange_rules.specs.declared.fault.SiteFault.{SiteFault}
use Rattle.exchange_rules.specs.declared.fault.SiteFault.TheVariants.{ShardFull}
use Rattle.exchange_rules.proofs.DeliveryLemmas.{sends_refused, sends_appended}
use Rattle.exchange_rules.proofs.CellLemmas.{cell_of-within}
use Rattle.exchange_rules.proofs.GrowthLemmas.{grows_at, grows_join, grows_length, grows_set}
use Rattle.exchange_rules.proofs.PrimitiveLemmas.{looks_from}
use Rattle.exchange_rules.proofs.RoutingLemmas.{length_below-le, length_below-routed}
use Rattle.exchange_rules.proofs.AppendedLemmas.{refused_on, refused_then, appended_none, appended_ok, appended_on}
use Rattle.exchange_rules.proofs.StepLemmas.{kinds_of-entries_by}
use Rattle.site_laws.specs.Duties.{MaySend, MayDeliver}
use Rattle.site_laws.proofs.DutyLemmas.{may-deliver}
use Rattle.stream_site.specs.Shares.{AreDeliveries, AreRouted, share_in}
use Rattle.stream_site.specs.Spots.{IsSpot, full_there}
use Rattle.stream_site.specs.declared.spot.Spot.{Spot}
use Rattle.stream_site.proofs.IndexLemmas.{below_next}
use Rattle.stream_site.proofs.SpotLemmas.{at_spot}

-- what was done where a call stands is what the course has at its shard
deliver_here : (old new : Writer) (l m : Layout) (c : ByteList) (share : ℕ → List Kind)
    (s stand : ℕ) (at : Spot) (ks : List Kind) (r : Result ℕ SiteFault) → m ≡ l
    → IsSpot m.names c s stand at → ks ≡ share s
    → PassedSent at.stand old new (send_step m.limit at.cell (full_there at) ks) r
    → PassedSent stand old new (send_at l c share stand s) r
deliver_here old new l m c share s stand at ks r e i k p =
    subst (λ x. PassedSent stand old new
    (send_step l.limit (cell_of l.names c s) (ShardFull c s stand) x) r) k
    (at_spot (λ b limit cell full. PassedSent b old new (send_step limit cell full ks) r)
    l m c s stand at e i p)

-- one more shard has what it admits
pub shard_sent : (old mid new : Writer) (p : Course (Result ℕ SiteFault)) (l m : Layout)
    (c : ByteList) (share : ℕ → List Kind) (s sent n more : ℕ) (at : Spot) (ks : List Kind)
    → s < n → m ≡ l → IsSpot m.names c s sent at → ks ≡ share s
    → HasAppended old mid p (send_shards l c share sent s (n - s)) sent
    → HasAppended mid new (send_step m.limit at.cell (full_there at) ks) (ends (Ok more)) more
    → HasAppended old new p (send_shards l c share (sent + more) (s + 1) (n - (s + 1)))
    (sent + more)
shard_sent old mid new p l m c share s sent n more at ks lt e i k a b =
    sends_appended old mid new p l c share n s sent more lt a
    (deliver_here mid new l m c share s sent at ks (Ok more) e i k b)

-- or is refused
pub shard_refused : (old mid new : Writer) (p : Course (Result ℕ SiteFault)) (l m : Layout)
    (c : ByteList) (share : ℕ → List Kind) (s sent n : ℕ) (at : Spot) (ks : List Kind)
    (fault : SiteFault) → s < n → m ≡ l → IsSpot m.names c s sent at → ks ≡ share s
    → HasAppended old mid p (send_shards l c share sent s (n - s)) sent
    → Refused at.stand mid new (send_step m.limit at.cell (full_there at) ks) fault
    → Refused 0 old new p fault
shard_refused old mid new p l m c share s sent n at ks fault lt e i k a b =
    sends_refused old mid new p l c share n s sent fault lt a
    (deliver_here mid new l m c share s sent at ks (Err fault) e i k b)

-- the step that is taken may be delivered whatever more is seen
pub allowed_here : (l m : Layout) (old mid : Writer) (c : ByteList) (s stand : ℕ) (at : Spot)
    (steps : List (List Entry)) (step : List Entry)
    → AreDeliveries l.names old.me old.seen c steps → m ≡ l → mid.me ≡ old.me
    → Grows old.seen mid.seen → s < shards_of l.names c → IsSpot m.names c s stand at
    → at.cell < length mid.seen → step ≡ get_or steps s [] → 0 < length step → (later : List Log)
    → Grows mid.seen later → MayDeliver m.names mid.me later at.cell step
allowed_here l m old mid c s stand at steps step a e same g lt i within is filled later h =
    let f = i.cell_is in
    let cell : at.cell ≡ cell_of l.names c s = f ∙ ap (λ (x : Layout). cell_of x.names c s) e in
    let long = grows_length mid.seen later h in
    let there' : cell_of l.names c s < length later = omega (arith, long, cell, within) in
    let some : 0 < length (get_or steps s []) = subst (λ (x : List Entry). 0 < length x) is filled in
    let may = a.allowed s lt some later (grows_join old.seen mid.seen later g h) there' in
    let mine = subst (λ n. MayDeliver l.names n later (cell_of l.names c s) (get_or steps s []))
    (sym same) may in
    let here = subst (λ (x : Layout). MayDeliver x.names mid.me later (cell_of x.names c s)
    (get_or steps s [])) (sym e) mine in
    let there = subst (λ x. MayDeliver m.names mid.me later x (get_or steps s [])) (sym f) here in
    subst (MayDeliver m.names mid.me later at.cell) (sym is) there

-- what stands and one more share can be counted
pub sent_fits : (steps : List (List Entry)) (step : List Entry) (n s sent more : ℕ) → s < n
    → step ≡ get_or steps s [] → sent ≤ length_below (share_in steps) s → more ≤ length step
    → length_below (share_in steps) n < 2 ^ 64
    → (sent + more ≤ length_below (share_in steps) (s + 1)) × (sent + more < 2 ^ 64)
sent_fits steps step n s sent more lt is b le few =
    let next = below_next (share_in steps) s in
    let size : length (share_in steps s) ≡ length (get_or steps s []) = simp length-map in
    let same = ap length is in
    let all : (s + 1) + (n - (s + 1)) ≡ n = omega arith in
    let whole = ap (length_below (share_in steps)) all in
    let up = length_below-le (share_in steps) (s + 1) (n - (s + 1)) in (
      omega (arith, next, size, same, b, le),
      omega (arith, next, size, same, b, le, whole, up, few),
    )

-- a share of a batch has as many items as that of its documents, put
choice_long : (b : Bool) (j k : Kind) (xs ys : List Kind) → length xs ≡ length ys
    → length (if b then j ∷ xs else xs) ≡ length (if b then k ∷ ys else ys)
choice_long true j k xs ys e = omega (arith, e)
choice_long false j k xs ys e = e

-- the documents of a batch, put
abbrev puts_of : List BatchItem → List Write
puts_of batch = map (λ i. write.Put i.document) batch

-- by one item after another
share_long : (src : ByteList) (n s : ℕ) (batch : List BatchItem)
    → length (sent_share src batch n s) ≡ length (routed n s (puts_of batch))
share_long src n s [] = refl
share_long src n s (i ∷ batch) =
    choice_long (is_routed n s (sent_kind src i)) (sent_kind src i) (kind_of (write.Put i.document))
    (sent_share src batch n s) (routed n s (puts_of batch)) (share_long src n s batch)

-- shares that are as long have as many entries below a shard
below_long : (a b : ℕ → List Kind) (s : ℕ) → ((x : ℕ) → x < s → length (a x) ≡ length (b x))
    → length_below a s ≡ length_below b s
below_long a b zero e = refl
below_long a b (suc s) e =
    let f = below_long a b s (λ x lt. e x (omega arith)) in
    let g = e s (omega arith) in
    omega (arith, f, g)

-- each item of a batch is in one of the shares
pub sent_all : (src : ByteList) (n : ℕ) (batch : List BatchItem) → 0 < n
    → length_below (sent_share src batch n) n ≡ length batch
sent_all src n batch some =
    let all = below_long (sent_share src batch n) (λ s. routed n s (puts_of batch)) n
    (λ s lt. share_long src n s batch) in
    let puts = length_below-routed n (puts_of batch) some in
    let size : length (puts_of batch) ≡ length batch = simp length-map in
    omega (arith, all, puts, size)

-- what is to be delivered at a shard are the items that route there
pub sent_same : (me n : ℕ) (src : ByteList) (batch : List BatchItem) (steps : List (List Entry))
    → AreRouted me n (sent_kinds src batch) steps → (s : ℕ) → s < n
    → share_in steps s ≡ sent_share src batch n s
sent_same me n src batch steps a s lt =
    ap kinds_of (a.shares s lt) ∙ kinds_of-entries_by me (sent_share src batch n s)

-- so many entries are to be delivered in all
pub sent_below : (me n : ℕ) (src : ByteList) (batch : List BatchItem) (steps : List (List Entry))
    → AreRouted me n (sent_kinds src batch) steps → 0 < n
    → length_below (share_in steps) n ≡ length batch
sent_below me n src batch steps a some =
    below_long (share_in steps) (sent_share src batch n) n
    (λ s lt. ap length (sent_same me n src batch steps a s lt)) ∙ sent_all src n batch some

-- the steps of a batch may be delivered
pub batch_steps : (names : List NameShards) (me n : ℕ) (seen : List Log) (dest src : ByteList)
    (batch : List BatchItem) (steps : List (List Entry)) → MaySend names seen dest src batch
    → n ≡ shards_of names dest → AreRouted me n (sent_kinds src batch) steps
    → length batch < 2 ^ 64 → AreDeliveries names me seen dest steps
batch_steps names me n seen dest src batch steps m e a few =
    let k = shards_of names dest in
    let a' = subst (λ x. AreRouted me x (sent_kinds src batch) steps) e a in
    let all = sent_below me k src batch steps a' m.known in
    record {
      counted = a'.counted;
      allowed = λ s lt filled later g there.
          may-deliver names me seen later dest src s batch (get_or steps s []) (grows_at seen later g)
          m lt (cell_of-within names dest s lt) there (a'.shares s lt) filled;
      few = omega (arith, all, few);
    }

-- a delivery of the same shares
sends_same : (l : Layout) (dest : ByteList) (a b : ℕ → List Kind) (sent s left : ℕ)
    → ((x : ℕ) → x < s + left → a x ≡ b x)
    → send_shards l dest a sent s left ≡ send_shards l dest b sent s left
sends_same l dest a b sent s zero e = refl
sends_same l dest a b sent s (suc left) e =
    let here = e s (omega arith) in
    ap (λ x. and_ok (send_step l.limit (cell_of l.names dest s) (ShardFull dest s sent) x)
    (λ more. send_shards l dest a (sent + more) (s + 1) left)) here
    ∙ ap (λ (f : ℕ → Course (Result ℕ SiteFault)). and_ok (send_at l dest b sent s) f)
    (λ i more. sends_same l dest a b (sent + more) (s + 1) left (λ x lt. e x (omega arith)) i)

-- what was delivered is the course's, as the writer found the shards
pub sends_passed : (old new : Writer) (l : Layout) (dest src : ByteList) (me n : ℕ)
    (batch : List BatchItem) (steps : List (List Entry)) (r : Result ℕ SiteFault)
    → n ≡ shards_of l.names dest → AreRouted me n (sent_kinds src batch) steps
    → PassedSent 0 old new (send_shards l dest (share_in steps) 0 0 (shards_of l.names dest)) r
    → PassedSent 0 old new (send_shards l dest (sent_share src batch (shards_of l.names dest)) 0 0
    (shards_of l.names dest)) r
sends_passed old new l dest src me n batch steps r e a p =
    let k = shards_of l.names dest in
    let a' = subst (λ x. AreRouted me x (sent_kinds src batch) steps) e a in
    let same = sends_same l dest (share_in steps) (sent_share src batch k) 0 0 k
    (λ s lt. sent_same me k src batch steps a' s (omega arith)) in
    subst (λ x. PassedSent 0 old new x r) same p

-- a delivery is answered with how many were admitted
pub send_answered : (old new : Writer) (l : Layout) (dest src : ByteList) (batch : List BatchItem)
    (n refused : ℕ) → refused ≡ length batch - n
    → PassedSent 0 old new (send_shards l dest (sent_share src batch (shards_of l.names dest)) 0 0
    (shards_of l.names dest)) (Ok n)
    → Answered old new (send_course l dest src batch)
    (Ok (record { admitted = n; refused = refused }))
send_answered old new l dest src batch n refused e p =
    let k = shards_of l.names dest in
    let first = send_shards l dest (sent_share src batch k) 0 0 k in
    let next : ℕ → Course (Result sent.Sent SiteFault) =
    λ m. ends (Ok (record { admitted = m; refused = length batch - m })) in
    let done = appended_ok old new first n next n p in
    subst (λ x. Answered old new (send_course l dest src batch)
    (Ok (record { admitted = n; refused = x }))) (sym e) done.reached

-- or refused
pub send_refused : (old new : Writer) (l : Layout) (dest src : ByteList) (batch : List BatchItem)
    (fault : SiteFault)
    → PassedSent 0 old new (send_shards l dest (sent_share src batch (shards_of l.names dest)) 0 0
    (shards_of l.names dest)) (Err fault)
    → Refused 0 old new (send_course l dest src batch) fault
send_refused old new l dest src batch fault p =
    let k = shards_of l.names dest in
    refused_then 0 old new (send_shards l dest (sent_share src batch k) 0 0 k) _ fault p

-- the answer is how many were admitted
pub sent_as : (old new : Writer) (p : Course (Result ℕ SiteFault)) (n k : ℕ) → n ≡ k
    → HasAppended old new p (ends (Ok k)) k → HasAppended old new p (ends (Ok n)) n
sent_as old new p n k e s = subst (λ x. HasAppended old new p (ends (Ok x)) x) (sym e) s

-- nothing is delivered of an empty step
pub deliver_none : (w : Writer) (limit c : ℕ) (refusal : SiteFault) (step : List Entry)
    → length step ≡ 0 → HasAppended w w (send_step limit c refusal (kinds_of step)) (ends (Ok 0)) 0
deliver_none w limit c refusal [] e = appended_none w (ends (Ok 0))
deliver_none w limit c refusal (x ∷ step) e = absurd (omega arith)

-- what a step of deliveries asks, after a look
pub may_deliver_after : (l m : Layout) (old mid : Writer) (c : ℕ) (step : List Entry) → m ≡ l
    → LooksAt old mid c
    → ((seen : List Log) → Grows old.seen seen → MayDeliver l.names old.me seen c step)
    → MayDeliver m.names mid.me mid.seen c step
may_deliver_after l m old mid c step e look may =
    let grown : Grows old.seen mid.seen =
    subst (λ (w : Writer). Grows old.seen w.seen) (sym look.is) (grows_set old.seen c look.more) in
    let me : mid.me ≡ old.me = ap (λ (w : Writer). w.me) look.is in
    subst (λ (x : Layout). MayDeliver x.names mid.me mid.seen c step) (sym e)
    (subst (λ n. MayDeliver l.names n mid.seen c step) (sym me) (may mid.seen grown))

-- what follows the look
pub deliver_looked : (before : ℕ) (old mid new : Writer) (c limit : ℕ) (refusal : SiteFault)
    (step : List Entry) (r : Result ℕ SiteFault) → 0 < length step → c < length old.seen
    → LooksAt old mid c
    → PassedSent before mid new (send_admitted limit c refusal (history_in (get_or mid.seen c []))
    (admitted_kinds (history_in (get_or mid.seen c [])) (kinds_of step))) r
    → PassedSent before old new (send_step limit c refusal (kinds_of step)) r
deliver_looked before old mid new c limit refusal [] r lt within look p = absurd (omega arith)
deliver_looked before old mid new c limit refusal (x ∷ step) (Ok n) lt within look p =
    let ks = kinds_of (x ∷ step) in
    let see : Log → Course (Result ℕ SiteFault) = λ log.
    send_admitted limit c refusal (history_in log) (admitted_kinds (history_in log) ks) in
    appended_on old mid new (looks c see) (see (get_or mid.seen c [])) (ends (Ok n)) n
    (looks_from old mid c see within look) p
deliver_looked before old mid new c limit refusal (x ∷ step) (Err fault) lt within look p =
    let ks = kinds_of (x ∷ step) in
    let see : Log → Course (Result ℕ SiteFault) = λ log.
    send_admitted limit c refusal (history_in log) (admitted_kinds (history_in log) ks) in
    let e : before ≡ before + 0 = omega arith in
    refused_on before old mid new (looks c see) (see (get_or mid.seen c [])) 0 fault
    (looks_from old mid c see within look)
    (subst (λ k. Refused k mid new (see (get_or mid.seen c [])) fault) e p)
