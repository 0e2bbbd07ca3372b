-- What a pass delivers in its turn.
use Rattle.std.proofs.Common.{◌≡◌, ℕ, ◌<◌, true, false, List, [], ◌∷◌, ◌++◌, length, get_or, map, refl, sym, ap, ◌∙◌, subst, arith, inr}
use Rattle.tuple_values.specs.declared.names.NameShards.{NameShards}
use Rattle.shard_versions.specs.Deliveries.{admitted, mark_by, marked}
use Rattle.shard_versions.specs.Histories.{History}
use Rattle.shard_versions.specs.declared.entry.Entry.{Entry}
use Rattle.shard_versions.specs.declared.entry.Kind.{Kind}
use Rattle.shard_versions.proofs.DeliveryLemmas.{admitted-each}
use Rattle.topic_book.specs.Cells.{cells_in}
use Rattle.exchange_rules.specs.Cells.{Log, history_in, write}
use Rattle.exchange_rules.specs.Deliveries.{admitted_kinds}
use Rattle.exchange_rules.specs.Following.{Writer}
use Rattle.exchange_rules.specs.Primitives.{delivered, made}
use Rattle.exchange_rules.specs.Steps.{AreBy, closed, is_full, is_over, kinds_of, writes_in}
use Rattle.exchange_rules.proofs.DeliveryLemmas.{admitted_kinds-writes}
use Rattle.exchange_rules.proofs.RoutingLemmas.{writes_in-closed}
use Rattle.site_laws.specs.Duties.{MayDeliver}
use Rattle.site_laws.specs.Sealings.{MayAppend}
use Rattle.site_laws.specs.declared.sealing.Sealing.TheVariants as sealing
use Rattle.stream_site.specs.Refusals.{IsUnsealed}
use Rattle.stream_site.specs.declared.refusal.StepRefusal.{StepRefusal}
use Rattle.stream_site.proofs.AdmitLemmas.{IsKept, delivered_none, delivered_some, is_kept}
use Rattle.stream_site.proofs.CloseLemmas.{is_closed}

-- what a delivery appends behind this log
abbrev pub to_deliver : Log → List Entry → List Kind
to_deliver log step = admitted_kinds (history_in log) (kinds_of step)

-- what was kept of a step, by the shard that was read
pub kept-here : (log : Log) (shard : History) (step kept : List Entry) → shard ≡ history_in log
    → kept ≡ admitted shard step → IsKept (history_in log) (kinds_of step) kept
kept-here log shard step kept e is = is_kept (history_in log) shard step kept (sym e) is

-- nothing is admitted
pub record IsEmpty (limit : ℕ) (w : Writer) (cell : ℕ) (ks : List Kind) : Type 0 where
  pub same : w ≡ delivered w cell ks
  pub count : 0 ≡ length ks
  pub fits : is_over limit (history_in (get_or w.seen cell [])) ks ≡ false

-- where nothing was kept
pub empty-of : (limit : ℕ) (w : Writer) (cell : ℕ) (step kept : List Entry)
    → IsKept (history_in (get_or w.seen cell [])) (kinds_of step) kept → length kept ≡ 0
    → IsEmpty limit w cell (to_deliver (get_or w.seen cell []) step)
empty-of limit w cell step kept k none =
    let ks = to_deliver (get_or w.seen cell []) step in
    let zero : length ks ≡ 0 = k.long ∙ none in
    let all = delivered_none w cell limit (history_in (get_or w.seen cell [])) ks zero in
    record { same = all.0; count = sym zero; fits = all.1 }

-- a Mark behind what was kept
marked-some : (me : ℕ) (kept : List Entry) → 0 < length kept
    → marked me kept ≡ kept ++ mark_by me ∷ []
marked-some me [] lt = absurd (omega (arith, lt))
marked-some me (e ∷ kept) lt = refl

-- what was kept is appended with a Mark
pub record IsDone (names : List NameShards) (limit : ℕ) (w : Writer) (cell : ℕ)
    (step kept whole : List Entry) : Type 0 where
  pub allowed : MayAppend names w.me w.seen cell (sealing.Shard whole)
  pub made_is : made w cell (map write (kinds_of whole))
      ≡ delivered w cell (to_deliver (get_or w.seen cell []) step)
  pub count : length kept ≡ length (to_deliver (get_or w.seen cell []) step)
  pub writes : writes_in (kinds_of whole) ≡ length (to_deliver (get_or w.seen cell []) step)
  pub over : is_over limit (history_in (get_or w.seen cell []))
      (to_deliver (get_or w.seen cell []) step)
      ≡ is_full limit (history_in (get_or w.seen cell [])) (kinds_of whole)

-- where something was kept
pub done-of : (names : List NameShards) (limit me : ℕ) (w : Writer) (cell : ℕ)
    (shard : History) (step kept whole : List Entry) → cell < cells_in names → me ≡ w.me
    → shard ≡ history_in (get_or w.seen cell []) → kept ≡ admitted shard step
    → MayDeliver names w.me w.seen cell step → 0 < length kept
    → whole ≡ kept ++ mark_by me ∷ [] → IsDone names limit w cell step kept whole
done-of names limit me w cell shard step kept whole below own e k may lt is =
    let h = history_in (get_or w.seen cell []) in
    let ks = to_deliver (get_or w.seen cell []) step in
    let are = kept-here (get_or w.seen cell []) shard step kept e k in
    let by : AreBy w.me kept =
    subst (AreBy w.me) (sym k)
    (admitted-each (λ (x : Entry). x.by ≡ w.me) shard step may.step_is.own) in
    let close = is_closed w.me me true kept whole lt by own is in
    let kinds : kinds_of whole ≡ closed true ks =
    close.kinds ∙ ap (closed true) (sym are.kinds) in
    let long = are.long in
    let some : 0 < length ks = omega (arith, long, lt) in
    let all = delivered_some w cell limit h ks some in
    let admitted_is : kept ≡ admitted h step = k ∙ ap (λ x. admitted x step) e in
    let marked_is : whole ≡ marked w.me (admitted h step) =
    is ∙ (ap (λ n. kept ++ mark_by n ∷ []) own
    ∙ (sym (marked-some w.me kept lt) ∙ ap (marked w.me) admitted_is)) in
    record {
      allowed = (below, inr (record { items = step; allowed = may; is = marked_is }));
      made_is = ap (λ x. made w cell (map write x)) kinds ∙ all.0;
      count = sym long;
      writes = ap writes_in kinds ∙ (writes_in-closed true ks ∙ admitted_kinds-writes h (kinds_of step));
      over = all.1 ∙ ap (is_full limit h) (sym kinds);
    }

-- what is left of a delivery that isn't acknowledged
pub undelivered : (names : List NameShards) (limit : ℕ) (w new : Writer) (cell : ℕ)
    (step kept whole : List Entry) (f : StepRefusal) → IsDone names limit w cell step kept whole
    → IsUnsealed (is_full limit (history_in (get_or w.seen cell [])) (kinds_of whole) ≡ false) w
    (made w cell (map write (kinds_of whole))) cell (writes_in (kinds_of whole)) new f
    → IsUnsealed (is_over limit (history_in (get_or w.seen cell []))
    (to_deliver (get_or w.seen cell []) step) ≡ false) w
    (delivered w cell (to_deliver (get_or w.seen cell []) step)) cell
    (length (to_deliver (get_or w.seen cell []) step)) new f
undelivered names limit w new cell step kept whole f done u =
    subst (λ b. IsUnsealed (b ≡ false) w
    (delivered w cell (to_deliver (get_or w.seen cell []) step)) cell
    (length (to_deliver (get_or w.seen cell []) step)) new f) (sym done.over)
    (subst (λ after. IsUnsealed
    (is_full limit (history_in (get_or w.seen cell [])) (kinds_of whole) ≡ false) w after cell
    (length (to_deliver (get_or w.seen cell []) step)) new f) done.made_is
    (subst (λ n. IsUnsealed
    (is_full limit (history_in (get_or w.seen cell [])) (kinds_of whole) ≡ false) w
    (made w cell (map write (kinds_of whole))) cell n new f) done.writes u))
