-- A shard as it is read, and a step that it has no room for.
use Rattle.std.proofs.Common.{◌≡◌, ℕ, ◌+◌, ◌<◌, ◌↔◌, true, List, length, sym, ap, ◌∙◌, arith}
use Rattle.std.specs.Prelude.{sum_by, Result, Ok, Err, IfOk}
use Rattle.std.proofs.lemmas.Bool.{ltb-true, lt-ltb}
use Rattle.shard_versions.specs.Histories.{History, top, current}
use Rattle.shard_versions.specs.Stored.{stored, places_of}
use Rattle.shard_versions.specs.Shards.{Shown}
use Rattle.shard_versions.specs.Sizes.{entries_bytes, kind_bytes}
use Rattle.shard_versions.specs.declared.entry.Entry.{Entry}
use Rattle.exchange_rules.specs.Rows.{shown_of}
use Rattle.exchange_rules.specs.Steps.{is_full, kinds_of}
use Rattle.exchange_rules.proofs.StepLemmas.{entries_bytes-kinds}

-- when a step doesn't fit, by counted bytes
pub full_is : (limit m : ℕ) (h k : History) (step : List Entry) → m ≡ limit → k ≡ h
    → (m < entries_bytes h + entries_bytes step) ↔ (is_full limit k (kinds_of step) ≡ true)
full_is limit m h k step e f =
    let bytes = entries_bytes-kinds step in
    let same : entries_bytes h + entries_bytes step
    ≡ entries_bytes k + sum_by kind_bytes (kinds_of step) =
    ap (λ n. entries_bytes h + n) bytes
    ∙ ap (λ x. entries_bytes x + sum_by kind_bytes (kinds_of step)) (sym f) in (
      λ lt. lt-ltb limit (entries_bytes k + sum_by kind_bytes (kinds_of step))
          (omega (arith, lt, same, e)),
      λ full. let lt = ltb-true limit (entries_bytes k + sum_by kind_bytes (kinds_of step)) full in
          omega (arith, lt, same, e),
    )

-- a shard as it was read
pub shown_is : (s : Shown) (h k : History) → s.top ≡ top h → s.upto ≡ length h
    → s.documents ≡ current h → s.slots ≡ stored h → s.places ≡ places_of h → k ≡ h
    → s ≡ shown_of k
shown_is s h k t u d l p e =
    let build : ℕ → ℕ → _ → _ → _ → Shown = λ a b c i j.
    record { top = a; upto = b; documents = c; slots = i; places = j } in
    ap (λ x. build x s.upto s.documents s.slots s.places) t
    ∙ (ap (λ x. build (top h) x s.documents s.slots s.places) u
    ∙ (ap (λ x. build (top h) (length h) x s.slots s.places) d
    ∙ (ap (λ x. build (top h) (length h) (current h) x s.places) l
    ∙ (ap (build (top h) (length h) (current h) (stored h)) p ∙ ap shown_of (sym e)))))

-- the same of an answer
pub shown_ok : {E : Type 0} (r : Result Shown E) (h k : History)
    → IfOk r (λ s. s.top ≡ top h) → IfOk r (λ s. s.upto ≡ length h)
    → IfOk r (λ s. s.documents ≡ current h) → IfOk r (λ s. s.slots ≡ stored h)
    → IfOk r (λ s. s.places ≡ places_of h) → k ≡ h → IfOk r (λ s. s ≡ shown_of k)
shown_ok (Ok s) h k t u d l p e = shown_is s h k t u d l p e
shown_ok (Err e) h k t u d l p f = tt
