-- Steps that end with a Mark.
use Rattle.std.proofs.Common.{◌≡◌, ℕ, ◌<◌, Bool, true, false, List, [], ◌∷◌, ◌++◌, length, refl, sym, ap, ◌∙◌, subst, arith, if◌then◌else◌}
use Rattle.std.specs.Prelude.{Result, Ok}
use Rattle.std.proofs.lemmas.List.{map-append, length-map}
use Rattle.shard_versions.specs.Deliveries.{mark_by}
use Rattle.shard_versions.specs.declared.entry.Entry.{Entry}
use Rattle.shard_versions.specs.declared.entry.Kind.{Kind}
use Rattle.shard_versions.specs.declared.entry.Kind.TheVariants.{Mark}
use Rattle.shard_versions.proofs.ListLemmas.{each_append}
use Rattle.exchange_rules.specs.Courses.{ends}
use Rattle.exchange_rules.specs.Following.{Writer}
use Rattle.exchange_rules.specs.Calls.{HasAppended, Passed}
use Rattle.exchange_rules.specs.Steps.{AreBy, closed, kinds_of, writes_in, step_course, write_course}
use Rattle.exchange_rules.specs.declared.fault.SiteFault.{SiteFault}
use Rattle.exchange_rules.proofs.RoutingLemmas.{writes_in-closed}
use Rattle.exchange_rules.proofs.AppendedLemmas.{appended_none}
use Rattle.exchange_rules.proofs.StepLemmas.{write_some}

-- kinds that are closed, where there are any
closed_some : (commit : Bool) (ks : List Kind) → 0 < length ks
    → closed commit ks ≡ (if commit then ks ++ Mark ∷ [] else ks)
closed_some commit [] lt = absurd (omega arith)
closed_some true (k ∷ ks) lt = refl
closed_some false (k ∷ ks) lt = refl

-- a step of a writer, closed
pub record IsClosed (me : ℕ) (commit : Bool) (step whole : List Entry) : Type 0 where
  pub kinds : kinds_of whole ≡ closed commit (kinds_of step)
  pub own : AreBy me whole
  pub writes : writes_in (kinds_of whole) ≡ writes_in (kinds_of step)

-- by whether there is a commit
made_closed : (me : ℕ) (commit : Bool) (step : List Entry) → 0 < length step → AreBy me step
    → IsClosed me commit step (if commit then step ++ mark_by me ∷ [] else step)
made_closed me true step lt own =
    let long : 0 < length (kinds_of step) = simp length-map lt in
    let same : kinds_of (step ++ mark_by me ∷ []) ≡ closed true (kinds_of step) =
    map-append _ step (mark_by me ∷ []) ∙ sym (closed_some true (kinds_of step) long) in
    record {
      kinds = same;
      own = each_append (λ (e : Entry). e.by ≡ me) step (mark_by me ∷ []) own (refl, tt);
      writes = ap writes_in same ∙ writes_in-closed true (kinds_of step);
    }
made_closed me false step lt own =
    let long : 0 < length (kinds_of step) = simp length-map lt in
    record {
      kinds = sym (closed_some false (kinds_of step) long);
      own = own;
      writes = refl;
    }

-- the same of the step that was closed
pub is_closed : (me n : ℕ) (commit : Bool) (step whole : List Entry) → 0 < length step
    → AreBy me step → n ≡ me
    → whole ≡ (if commit then step ++ mark_by n ∷ [] else step)
    → IsClosed me commit step whole
is_closed me n commit step whole lt own same e =
    subst (IsClosed me commit step)
    (sym (e ∙ ap (λ x. if commit then step ++ mark_by x ∷ [] else step) same))
    (made_closed me commit step lt own)

-- nothing is written of an empty step
pub nothing_written : (w : Writer) (limit c : ℕ) (commit : Bool) (step : List Entry)
    (refusal : SiteFault) → length step ≡ 0
    → HasAppended w w (write_course limit c (closed commit (kinds_of step)) refusal) (ends (Ok tt))
    (writes_in (kinds_of step))
nothing_written w limit c commit [] refusal e = appended_none w (ends (Ok tt))
nothing_written w limit c commit (x ∷ step) refusal e = absurd (omega arith)

-- a closed step isn't empty
closed_long : (commit : Bool) (ks : List Kind) → 0 < length ks → 0 < length (closed commit ks)
closed_long commit [] lt = absurd (omega arith)
closed_long true (k ∷ ks) lt = omega arith
closed_long false (k ∷ ks) lt = lt

-- and what is written of another is its step, closed
pub write_passed : (before : ℕ) (old new : Writer) (limit c me : ℕ) (commit : Bool)
    (step whole : List Entry) (refusal : SiteFault) (r : Result (Unit {0}) SiteFault)
    → 0 < length step → IsClosed me commit step whole
    → Passed before old new (step_course limit c (kinds_of whole) refusal)
    (writes_in (kinds_of whole)) r
    → Passed before old new (write_course limit c (closed commit (kinds_of step)) refusal)
    (writes_in (kinds_of step)) r
write_passed before old new limit c me commit step whole refusal r lt is p =
    let ks = kinds_of step in
    let n = writes_in ks in
    let long : 0 < length ks = simp length-map lt in
    let some = write_some limit c (closed commit ks) refusal (closed_long commit ks long) in
    let p' = subst (λ x. Passed before old new (step_course limit c x refusal)
    (writes_in (kinds_of whole)) r) is.kinds p in
    subst (λ x. Passed before old new x n r) (sym some)
    (subst (λ x. Passed before old new (step_course limit c (closed commit ks) refusal) x r)
    is.writes p')
