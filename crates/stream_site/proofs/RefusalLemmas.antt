-- What a call says of its writer after a refusal at a cell.
use Rattle.std.proofs.Common.{◌≡◌, ℕ, ◌+◌, ◌<◌, true, false, List, length, map, refl, sym, subst, ◌∙◌, ◌≤◌, arith, inl, inr}
use Rattle.std.specs.Prelude.{Result, Ok, Err}
use Rattle.shard_versions.specs.Histories.{History}
use Rattle.shard_versions.specs.declared.entry.Kind.{Kind}
use Rattle.exchange_rules.specs.Calls.{HasAppended, IsStopped, HasBarred, Refused, Stopped}
use Rattle.exchange_rules.specs.Cells.{write}
use Rattle.exchange_rules.specs.Courses.{Course, ends}
use Rattle.exchange_rules.specs.Deliveries.{send_admitted}
use Rattle.exchange_rules.specs.Following.{Writer}
use Rattle.exchange_rules.specs.Primitives.{barred_at, delivered, made, IsBroken}
use Rattle.exchange_rules.specs.Steps.{fitting, is_full, is_over, writes_in}
use Rattle.exchange_rules.specs.declared.fault.SiteFault.{SiteFault}
use Rattle.exchange_rules.specs.declared.fault.SiteFault.TheVariants.{LogFault}
use Rattle.exchange_rules.proofs.AppendedLemmas.{appended_same, broken_here, closed_here}
use Rattle.exchange_rules.proofs.DeliveryLemmas.{deliver_appended}
use Rattle.exchange_rules.proofs.StepLemmas.{fitting_appended, look_none, nothing_done}
use Rattle.stream_site.specs.Refusals.{IsUnseen, IsUnsealed, unseen}
use Rattle.stream_site.specs.declared.refusal.LookRefusal.{LookRefusal}
use Rattle.stream_site.specs.declared.refusal.LookRefusal.TheVariants as look
use Rattle.stream_site.specs.declared.refusal.StepRefusal.{StepRefusal}
use Rattle.stream_site.specs.declared.refusal.StepRefusal.TheVariants as step

-- a cell that was found closed before anything else was done
closed_first : {A : Type 0} (before : ℕ) (start old new : Writer) (p : Course A) (cell at : ℕ)
    → old ≡ start → (at ≡ cell) × (new ≡ barred_at old cell)
    → IsStopped before start new p before × HasBarred start new at
closed_first before start old new p cell at s u =
    let here = closed_here before start old new p p 0 cell (appended_same start old p s) u.1 in
    let none : before + 0 ≡ before = omega arith in
    let there : IsStopped before start new p before =
    subst (IsStopped before start new p) none here.0 in
    (there, subst (HasBarred start new) (sym u.0) here.1)

-- a look that was refused, at which a call came with its writer as it was
pub unseen_refused : {A : Type 0} (before : ℕ) (start old new : Writer)
    (p : Course (Result A SiteFault)) (cell : ℕ) (r : LookRefusal) → old ≡ start
    → IsUnseen old new cell r → Refused before start new p (unseen before r)
unseen_refused before start old new p cell (look.Closed at) s u =
    closed_first before start old new p cell at s u
unseen_refused before start old new p cell look.OutOfMemory s u =
    nothing_done before start new p (u ∙ s)

-- the same of a call that only looks
pub unseen_stopped : {A : Type 0} (start old new : Writer) (p : Course A) (cell : ℕ)
    (r : LookRefusal) → old ≡ start → IsUnseen old new cell r → Stopped start new p (unseen 0 r)
unseen_stopped start old new p cell (look.Closed at) s u =
    closed_first 0 start old new p cell at s u
unseen_stopped start old new p cell look.OutOfMemory s u = look_none start new p (u ∙ s)

-- what a step leaves that a full shard refused, and one for which memory was wanting
pub unsealed_full : (Fits : Type 0) (old after : Writer) (cell writes : ℕ) (new : Writer)
    (r : StepRefusal) → r ≡ step.ShardFull → IsUnsealed Fits old after cell writes new r
    → new ≡ old
unsealed_full Fits old after cell writes new r e u =
    subst (IsUnsealed Fits old after cell writes new) e u

pub unsealed_memory : (Fits : Type 0) (old after : Writer) (cell writes : ℕ) (new : Writer)
    (r : StepRefusal) → r ≡ step.OutOfMemory → IsUnsealed Fits old after cell writes new r
    → new ≡ old
unsealed_memory Fits old after cell writes new r e u =
    subst (IsUnsealed Fits old after cell writes new) e u

-- a step at whose append the log failed
pub step_broken : (before : ℕ) (old new : Writer) (limit c : ℕ) (ks : List Kind)
    (refusal fault : SiteFault) (h : History) (r : StepRefusal) (n : ℕ) → c < length old.seen
    → r ≡ step.Broken n
    → IsUnsealed (is_full limit h ks ≡ false) old (made old c (map write ks)) c (writes_in ks) new r
    → fault ≡ LogFault c (before + n)
    → Refused before old new (fitting limit c ks refusal h) fault
step_broken before old new limit c ks refusal fault h r n lt e u is =
    let after = made old c (map write ks) in
    let b = subst (IsUnsealed (is_full limit h ks ≡ false) old after c (writes_in ks) new) e u in
    let stood = fitting_appended old after limit c ks refusal h lt b.0 refl in
    let there = broken_here before old after new (fitting limit c ks refusal h) (ends (Ok tt)) c
    (writes_in ks) n stood b.1 in
    subst (Refused before old new (fitting limit c ks refusal h)) (sym is) there

-- and a delivery
pub delivery_broken : (before : ℕ) (old new : Writer) (limit c : ℕ) (ks : List Kind)
    (refusal fault : SiteFault) (h : History) (r : StepRefusal) (n : ℕ) → c < length old.seen
    → writes_in ks ≡ length ks → r ≡ step.Broken n
    → IsUnsealed (is_over limit h ks ≡ false) old (delivered old c ks) c (length ks) new r
    → fault ≡ LogFault c (before + n)
    → Refused before old new (send_admitted limit c refusal h ks) fault
delivery_broken before old new limit c ks refusal fault h r n lt writes e u is =
    let after = delivered old c ks in
    let b = subst (IsUnsealed (is_over limit h ks ≡ false) old after c (length ks) new) e u in
    let stood = deliver_appended old after limit c refusal h ks lt b.0 writes refl in
    let there = broken_here before old after new (send_admitted limit c refusal h ks)
    (ends (Ok (length ks))) c (length ks) n stood b.1 in
    subst (Refused before old new (send_admitted limit c refusal h ks)) (sym is) there

-- at most so many writes of a step stand at whose append the log failed
pub broken_few : (Fits : Type 0) (old after : Writer) (cell writes : ℕ) (new : Writer)
    (r : StepRefusal) (n : ℕ) → r ≡ step.Broken n → IsUnsealed Fits old after cell writes new r
    → n ≤ writes
broken_few Fits old after cell writes new r n e u =
    let b = subst (IsUnsealed Fits old after cell writes new) e u in
    elim b.1 [
      | inl x ↦ let z = x.0 in omega (arith, z)
      | inr x ↦ let z = x.0 in omega (arith, z)
    ]

-- an entry at whose append the log failed, in a call of which nothing else stands
pub entry_broken : {A : Type 0} (old after new : Writer) (p : Course (Result A SiteFault))
    (a : A) (cell : ℕ) (fault : SiteFault) → HasAppended old after p (ends (Ok a)) 0
    → IsBroken old after cell 0 0 new → fault ≡ LogFault cell 0 → Refused 0 old new p fault
entry_broken old after new p a cell fault stood b is =
    subst (Refused 0 old new p) (sym is)
    (broken_here 0 old after new p (ends (Ok a)) cell 0 0 stood b)
