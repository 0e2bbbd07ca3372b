-- What follows for a disk's clauses from how a call to a disk in memory was answered.
use Rattle.std.proofs.Common.{◌≡◌, ◌⊎◌, inl, inr, ℕ, ◌≤◌, List, length, take, refl, sym, ◌∙◌, ap, subst, Some, Result, Ok, Err, OnOk, OnErr}
use Rattle.disk_edge.specs.Disk.{Elapses, Follows, NoMore, Only, Short, Tells, Torn}
use Rattle.disk_edge.specs.Calls.{after, LeftSince, MayLeave}
use Rattle.disk_edge.specs.Memory.{content_of, noted, Changes, DiskState, Syncs}
use Rattle.disk_edge.specs.declared.change.Change.{Change}
use Rattle.disk_edge.specs.declared.change.Change.TheVariants.{Wrote, WriteFailed, Shortened, CutFailed, Synced}
use Rattle.disk_edge.proofs.DiskLemmas.{short-self, torn-self}
use Rattle.disk_edge.proofs.CallsLemmas.{content-push, elapses-push, elapses-same, follows-cut_failed, follows-shortened, follows-write_failed, follows-wrote, no_more-synced, only-synced}

-- time goes by from one state to the other
abbrev pub Passes : DiskState → DiskState → Type 0
Passes old new =
    Elapses (length old.since) (length new.since) (LeftSince old.first old.since) (LeftSince new.first new.since) (MayLeave new.first new.since)

-- a stop may leave what it might have left in the other state, after a step
abbrev pub Steps : (List ℕ → List ℕ → Type 0) → DiskState → DiskState → Type 0
Steps step old new = Follows step (MayLeave old.first old.since) (MayLeave new.first new.since)

-- what a read gives after one call more
pub content_of-noted : (s : DiskState) (change : Change) → content_of (noted s change) ≡ after change (content_of s)
content_of-noted s change = content-push s.since s.first change

module _ {T E : Type 0} (made missed : Change) (old new : DiskState) where
  pub changes-seen : (result : Result T E) → Changes made missed old new result → OnOk result (Tells (Some (content_of old)) (Some (content_of new)) (λ c d. d ≡ after made c))
  changes-seen (Ok value) h = (content_of new, refl, ap content_of h.1 ∙ content_of-noted old made)
  changes-seen (Err fault) h = tt

  pub changes-kept : after missed (content_of old) ≡ content_of old → (result : Result T E) → Changes made missed old new result → OnErr result (content_of new ≡ content_of old)
  changes-kept same (Ok value) h = tt
  changes-kept same (Err fault) (inl is) = ap content_of is ∙ content_of-noted old missed ∙ same
  changes-kept same (Err fault) (inr is) = ap content_of is

  pub changes-time : (result : Result T E) → Changes made missed old new result → Passes old new
  changes-time (Ok value) h = subst (Passes old) (sym h.1) (elapses-push old.first old.since made)
  changes-time (Err fault) (inl is) = subst (Passes old) (sym is) (elapses-push old.first old.since missed)
  changes-time (Err fault) (inr is) = subst (Passes old) (sym is) (elapses-same old.first old.since)

  pub changes-stop : (step : List ℕ → List ℕ → Type 0) → Steps step old (noted old made) → Steps step old (noted old missed) → ((c : List ℕ) → step c c) → (result : Result T E) → Changes made missed old new result → Steps step old new
  changes-stop step by_made by_missed itself (Ok value) h = subst (Steps step old) (sym h.1) by_made
  changes-stop step by_made by_missed itself (Err fault) (inl is) = subst (Steps step old) (sym is) by_missed
  changes-stop step by_made by_missed itself (Err fault) (inr is) =
      subst (Steps step old) (sym is) (λ c left. (c, left, itself c))

module _ {T E : Type 0} (old new : DiskState) (result : Result T E) where
  pub write-failed : (from : ℕ) (piece : List ℕ) → Changes (Wrote from piece) (WriteFailed from piece) old new result → OnErr result (Tells (Some (content_of old)) (Some (content_of new)) (Torn from piece))
  write-failed from piece h =
      on-err result (changes-kept (Wrote from piece) (WriteFailed from piece) old new refl result h)
    where
      on-err : (r : Result T E) → OnErr r (content_of new ≡ content_of old) → OnErr r (Tells (Some (content_of old)) (Some (content_of new)) (Torn from piece))
      on-err (Ok value) h = tt
      on-err (Err fault) same =
          (content_of new, refl, subst (Torn from piece (content_of old)) (sym same) (torn-self from piece (content_of old)))

  pub write-stop : (from : ℕ) (piece : List ℕ) → from ≤ length (content_of old) → Changes (Wrote from piece) (WriteFailed from piece) old new result → Steps (Torn from piece) old new
  write-stop from piece fits h =
      changes-stop (Wrote from piece) (WriteFailed from piece) old new (Torn from piece) (follows-wrote old.first old.since from piece fits) (follows-write_failed old.first old.since from piece) (torn-self from piece) result h

  pub cut-failed : (size : ℕ) → Changes (Shortened size) (CutFailed size) old new result → OnErr result (Tells (Some (content_of old)) (Some (content_of new)) (λ c d. (d ≡ c) ⊎ (d ≡ take size c)))
  cut-failed size h =
      on-err result (changes-kept (Shortened size) (CutFailed size) old new refl result h)
    where
      on-err : (r : Result T E) → OnErr r (content_of new ≡ content_of old) → OnErr r (Tells (Some (content_of old)) (Some (content_of new)) (λ c d. (d ≡ c) ⊎ (d ≡ take size c)))
      on-err (Ok value) h = tt
      on-err (Err fault) same = (content_of new, refl, inl same)

  pub cut-stop : (size : ℕ) → size ≤ length (content_of old) → Changes (Shortened size) (CutFailed size) old new result → Steps (Short size) old new
  cut-stop size fits h =
      changes-stop (Shortened size) (CutFailed size) old new (Short size) (follows-shortened old.first old.since size fits) (follows-cut_failed old.first old.since size) (short-self size) result h

module _ {T E : Type 0} (old new : DiskState) where
  pub syncs-durable : (result : Result T E) → Syncs old new result → OnOk result (Only (content_of old) (MayLeave new.first new.since))
  syncs-durable (Ok value) h =
      subst (λ (s : DiskState). Only (content_of old) (MayLeave s.first s.since)) (sym h.1) (only-synced old.first old.since)
  syncs-durable (Err fault) h = tt

  pub syncs-seen : (result : Result T E) → Syncs old new result → Some (content_of new) ≡ Some (content_of old)
  syncs-seen (Ok value) h = ap (λ s. Some (content_of s)) h.1 ∙ ap (λ c. Some c) (content_of-noted old Synced)
  syncs-seen (Err fault) h = ap (λ s. Some (content_of s)) h

  pub syncs-stop : (result : Result T E) → Syncs old new result → NoMore (MayLeave old.first old.since) (MayLeave new.first new.since)
  syncs-stop (Ok value) h =
      subst (λ (s : DiskState). NoMore (MayLeave old.first old.since) (MayLeave s.first s.since)) (sym h.1) (no_more-synced old.first old.since)
  syncs-stop (Err fault) h =
      subst (λ (s : DiskState). NoMore (MayLeave old.first old.since) (MayLeave s.first s.since)) (sym h) (λ c left. left)

  pub syncs-time : (result : Result T E) → Syncs old new result → Passes old new
  syncs-time (Ok value) h = subst (Passes old) (sym h.1) (elapses-push old.first old.since Synced)
  syncs-time (Err fault) h = subst (Passes old) (sym h) (elapses-same old.first old.since)
