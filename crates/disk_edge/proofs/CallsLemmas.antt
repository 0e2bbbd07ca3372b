-- One more call to a disk in memory.
use Rattle.std.proofs.Common.{◌≡◌, ◌⊎◌, inl, inr, ⊎_elim, ℕ, ◌+◌, ◌≤◌, List, [], ◌∷◌, ◌++◌, length, refl, sym, subst, arith, length-append}
use Rattle.std.proofs.lemmas.Bool.{cases_lt}
use Rattle.std.proofs.lemmas.List.{take-append-le, take_all}
use Rattle.disk_edge.specs.Disk.{Elapses, Follows, NoMore, Only, Short, Torn}
use Rattle.disk_edge.specs.Calls.{after, content, excess, leaves_after, reach, Leaves, LeftSince, MayLeave}
use Rattle.disk_edge.specs.Moments.{stays-all}
use Rattle.disk_edge.specs.declared.change.Change.{Change}
use Rattle.disk_edge.specs.declared.change.Change.TheVariants.{Wrote, WriteFailed, Shortened, CutFailed, Synced}
use Rattle.disk_edge.proofs.DiskLemmas.{short-self, short-written, torn-self, torn-written}

-- the content after one call more
pub content-push : (calls : List Change) (old : List ℕ) (call : Change) → content old (calls ++ call ∷ []) ≡ after call (content old calls)
content-push [] old call = refl
content-push (x ∷ calls) old call = content-push calls (after x old) call

-- one call more reaches no further past the content
pub excess-push : (calls : List Change) (old : List ℕ) (call : Change) → excess old calls ≡ 0 → reach call ≤ length (content old calls) → excess old (calls ++ call ∷ []) ≡ 0
excess-push [] old call none fits = omega (arith, fits)
excess-push (x ∷ calls) old call none fits =
    let rest = excess-push calls (after x old) call (omega (arith, none)) fits in
    omega (arith, none, rest)

-- what a function that notes a call needs
pub ruleset one_more = (content-push, excess-push)

-- what a stop may leave after one call more
pub leaves-push : (calls : List Change) (old : List ℕ) (P : List ℕ → Type 0) (call : Change) (c : List ℕ) → Leaves old P (calls ++ call ∷ []) c → leaves_after call (content old calls) (Leaves old P calls) c
leaves-push [] old P call c left = left
leaves-push (x ∷ calls) old P call c left = leaves-push calls (after x old) (leaves_after x old P) call c left

-- where no call was made no time goes by
pub elapses-same : (first : List ℕ) (calls : List Change) → Elapses (length calls) (length calls) (LeftSince first calls) (LeftSince first calls) (MayLeave first calls)
elapses-same first calls = record { later = omega arith; nothing_else = λ t c le left. inl left; keeps = λ t c le left. left }

-- time goes by at a call
pub elapses-push : (first : List ℕ) (calls : List Change) (call : Change) → Elapses (length calls) (length (calls ++ call ∷ [])) (LeftSince first calls) (LeftSince first (calls ++ call ∷ [])) (MayLeave first (calls ++ call ∷ []))
elapses-push first calls call = record {
  later = omega (arith, long);
  nothing_else = λ t c le left. elim (less left.count (length calls)) [
    | inl low ↦ inl (record {
      count = left.count;
      since = left.since;
      upto = low;
      leaves = subst (λ (l : List Change). MayLeave first l c) (take-append-le left.count calls (call ∷ []) low) left.leaves;
    })
    | inr high ↦ inr (subst (λ (l : List Change). MayLeave first l c) (take_all left.count (calls ++ call ∷ []) (omega (arith, high, long))) left.leaves)
  ];
  keeps = λ t c le left. record {
    count = left.count;
    since = left.since;
    upto = omega (arith, long, left.upto);
    leaves = subst (λ (l : List Change). MayLeave first l c) (sym (take-append-le left.count calls (call ∷ []) left.upto)) left.leaves;
  };
}
  where
    long : length (calls ++ call ∷ []) ≡ length calls + 1
    long = length-append calls (call ∷ [])

    less : (m n : ℕ) → (m ≤ n) ⊎ (n + 1 ≤ m)
    less m n = elim (cases_lt n m) [ inl above ↦ inr (omega (arith, above)) | inr low ↦ inl low ]

module _ (first : List ℕ) (calls : List Change) where
  seen : List ℕ
  seen = content first calls

  -- what a read gives is among what a stop may leave
  here : MayLeave first calls (content first calls)
  here = stays-all calls first (λ d. d ≡ first) refl

  -- a step from the content, or from something that a stop might have left
  from-step : (step : List ℕ → List ℕ → Type 0) (made new : List ℕ) → step (content first calls) made → (new ≡ made) ⊎ ((c : List ℕ) × MayLeave first calls c × step c new) → (c : List ℕ) × MayLeave first calls c × step c new
  from-step step made new steps left =
      ⊎_elim
      (λ is. (content first calls, here, subst (step (content first calls)) (sym is) steps))
      (λ before. before)
      left

  pub follows-wrote : (from : ℕ) (piece : List ℕ) → from ≤ length (content first calls) → Follows (Torn from piece) (MayLeave first calls) (MayLeave first (calls ++ Wrote from piece ∷ []))
  follows-wrote from piece fits c left =
      from-step (Torn from piece) _ c (torn-written from piece (content first calls) fits) (leaves-push calls first (λ d. d ≡ first) (Wrote from piece) c left)

  pub follows-write_failed : (from : ℕ) (piece : List ℕ) → Follows (Torn from piece) (MayLeave first calls) (MayLeave first (calls ++ WriteFailed from piece ∷ []))
  follows-write_failed from piece c left =
      from-step (Torn from piece) _ c (torn-self from piece (content first calls)) (leaves-push calls first (λ d. d ≡ first) (WriteFailed from piece) c left)

  pub follows-shortened : (size : ℕ) → size ≤ length (content first calls) → Follows (Short size) (MayLeave first calls) (MayLeave first (calls ++ Shortened size ∷ []))
  follows-shortened size fits c left =
      from-step (Short size) _ c (short-written size (content first calls) fits) (leaves-push calls first (λ d. d ≡ first) (Shortened size) c left)

  pub follows-cut_failed : (size : ℕ) → Follows (Short size) (MayLeave first calls) (MayLeave first (calls ++ CutFailed size ∷ []))
  follows-cut_failed size c left =
      from-step (Short size) _ c (short-self size (content first calls)) (leaves-push calls first (λ d. d ≡ first) (CutFailed size) c left)

  -- after a sync a stop leaves the content
  pub only-synced : Only (content first calls) (MayLeave first (calls ++ Synced ∷ []))
  only-synced c left = leaves-push calls first (λ d. d ≡ first) Synced c left

  pub no_more-synced : NoMore (MayLeave first calls) (MayLeave first (calls ++ Synced ∷ []))
  no_more-synced c left = subst (MayLeave first calls) (sym (only-synced c left)) here
