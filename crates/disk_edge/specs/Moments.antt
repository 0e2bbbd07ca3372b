-- A stop now is one of those since an earlier moment, and may leave what a read gives (own).
use Rattle.std.specs.Prelude.{ℕ, ◌≡◌, ◌≤◌, List, [], ◌∷◌, length, Option, Some, None}
use Rattle.std.proofs.Common.{inl, refl, sym, ap, subst, arith}
use Rattle.std.proofs.lemmas.List.{take_all}
use Rattle.disk_edge.specs.Calls.{after, content, leaves_after, Leaves, LeftSince, MayLeave}
use Rattle.disk_edge.specs.declared.change.Change.{Change}
use Rattle.disk_edge.specs.declared.change.Change.TheVariants.{Wrote, WriteFailed, Shortened, CutFailed, Synced}

-- what a stop now may leave is what one since an earlier moment might have left
pub counts-now : (first : List ℕ) (calls : List Change) (t : ℕ) (c : List ℕ) → t ≤ length calls → MayLeave first calls c → LeftSince first calls t c
counts-now first calls t c le now = record {
  count = length calls;
  since = le;
  upto = omega arith;
  leaves = subst (λ (l : List Change). MayLeave first l c) (sym (take_all (length calls) calls (omega arith))) now;
}

-- what a stop since now might have left is what one now may leave
pub only-now : (first : List ℕ) (calls : List Change) (c : List ℕ) → LeftSince first calls (length calls) c → MayLeave first calls c
only-now first calls c left =
    subst (λ (l : List Change). MayLeave first l c) (take_all left.count calls (omega (arith, left.since))) left.leaves

-- the content after a call is something that a stop may then leave
stays-one : (call : Change) (old : List ℕ) (P : List ℕ → Type 0) → P old → leaves_after call old P (after call old)
stays-one (Wrote from piece) old P here = inl refl
stays-one (WriteFailed from piece) old P here = inl refl
stays-one (Shortened size) old P here = inl refl
stays-one (CutFailed size) old P here = inl refl
stays-one Synced old P here = refl

-- the content after these calls is something that a stop may then leave
pub stays-all : (calls : List Change) (old : List ℕ) (P : List ℕ → Type 0) → P old → Leaves old P calls (content old calls)
stays-all [] old P here = here
stays-all (call ∷ calls) old P here =
    stays-all calls (after call old) (leaves_after call old P) (stays-one call old P here)

-- the content that is told
abbrev told_of : Option (List ℕ) → List ℕ
told_of None = []
told_of (Some c) = c

-- what a read gives is something that a stop may leave
pub stays : (first : List ℕ) (calls : List Change) (c : List ℕ) → Some (content first calls) ≡ Some c → MayLeave first calls c
stays first calls c told =
    let is : content first calls ≡ c = ap told_of told in
    subst (MayLeave first calls) is (stays-all calls first (λ d. d ≡ first) refl)
