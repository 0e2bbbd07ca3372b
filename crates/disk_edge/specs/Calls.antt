-- The calls to a disk since its first content: what a read gives after them, and what a stop may
-- leave of them (own).
use Rattle.std.specs.Prelude.{ℕ, ◌+◌, ◌-◌, ◌≡◌, ◌⊎◌, ◌≤◌, List, [], ◌∷◌, length, take}
use Rattle.disk_edge.specs.Disk.{Short, Torn, written}
use Rattle.disk_edge.specs.declared.change.Change.{Change}
use Rattle.disk_edge.specs.declared.change.Change.TheVariants.{Wrote, WriteFailed, Shortened, CutFailed, Synced}

-- the content after a call
abbrev pub after : Change → List ℕ → List ℕ
after (Wrote from piece) old = written old from piece
after (WriteFailed from piece) old = old
after (Shortened size) old = take size old
after (CutFailed size) old = old
after Synced old = old

-- the content after these calls
abbrev pub content : List ℕ → List Change → List ℕ
content first [] = first
content first (call ∷ calls) = content (after call first) calls

-- what a stop may leave after a call: the content that it makes, or what a step makes of something
-- that a stop might have left before; after a sync the content alone
abbrev pub leaves_after : Change → List ℕ → (List ℕ → Type 0) → List ℕ → Type 0
leaves_after (Wrote from piece) old P new =
    (new ≡ written old from piece) ⊎ ((c : List ℕ) × P c × Torn from piece c new)
leaves_after (WriteFailed from piece) old P new =
    (new ≡ old) ⊎ ((c : List ℕ) × P c × Torn from piece c new)
leaves_after (Shortened size) old P new =
    (new ≡ take size old) ⊎ ((c : List ℕ) × P c × Short size c new)
leaves_after (CutFailed size) old P new =
    (new ≡ old) ⊎ ((c : List ℕ) × P c × Short size c new)
leaves_after Synced old P new = new ≡ old

-- what a stop may leave after these calls, by the content and what it might have left before them
abbrev pub Leaves : List ℕ → (List ℕ → Type 0) → List Change → List ℕ → Type 0
Leaves old P [] c = P c
Leaves old P (call ∷ calls) c = Leaves (after call old) (leaves_after call old P) calls c

-- what a stop may leave of a disk that began with this content, after these calls
abbrev pub MayLeave : List ℕ → List Change → List ℕ → Type 0
MayLeave first calls c = Leaves first (λ d. d ≡ first) calls c

-- what a stop after so many of these calls, or after more of them, might have left
pub record LeftSince (first : List ℕ) (calls : List Change) (t : ℕ) (c : List ℕ) : Type 0 where
  pub count : ℕ
  pub since : t ≤ count
  pub upto : count ≤ length calls
  pub leaves : MayLeave first (take count calls) c

-- the place that a call has to reach
abbrev pub reach : Change → ℕ
reach (Wrote from piece) = from
reach (WriteFailed from piece) = from
reach (Shortened size) = size
reach (CutFailed size) = size
reach Synced = 0

-- by how much these calls reach past the content
abbrev pub excess : List ℕ → List Change → ℕ
excess first [] = 0
excess first (call ∷ calls) = (reach call - length first) + excess (after call first) calls
