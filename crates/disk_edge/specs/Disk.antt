-- What the calls of a disk do to its content, and what a stop may do between two syncs (own).
use Rattle.std.specs.Prelude.{ℕ, ◌+◌, ◌≡◌, ◌⊎◌, ◌<◌, ◌≤◌, min, max, List, ◌++◌, length, take, drop, Option, Some, None, Result, IsErr}
use Rattle.io_edge.specs.Edge.{Rose}

-- the content with the piece from a place on
abbrev pub written : List ℕ → ℕ → List ℕ → List ℕ
written old from piece = take from old ++ (piece ++ drop (from + length piece) old)

-- what a stop may leave of a written range, and a read after a write that failed: the old or the
-- new byte in a range of one byte, and any bytes in a longer range and past the old end; a length
-- between the old one and the one that the write makes
pub record Torn (from : ℕ) (piece old new : List ℕ) : Type 0 where
  pub before : take from new ≡ take from old
  pub after : drop (from + length piece) new ≡ drop (from + length piece) old
  pub no_shorter : length old ≤ length new
  pub no_longer : length new ≤ max (length old) (from + length piece)
  pub one : length piece ≡ 1 → from < length old → (new ≡ old) ⊎ (new ≡ written old from piece)

-- what a stop may leave of a cut: a length between, and the same bytes up to it
pub record Short (size : ℕ) (old new : List ℕ) : Type 0 where
  pub no_shorter : min size (length old) ≤ length new
  pub front : take (length new) old ≡ new

-- each content that a stop may leave now is one that it might have left before, after a step
abbrev pub Follows : (List ℕ → List ℕ → Type 0) → (List ℕ → Type 0) → (List ℕ → Type 0) → Type 0
Follows step old new = (c : List ℕ) → new c → (d : List ℕ) × old d × step d c

-- a stop may leave nothing that it might not have left before
abbrev pub NoMore : (List ℕ → Type 0) → (List ℕ → Type 0) → Type 0
NoMore old new = (c : List ℕ) → new c → old c

-- a stop leaves this alone
abbrev pub Only : List ℕ → (List ℕ → Type 0) → Type 0
Only file leaves = (c : List ℕ) → leaves c → c ≡ file

-- what a disk tells has this
abbrev pub IfTold : Option (List ℕ) → (List ℕ → Type 0) → Type 0
IfTold None P = Unit {0}
IfTold (Some c) P = P c

-- the new content has this, and the disk tells it where it told the old one
abbrev pub Tells : Option (List ℕ) → Option (List ℕ) → (List ℕ → List ℕ → Type 0) → Type 0
Tells None new P = new ≡ None
Tells (Some old) new P = (c : List ℕ) × (new ≡ Some c) × P old c

-- time goes on: a stop since t might have left what it might have left before, or what it may now
pub record Elapses (before now : ℕ) (past since : ℕ → List ℕ → Type 0) (leaves : List ℕ → Type 0)
    : Type 0 where
  pub later : before ≤ now
  pub nothing_else : (t : ℕ) (c : List ℕ) → t ≤ before → since t c → past t c ⊎ leaves c
  pub keeps : (t : ℕ) (c : List ℕ) → t ≤ before → past t c → since t c

-- a stop at any moment from old to new leaves what has P
pub record LeavesOnly {D : Type 0} (moment : D → ℕ) (left_since : D → ℕ → List ℕ → Type 0)
    (old new : D) (P : List ℕ → Type 0) : Type 0 where
  pub later : moment old ≤ moment new
  pub each : (c : List ℕ) → left_since new (moment old) c → P c
  -- for a run that began earlier
  pub before : (t : ℕ) (c : List ℕ) → t ≤ moment old → left_since new t c → left_since old t c ⊎ P c

-- the count doesn't fall, and an error shows that it rose
abbrev pub HasCause : {T E : Type 0} → ℕ → ℕ → Result T E → Type 0
HasCause old new result = (old ≤ new) × (IsErr result → Rose old new)
