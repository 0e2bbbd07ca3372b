-- What a disk has of the bodies of a log, and what a stop may leave (own).
use Rattle.std.specs.Prelude.{ℕ, ◌≡◌, ◌⊎◌, ◌≤◌, List, [], ◌∷◌, ◌++◌, Option, Some, Bool, true, false}
use Rattle.disk_edge.specs.Disk.{NoMore, Only}
use Rattle.commit_log.specs.Frames.{at_rest, closed}

-- a file of these bodies, whatever follows the byte that ends them
abbrev pub IsClosed : List (List ℕ) → List ℕ → Type 0
IsClosed bodies file = (rest : List ℕ) × (file ≡ closed bodies rest)

-- a file of these bodies, or of these and one more
abbrev pub IsGated : List (List ℕ) → List ℕ → List ℕ → Type 0
IsGated bodies body file = IsClosed bodies file ⊎ (file ≡ at_rest (bodies ++ body ∷ []))

module _ {D : Type 0} (seen : D → Option (List ℕ)) (may_leave : D → List ℕ → Type 0) where
  -- the disk tells this content, and a stop leaves it
  pub record Has (disk : D) (file : List ℕ) : Type 0 where
    pub told : seen disk ≡ Some file
    pub durable : Only file (may_leave disk)

  -- the disk tells a content that has P, and so has all that a stop may leave
  pub record HasAll (P : List ℕ → Type 0) (disk : D) : Type 0 where
    pub file : List ℕ
    pub told : seen disk ≡ Some file
    pub is : P file
    pub leaves : (c : List ℕ) → may_leave disk c → P c

  -- what the byte says of the further body
  abbrev pub GateSays : List (List ℕ) → List ℕ → D → Bool → Type 0
  GateSays bodies body disk stands =
      (stands ≡ true → Has disk (at_rest (bodies ++ body ∷ [])))
      × (stands ≡ false → (rest : List ℕ) × Has disk (closed bodies rest))

  -- the file once the further body was settled: it is there, or it isn't
  abbrev pub Settles : List (List ℕ) → List ℕ → D → Bool → Type 0
  Settles bodies body disk stands =
      (stands ≡ true → Has disk (at_rest (bodies ++ body ∷ [])))
      × (stands ≡ false → Has disk (at_rest bodies))

-- of what a stop might have left since some moment, all that is new has P
pub record AddsOnly {D : Type 0} (moment : D → ℕ) (left_since : D → ℕ → List ℕ → Type 0)
    (old new : D) (P : List ℕ → Type 0) : Type 0 where
  pub later : moment old ≤ moment new
  pub before : (t : ℕ) (c : List ℕ) → t ≤ moment old → left_since new t c → left_since old t c ⊎ P c

-- nothing was written: the disk tells the same, and no stop leaves what none might have left before
pub record IsLeft {D : Type 0} (seen : D → Option (List ℕ)) (may_leave : D → List ℕ → Type 0)
    (moment : D → ℕ) (left_since : D → ℕ → List ℕ → Type 0) (old new : D) : Type 0 where
  pub told : seen new ≡ seen old
  pub now : NoMore (may_leave old) (may_leave new)
  pub any_moment : AddsOnly moment left_since old new (may_leave old)
