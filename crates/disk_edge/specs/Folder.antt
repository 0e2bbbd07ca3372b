-- Disks by name: which of them a folder holds, and which are out (own).
use Rattle.std.specs.Prelude.{ℕ, ◌≡◌, ◌≢◌, ◌≤◌, Bool, List, [], Option, Some, None, IsTrue, MatchOption}
use Rattle.io_edge.specs.Edge.{Rose}
use Rattle.disk_edge.specs.Disk.{Only}

-- a folder: the disk that is held under each name, and the count of faults at which the disk of
-- each name went out, where it is out
pub record Folder (D : Type 0) : Type 0 where
  pub held : List ℕ → Option D
  pub out : List ℕ → Option ℕ

-- nothing is held or out otherwise than before
pub record Stays {D : Type 0} (old new : Folder D) : Type 0 where
  pub held : (name : List ℕ) → new.held name ≡ old.held name
  pub out : (name : List ℕ) → new.out name ≡ old.out name

-- what is held or out under every other name stays
abbrev pub OthersStay : {D : Type 0} → Folder D → Folder D → List ℕ → Type 0
OthersStay old new name =
    (other : List ℕ) → other ≢ name
    → (new.held other ≡ old.held other) × (new.out other ≡ old.out other)

-- a disk is new: a read gives nothing, and a stop leaves nothing
abbrev pub IsNew : {D : Type 0} → (D → Option (List ℕ)) → (D → List ℕ → Type 0) → D → Type 0
IsNew seen may_leave disk = (seen disk ≡ Some []) × Only [] (may_leave disk)

-- the disk of a name, which wasn't out, is out, with its count of faults so far: it is the one that
-- was held, where the folder tells it, and a new one where none was
pub record GoesOut {D : Type 0} (tells : Bool) (faults : D → ℕ) (New : D → Type 0)
    (old new : Folder D) (name : List ℕ) (disk : D) : Type 0 where
  pub was_in : old.out name ≡ None
  pub was_held : IsTrue tells → MatchOption (old.held name) (New disk) (λ held. held ≡ disk)
  pub not_held : new.held name ≡ None
  pub out : new.out name ≡ Some (faults disk)
  pub others : OthersStay old new name

-- the disk is held under its name, where the folder tells it, and is no longer out
pub record ComesBack {D : Type 0} (tells : Bool) (old new : Folder D) (name : List ℕ) (disk : D)
    : Type 0 where
  pub held : IsTrue tells → new.held name ≡ Some disk
  pub not_out : new.out name ≡ None
  pub others : OthersStay old new name

-- the count of a folder doesn't fall, and rises exactly where that of a disk had risen since it went
-- out
abbrev pub CountsFaults : ℕ → ℕ → Option ℕ → ℕ → Type 0
CountsFaults old new None faults = new ≡ old
CountsFaults old new (Some at) faults =
    (old ≤ new) × (Rose at faults → Rose old new) × (¬ Rose at faults → new ≡ old)
