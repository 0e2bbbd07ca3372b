-- A disk in memory, as contracts see it, and how its calls answer (own).
use Rattle.std.specs.Prelude.{ℕ, ◌≡◌, ◌⊎◌, Bool, true, false, List, [], ◌∷◌, ◌++◌, Result, Ok, Err}
use Rattle.io_edge.specs.Memory.{fails, raised}
use Rattle.disk_edge.specs.Calls.{content}
use Rattle.disk_edge.specs.declared.change.Change.{Change}
use Rattle.disk_edge.specs.declared.change.Change.TheVariants.{Synced}

-- a disk: its first content, the calls since that may change what a stop leaves, oldest first, how
-- many calls were made, the numbers of the calls that fail, and how many failed
pub record DiskState : Type 0 where
  pub first : List ℕ
  pub since : List Change
  pub calls : ℕ
  pub failing : List ℕ
  pub faults : ℕ

-- a disk of these bytes, before its first call
abbrev pub fresh_disk : List ℕ → List ℕ → DiskState
fresh_disk bytes failing =
    record { first = bytes; since = []; calls = 0; failing = failing; faults = 0 }

-- what a read gives
abbrev pub content_of : DiskState → List ℕ
content_of s = content s.first s.since

-- whether the next call is to fail
abbrev pub fails_next : DiskState → Bool
fails_next s = fails s.calls s.failing

-- the disk after one more call
abbrev pub called : DiskState → DiskState
called s = record s { calls = raised s.calls }

-- the disk after one more call that failed
abbrev pub failed : DiskState → DiskState
failed s = record s { calls = raised s.calls; faults = raised s.faults }

-- the disk with one more call among those that may change what a stop leaves
abbrev pub noted : DiskState → Change → DiskState
noted s change = record s { since = s.since ++ change ∷ [] }

-- a call that changes nothing was answered: a failure exactly where it was to fail
abbrev pub Looks : {T E : Type 0} → DiskState → DiskState → Result T E → Type 0
Looks old new (Ok value) = (fails_next old ≡ false) × (new ≡ called old)
Looks old new (Err fault) = (fails_next old ≡ true) × (new ≡ failed old)

-- a call that changes the file was answered: it is made only where it wasn't to fail, and one that
-- failed is noted as such, or not at all where memory was wanting
abbrev pub Changes : {T E : Type 0} → Change → Change → DiskState → DiskState → Result T E
    → Type 0
Changes made missed old new (Ok value) =
    (fails_next old ≡ false) × (new ≡ noted (called old) made)
Changes made missed old new (Err fault) =
    (new ≡ noted (failed old) missed) ⊎ (new ≡ failed old)

-- a sync was answered: it is made only where it wasn't to fail
abbrev pub Syncs : {T E : Type 0} → DiskState → DiskState → Result T E → Type 0
Syncs old new (Ok value) = (fails_next old ≡ false) × (new ≡ noted (called old) Synced)
Syncs old new (Err fault) = new ≡ failed old
