-- A folder in memory and one of the system, as contracts see them (own).
use Rattle.std.specs.Prelude.{ℕ, ◌≡◌, true, false, List, [], Some, None, Result, Ok, Err}
use Rattle.io_edge.specs.Memory.{fails, raised}
use Rattle.disk_edge.specs.Calls.{MayLeave}
use Rattle.disk_edge.specs.Folder.{Folder, GoesOut, IsNew}
use Rattle.disk_edge.specs.Memory.{content_of, DiskState}
use Rattle.disk_edge.specs.Places.{held_of, out_of}
use Rattle.disk_edge.specs.declared.named.Slot.{Slot}

-- a folder in memory: what is kept by name, how many calls of `disk` were made, the numbers of
-- those that fail, and how many failed or brought back a disk that had failed
pub record MemoryFolder : Type 0 where
  pub slots : List (Slot DiskState)
  pub calls : ℕ
  pub failing : List ℕ
  pub faults : ℕ

-- a folder in memory of no disk, before its first call
abbrev pub fresh_folder : List ℕ → MemoryFolder
fresh_folder failing = record { slots = []; calls = 0; failing = failing; faults = 0 }

-- the disks that a folder in memory holds, and those that are out
abbrev pub folder_of : MemoryFolder → Folder DiskState
folder_of s = record { held = held_of s.slots; out = out_of s.slots }

-- the disk of a name goes out of a folder in memory
abbrev pub HandsOut : MemoryFolder → MemoryFolder → List ℕ → DiskState → Type 0
HandsOut old new name disk =
    GoesOut true (λ d. d.faults) (IsNew (λ d. Some (content_of d)) (λ d. MayLeave d.first d.since))
    (folder_of old) (folder_of new) name disk

-- a call of `disk` was answered: a disk is given only where the call wasn't to fail
abbrev pub Gives : {T E : Type 0} → MemoryFolder → MemoryFolder → Result T E → Type 0
Gives old new (Ok disk) =
    (fails old.calls old.failing ≡ false)
    × (new ≡ record old { slots = new.slots; calls = raised old.calls })
Gives old new (Err fault) =
    new ≡ record old { calls = raised old.calls; faults = raised old.faults }

-- a folder of the system: the names that were asked for, with those that are out, and how often it
-- failed or a disk came back that had failed
pub record SystemFolder : Type 0 where
  pub slots : List (Slot (Unit {0}))
  pub faults : ℕ

-- a folder of the system before its first call
abbrev pub fresh_names : SystemFolder
fresh_names = record { slots = []; faults = 0 }

-- the names that are out of a folder of the system, which doesn't tell what it holds
abbrev pub names_of : {D : Type 0} → SystemFolder → Folder D
names_of s = record { held = λ name. None; out = out_of s.slots }
