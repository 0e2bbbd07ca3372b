-- One of the contents that a stop may leave of a disk in memory (own).
use Rattle.std.specs.Prelude.{ℕ, ◌+◌, ◌==◌, Bool, true, false, if◌then◌else◌, List, [], ◌∷◌, take, drop}
use Rattle.std.specs.List.{list_any}
use Rattle.disk_edge.specs.Calls.{content}
use Rattle.disk_edge.specs.Disk.{written}
use Rattle.disk_edge.specs.Memory.{DiskState}
use Rattle.disk_edge.specs.declared.change.Change.{Change}
use Rattle.disk_edge.specs.declared.change.Change.TheVariants.{Wrote, WriteFailed, Shortened, CutFailed, Synced}

-- whether a call is a sync that was made
abbrev pub is_sync : Change → Bool
is_sync (Wrote from piece) = false
is_sync (WriteFailed from piece) = false
is_sync (Shortened size) = false
is_sync (CutFailed size) = false
is_sync Synced = true

-- how many of these calls there are up to the last sync, and so are on the disk
abbrev pub synced_count : List Change → ℕ
synced_count [] = 0
synced_count (call ∷ calls) =
    if list_any is_sync (call ∷ calls) then synced_count calls + 1 else 0

-- the content with so many bytes of the first of these calls: of a write its first bytes, and a cut
-- where it isn't none
abbrev pub begun : ℕ → List Change → List ℕ → List ℕ
begun bytes [] c = c
begun bytes (Wrote from piece ∷ calls) c = written c from (take bytes piece)
begun bytes (WriteFailed from piece ∷ calls) c = written c from (take bytes piece)
begun bytes (Shortened size ∷ calls) c = if bytes == 0 then c else take size c
begun bytes (CutFailed size ∷ calls) c = if bytes == 0 then c else take size c
begun bytes (Synced ∷ calls) c = c

-- the content at the last sync, with so many of the calls since, and so many bytes of the next
abbrev pub left_after : DiskState → ℕ → ℕ → List ℕ
left_after s calls bytes =
    let made = synced_count s.since + calls in
    begun bytes (drop made s.since) (content s.first (take made s.since))
