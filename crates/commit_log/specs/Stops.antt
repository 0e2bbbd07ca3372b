-- What a stop leaves of the steps of a log (own).
use Rattle.std.specs.Prelude.{ℕ, ◌≡◌, ◌⊎◌, ◌≤◌, List, length, Option}
use Rattle.disk_edge.specs.Disk.{LeavesOnly, NoMore}
use Rattle.commit_log.specs.Frames.{at_rest}
use Rattle.log_codec.specs.Steps.{body_of}
use Rattle.commit_log.specs.Steps.{bodies_of, AreSteps, IsStep, Step}
use Rattle.commit_log.specs.Disks.{IsClosed, IsGated}

-- the file of these steps, with nothing behind the byte that ends them
abbrev pub file_of : List Step → List ℕ
file_of steps = at_rest (bodies_of steps)

-- a file of these steps, whatever follows the byte that ends them
abbrev pub KeepsSteps : List Step → List ℕ → Type 0
KeepsSteps steps file = IsClosed (bodies_of steps) file

-- a file of these steps, whatever follows the byte that ends them, or that of these and one more
abbrev pub Halfway : List Step → Step → List ℕ → Type 0
Halfway steps step file = IsGated (bodies_of steps) (body_of step) file

-- at most the nine bytes of a new file
abbrev pub IsBegun : List ℕ → Type 0
IsBegun file = length file ≤ 9

-- what a stop may leave between two appends, or within one of this step
pub record AfterStop (steps : List Step) (step : Step) (file : List ℕ) : Type 0 where
  pub fits : AreSteps steps
  pub step_fits : IsStep step
  pub left : (file ≡ file_of steps) ⊎ Halfway steps step file

-- a disk tells the same, and a stop at any moment since left what one might have left before
pub record IsUntouched {D : Type 0} (seen : D → Option (List ℕ)) (may_leave : D → List ℕ → Type 0)
    (moment : D → ℕ) (left_since : D → ℕ → List ℕ → Type 0) (old new : D) : Type 0 where
  pub told : seen new ≡ seen old
  pub now : NoMore (may_leave old) (may_leave new)
  pub any_moment : LeavesOnly moment left_since old new (may_leave old)
