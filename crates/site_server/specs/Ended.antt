-- What a server leaves at its end (own).
use Rattle.std.specs.Prelude.{ℕ, suc, ◌≡◌, ◌≢◌, ◌⊎◌, ◌+◌, ◌++◌, List, [], ◌∷◌, All, Bool, Contains, length, map}
use Rattle.std.specs.List.{AllByRecursion, list_any}
use Rattle.tuple_values.specs.declared.names.NameShards.{NameShards}
use Rattle.once_core.specs.Law.{IsLaw}
use Rattle.exchange_rules.specs.Cells.{author_of, Log}
use Rattle.exchange_rules.specs.Following.{Writer}
use Rattle.exchange_rules.specs.Rows.{Layout}
use Rattle.turn_table.specs.Histories.{GrewBy}
use Rattle.stream_site.specs.Logs.{logs_in}
use Rattle.running_site.specs.Passes.{layout_in, new_writer, numbers_to}
use Rattle.pass_calls.specs.declared.doors.DoorRun.{DoorRun}
use Rattle.site_server.specs.Doors.{Doors, IsDoorServed}
use Rattle.site_server.specs.declared.serving.Served.{Served}
use Rattle.site_server.specs.declared.serving.Serving.{Serving}

-- a worker that ended: its door as it was and as it is, how the serving went, and the writer that
-- it was at its end
pub record Worked (D : Type 0) : Type 0 where
  pub old : D
  pub new : D
  pub run : DoorRun
  pub writer : Writer

abbrev pub old_in : {D : Type 0} → Worked D → D
old_in x = x.old

abbrev pub new_in : {D : Type 0} → Worked D → D
new_in x = x.new

abbrev pub has_failed : {D : Type 0} → Worked D → Bool
has_failed x = x.run.failed

-- the worker with this number began as a new writer, and served its door
pub record IsWorked {D I O : Type 0} (kind : Doors D I O) (tells : ℕ → Type 0) (l : Layout)
    (number : ℕ) (x : Worked D) : Type 0 where
  pub numbered : x.writer.me ≡ number
  pub served : IsDoorServed kind tells l (new_writer l.names number) x.writer x.old x.new x.run

-- these workers did, with the numbers from this one on
abbrev pub AreWorked : {D I O : Type 0} → Doors D I O → (ℕ → Type 0) → Layout → ℕ → List (Worked D)
    → Type 0
AreWorked kind tells l number [] = Unit {0}
AreWorked kind tells l number (x ∷ workers) =
    IsWorked kind tells l number x × AreWorked kind tells l (suc number) workers

-- the first doors of a row were each served by a worker, the others are as they were, and a door
-- failed or none did
pub record IsRowServed {D I O : Type 0} (kind : Doors D I O) (tells : ℕ → Type 0) (l : Layout)
    (count : ℕ) (old new : List D) (failed : Bool) : Type 0 where
  pub workers : List (Worked D)
  pub left : List D
  pub counted : length workers ≡ count
  pub before : old ≡ map old_in workers ++ left
  pub after : new ≡ map new_in workers ++ left
  pub each : AreWorked kind tells l 1 workers
  pub failed_is : failed ≡ list_any has_failed workers

-- the same, where each worker ended as one of these writers
pub record IsRowServedBy {D I O : Type 0} (kind : Doors D I O) (tells : ℕ → Type 0) (l : Layout)
    (count : ℕ) (old new : List D) (failed : Bool) (writers : List Writer) : Type 0 where
  pub row : IsRowServed kind tells l count old new failed
  pub among : AllByRecursion (λ x. Contains writers x.writer) row.workers

-- what a writer has seen begins the logs, behind which no entry carries its number
abbrev pub IsSeenOf : List Log → Writer → Type 0
IsSeenOf logs w = GrewBy (λ entry. author_of entry ≢ w.me) w.seen logs

-- a server ended: its doors were served, and these are the histories with which its site was
-- closed. They keep the law; each entry carries the number of a worker's pass, which have the first
-- numbers, or of a runner's; and just those with a worker's number are the ones that it has seen of
-- its own
pub record IsEnded {D I O : Type 0} (kind : Doors D I O) (tells : ℕ → Type 0)
    (names : List NameShards) (s : Serving) (old new : List D) (served : Served) : Type 0 where
  pub row : IsRowServed kind tells (layout_in names s.limit) s.workers old new served.failed
  pub law : IsLaw names served.histories
  pub signed : All (All (λ entry. Contains (numbers_to (s.workers + s.runners)) (author_of entry)))
      (logs_in served.histories.shards served.histories.book)
  pub seen : AllByRecursion (λ x. IsSeenOf
      (logs_in served.histories.shards served.histories.book) x.writer) row.workers

-- the doors are back in their row: none was served, or they were
abbrev pub IsGivenBack : {D I O : Type 0} → Doors D I O → (ℕ → Type 0) → List NameShards → Serving
    → List D → List D → Type 0
IsGivenBack kind tells names s old new =
    (new ≡ old)
    ⊎ ((failed : Bool) × IsRowServed kind tells (layout_in names s.limit) s.workers old new failed)
