-- What serving a worker leaves (own).
use Rattle.std.specs.Prelude.{ℕ, ◌≡◌, ◌++◌, ◌⊎◌, Some, codes}
use Rattle.std.specs.Fmt.{decimal}
use Rattle.tuple_values.specs.Document.{ByteList}
use Rattle.shard_versions.specs.declared.cut.Record.{Record}
use Rattle.exchange_rules.specs.Following.{Writer, cleared}
use Rattle.running_site.specs.Passes.{writer_of}
use Rattle.running_site.specs.Sites.{layout_at}
use Rattle.running_site.specs.declared.site.SiteOf.{SiteOf}
use Rattle.running_site.specs.Plain.{SiteCell}
use Rattle.site_threads.specs.Work.{Call, HasWorked, IsRun, IsUpdateOf}
use Rattle.site_threads.specs.Workers.{number_in, IsWorkerAt, Worker}
use Rattle.site_threads.specs.declared.workers.Task.{Task}
use Rattle.site_threads.specs.declared.workers.Task.TheVariants.{Index, Deliver, Overtake, ComeLate}

-- the name of the collection of this number
abbrev pub name_of : ℕ → ByteList
name_of number = codes "c" ++ decimal number

-- a call of this task: an update or a commit of its collection, the run of a topic, or, where the
-- task overtakes another, either of them, with the first collection
abbrev pub IsCallOf : Task → Call → Type 0
IsCallOf (Index collection first batches) call = IsUpdateOf (name_of collection) call
IsCallOf (Deliver wanted) call = IsRun call
IsCallOf Overtake call = IsUpdateOf (name_of 0) call ⊎ IsRun call
IsCallOf ComeLate call = IsRun call

-- a task was carried out by calls of it alone: the record has the looks and own steps of just these
-- calls, and the pass, whose record begins anew, has seen what they saw. It is of the same site, and
-- has its number
pub record IsServed {A B C D E : Type 0} (site : SiteOf SiteCell A B C D E) (old new : Worker)
    : Type 0 where
  pub own : IsWorkerAt site new
  pub number : number_in new ≡ number_in old
  pub task : new.task ≡ old.task
  pub last : Writer
  pub work : HasWorked (layout_at site) (IsCallOf old.task) (writer_of old.pass) last
  pub gained : Record
  pub recorded : new.record ≡ Some gained
  pub marks : gained.marks ≡ last.marks
  pub steps : gained.own ≡ last.own
  pub rest : writer_of new.pass ≡ cleared last
