-- Workers at a site, each with a pass (own).
use Rattle.std.specs.Prelude.{ℕ}
use Rattle.running_site.specs.Passes.{number_of}
use Rattle.running_site.specs.Plain.{TablePass}
use Rattle.running_site.specs.Sites.{IsPassAt}
use Rattle.running_site.specs.declared.pass.PassOf.{PassOf}
use Rattle.running_site.specs.declared.site.SiteOf.{SiteOf}
use Rattle.running_site.specs.Plain.{SiteCell}
use Rattle.site_threads.specs.declared.workers.WorkerOf.{WorkerOf}

-- a worker whose pass is one of a running site
abbrev pub Worker : Type 0
Worker = WorkerOf (PassOf TablePass)

-- its pass
abbrev pub pass_in : Worker → PassOf TablePass
pass_in worker = worker.pass

-- the number of its pass
abbrev pub number_in : Worker → ℕ
number_in worker = number_of worker.pass

-- the pass of this worker was made for this site, and has no turn
abbrev pub IsWorkerAt : {A B C D E : Type 0} → SiteOf SiteCell A B C D E → Worker → Type 0
IsWorkerAt site worker = IsPassAt site worker.pass
