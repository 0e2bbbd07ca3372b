-- The workers of a load: the writers of its site, each with a pass, and what they leave (own).
use Rattle.std.specs.Prelude.{ℕ, zero, suc, ◌≡◌, ◌++◌, ◌∷◌, [], List, Option, nat_lt, true, if◌then◌else◌}
use Rattle.exchange_rules.specs.Following.{Writer}
use Rattle.running_site.specs.Plain.{SiteCell}
use Rattle.running_site.specs.Passes.{number_of, writer_of}
use Rattle.running_site.specs.Plain.{TablePass}
use Rattle.running_site.specs.Sites.{IsPassAt}
use Rattle.running_site.specs.declared.pass.PassOf.{PassOf}
use Rattle.running_site.specs.declared.site.SiteOf.{SiteOf}
use Rattle.expr_check.specs.Views.{tree_of}
use Rattle.load_rules.specs.Finished.{HasEnded, HasWorked}
use Rattle.load_rules.specs.declared.role.Role.{Role}
use Rattle.load_rules.specs.declared.role.Role.TheVariants.{Indexer, Reader, Runner}
use Rattle.load_mix.specs.Queries.{query_tree}
use Rattle.load_mix.specs.Topic.{load_tree}
use Rattle.load_mix.specs.declared.work.Plan.{Plan}
use Rattle.load_mix.specs.declared.worker.WorkerOf.{WorkerOf}

-- a worker whose pass is one of a running site
abbrev pub Worker : Type 0
Worker = WorkerOf (PassOf TablePass)

-- what its role is
abbrev pub role_in : Worker → Role
role_in worker = worker.role

-- the writer that its pass is
abbrev pub writer_at : Worker → Writer
writer_at worker = writer_of worker.pass

-- a pass without its record and its time; and that of a worker
abbrev pub inside_of : PassOf TablePass → Option TablePass
inside_of pass = pass.pass

abbrev pub inside_in : Worker → Option TablePass
inside_in worker = worker.pass.pass

-- the role of the writer at this place, counted from 0
abbrev pub role_at : ℕ → Role
role_at place =
    if nat_lt place 4 then Indexer place else (if nat_lt place 6 then Reader else Runner)

-- the roles of the first so many
abbrev pub roles_to : ℕ → List Role
roles_to zero = []
roles_to (suc n) = roles_to n ++ role_at n ∷ []

-- the plan has the topic's update of a load, and its query
pub record IsPlan (plan : Plan) : Type 0 where
  pub update : tree_of plan.update ≡ load_tree
  pub query : tree_of plan.query ≡ query_tree

-- the worker's pass was made for this site, and has no turn
abbrev pub IsWorkerAt : {A B C D E : Type 0} → SiteOf SiteCell A B C D E → Worker → Type 0
IsWorkerAt site worker = IsPassAt site worker.pass

-- a worker worked in its thread: where it is done, it has done what its role is in a load of so
-- many
-- documents
pub record IsWorked {A B C D E : Type 0} (n : ℕ) (site : SiteOf SiteCell A B C D E)
    (old new : Worker) : Type 0 where
  pub own : IsPassAt site new.pass
  pub number : number_of new.pass ≡ number_of old.pass
  pub role : new.role ≡ old.role
  pub done : new.is_done ≡ true → HasWorked n old.role (writer_of old.pass) (writer_of new.pass)

-- the worker was done, and this is its pass behind what its role ends with
pub record IsEnded {A B C D E : Type 0} (site : SiteOf SiteCell A B C D E) (worker : Worker)
    (pass : PassOf TablePass) : Type 0 where
  pub own : IsPassAt site pass
  pub done : worker.is_done ≡ true
  pub number : number_of pass ≡ number_of worker.pass
  pub ended : HasEnded worker.role (writer_of worker.pass) (writer_of pass)
