-- What one thread of a server does, and what is left of it (own).
use Rattle.std.specs.Prelude.{ℕ, ◌≡◌, Option, Some, None}
use Rattle.exchange_rules.specs.Following.{Writer}
use Rattle.exchange_rules.specs.Rows.{Layout}
use Rattle.running_site.specs.Plain.{SiteCell}
use Rattle.running_site.specs.Passes.{number_of, writer_of}
use Rattle.running_site.specs.Plain.{TablePass}
use Rattle.running_site.specs.Sites.{layout_at, IsPassAt}
use Rattle.running_site.specs.declared.pass.PassOf.{PassOf}
use Rattle.running_site.specs.declared.site.SiteOf.{SiteOf}
use Rattle.pass_calls.specs.declared.doors.DoorRun.{DoorRun}
use Rattle.site_server.specs.Doors.{Doors, IsDoorServed}
use Rattle.site_server.specs.declared.item.ItemOf.{ItemOf}

-- an item whose pass is one of a running site
abbrev pub Item : Type 0 → Type 0
Item D = ItemOf D (PassOf TablePass)

-- its pass was made for this site, and has no turn
abbrev pub IsItemAt : {D A B C E F : Type 0} → SiteOf SiteCell A B C E F → Item D → Type 0
IsItemAt site item = IsPassAt site item.pass

-- what became of a door, where there is one
abbrev pub WasServed : {D I O : Type 0} → Doors D I O → (ℕ → Type 0) → Layout → Writer → Writer
    → Option D → Option D → Option DoorRun → Type 0
WasServed kind tells l w v None new run = new ≡ None
WasServed {D} kind tells l w v (Some old) new run =
    (d : D) × (r : DoorRun) × (new ≡ Some d) × (run ≡ Some r)
    × IsDoorServed kind tells l w v old d r

-- an item was carried out: a worker's door was served by its pass
pub record IsItemServed {D I O A B C E F : Type 0} (kind : Doors D I O) (tells : ℕ → Type 0)
    (site : SiteOf SiteCell A B C E F) (old new : Item D) : Type 0 where
  pub own : IsPassAt site new.pass
  pub number : number_of new.pass ≡ number_of old.pass
  pub door : WasServed kind tells (layout_at site) (writer_of old.pass) (writer_of new.pass)
      old.door new.door new.run
