-- The replay of events (own).
use Rattle.std.specs.Prelude.{ℕ, ◌≡◌, ◌≤◌, List, length, take, Option, Some, None}
use Rattle.std.specs.List.{slice_get}
use Rattle.tuple_values.specs.declared.names.NameShards.{NameShards}
use Rattle.once_core.specs.Worlds.{IsAllowedIn, AreAllowed, run, nothing_yet}
use Rattle.once_core.specs.declared.event.Event.{Event}
use Rattle.once_core.specs.declared.world.World.{World}

-- the first so many events are allowed, each after those before it, and lead to this world
pub record IsRun (names : List NameShards) (events : List Event) (upto : ℕ) (w : World)
    : Type 0 where
  pub within : upto ≤ length events
  pub allowed : AreAllowed names (take upto events) (nothing_yet names)
  pub leads : w ≡ run (take upto events) (nothing_yet names)

-- there is an event, and it isn't allowed in this world
abbrev pub IsRefused : List NameShards → World → Option Event → Type 0
IsRefused names w None = ⊥
IsRefused names w (Some e) = ¬ (IsAllowedIn names w e)

-- where none is refused the world is that after all events, which are allowed; where one is, it is
-- that after those before it, which are allowed, and that one isn't
abbrev pub IsReplay : List NameShards → List Event → World → Option ℕ → Type 0
IsReplay names events w None = IsRun names events (length events) w
IsReplay names events w (Some at) =
    IsRun names events at w × IsRefused names w (slice_get events at)
