-- What a command leaves of a row of doors (own).
use Rattle.std.specs.Prelude.{ℕ, ◌≡◌, List, Bool, true, false, Option, Some, None}
use Rattle.once_core.specs.declared.world.Histories.{Histories}
use Rattle.command_words.specs.declared.command.Command.{Command}
use Rattle.command_words.specs.declared.command.Command.TheVariants.{Eval, Script, Serve, Load}
use Rattle.command_words.specs.declared.command.Settings.{Settings}
use Rattle.site_server.specs.Doors.{Doors}
use Rattle.site_server.specs.Ended.{IsEnded, IsGivenBack}
use Rattle.site_server.specs.declared.serving.Serving.{Serving}
use Rattle.stream_commands.specs.DoorRows.{Row}
use Rattle.stream_commands.specs.declared.ending.Ending.{Ending}
use Rattle.stream_commands.specs.declared.ending.Ending.TheVariants.{Done, Shown, InputFailed, OutputFailed, DoorsFailed}
use Rattle.stream_commands.specs.declared.ending.Ending.TheVariants.{WordsRefused, WordsTold, Faulty, OutOfMemory, InputCut, MessageRefused}

-- how a command serves, with the limit of a shard
abbrev pub serving_of : Settings → Serving
serving_of s = record {
  port = s.port;
  workers = s.workers;
  runners = s.runners;
  limit = 268435456;
}

-- how a server ends, where a door failed or none did
abbrev pub ending_by : Bool → Ending
ending_by true = DoorsFailed
ending_by false = Done

-- the doors are as they were, and no site was closed
abbrev pub HasLeftRow : {D : Type 0} → List D → Row D → Type 0
HasLeftRow old new = (new.doors ≡ old) × (new.ended ≡ None)

-- a server served the doors to the end of its site, and one of them failed or none did; any other
-- command leaves the row
abbrev pub HasServedRow : {D I O : Type 0} → Doors D I O → (ℕ → Type 0) → Option Command → Bool → List D
    → Row D → Type 0
HasServedRow kind tells None failed old new = HasLeftRow old new
HasServedRow kind tells (Some (Eval names)) failed old new = HasLeftRow old new
HasServedRow kind tells (Some (Script names)) failed old new = HasLeftRow old new
HasServedRow kind tells (Some (Serve settings names)) failed old new =
    (histories : Histories) × (new.ended ≡ Some histories)
    × IsEnded kind tells names (serving_of settings) old new.doors
    (record { histories = histories; failed = failed })
HasServedRow kind tells (Some (Load n)) failed old new = HasLeftRow old new

-- memory was wanting: a server has given the doors back, and no site was closed
abbrev pub HasGivenBack : {D I O : Type 0} → Doors D I O → (ℕ → Type 0) → Option Command → List D → Row D
    → Type 0
HasGivenBack kind tells None old new = HasLeftRow old new
HasGivenBack kind tells (Some (Eval names)) old new = HasLeftRow old new
HasGivenBack kind tells (Some (Script names)) old new = HasLeftRow old new
HasGivenBack kind tells (Some (Serve settings names)) old new =
    (new.ended ≡ None)
    × IsGivenBack kind tells names (serving_of settings) old new.doors
HasGivenBack kind tells (Some (Load n)) old new = HasLeftRow old new

-- what is left of the row at an ending
abbrev pub LeavesRow : {D I O : Type 0} → Doors D I O → (ℕ → Type 0) → Option Command → List D → Row D
    → Ending → Type 0
LeavesRow kind tells command old new Done = HasServedRow kind tells command false old new
LeavesRow kind tells command old new Shown = HasLeftRow old new
LeavesRow kind tells command old new InputFailed = HasLeftRow old new
LeavesRow kind tells command old new OutputFailed = HasLeftRow old new
LeavesRow kind tells command old new DoorsFailed = HasServedRow kind tells command true old new
LeavesRow kind tells command old new WordsRefused = HasLeftRow old new
LeavesRow kind tells command old new (WordsTold text) = HasLeftRow old new
LeavesRow kind tells command old new Faulty = HasLeftRow old new
LeavesRow kind tells command old new OutOfMemory = HasGivenBack kind tells command old new
LeavesRow kind tells command old new InputCut = HasLeftRow old new
LeavesRow kind tells command old new (MessageRefused status) = HasLeftRow old new
