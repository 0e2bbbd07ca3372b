-- What is told of a load, whatever its input.
use Rattle.std.proofs.Common.{◌≡◌, ℕ, List, refl, sym, subst}
use Rattle.std.specs.Prelude.{Option, Some, None}
use Rattle.io_edge.specs.Edge.{Appends, AppendsPrefix}
use Rattle.command_words.specs.declared.command.Command.{Command}
use Rattle.command_words.specs.declared.command.Command.TheVariants.{Eval, Script, Serve, Load}
use Rattle.load_rules.specs.Summary.{load_text}
use Rattle.stream_commands.specs.Endings.{TellsLoad}
use Rattle.stream_commands.specs.Lines.{status_of}
use Rattle.stream_commands.specs.declared.ending.Ending.{Ending}
use Rattle.stream_commands.specs.declared.ending.Ending.TheVariants.{OutOfMemory}
use Rattle.stream_commands.proofs.WritingLemmas.{nothing_begun}

-- where memory was wanting nothing is
pub load_starved : (command : Option Command) (written : Option (List ℕ))
    → TellsLoad command OutOfMemory written written
load_starved None written = tt
load_starved (Some (Eval names)) written = tt
load_starved (Some (Script names)) written = tt
load_starved (Some (Serve settings names)) written = tt
load_starved (Some (Load n)) written =
    (λ e. absurd (cc), nothing_begun written written (load_text n) refl)

-- so it is told of words that say a load
pub told_of_load : (command : Option Command) (n status : ℕ) (end : Ending)
    (old new : Option (List ℕ)) → command ≡ Some (Load n) → status ≡ status_of end
    → TellsLoad command end old new
    → (status ≡ 0 → Appends old new (load_text n)) × AppendsPrefix old new (load_text n)
told_of_load command n status end old new is ends told =
    subst (λ k. (k ≡ 0 → Appends old new (load_text n)) × AppendsPrefix old new (load_text n))
    (sym ends) (let told' = subst (λ c. TellsLoad c end old new) is told in told')
