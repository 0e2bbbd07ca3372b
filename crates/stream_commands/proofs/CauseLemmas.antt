-- Why a run ended so, by what was read of its words.
use Rattle.std.proofs.Common.{◌≡◌, ℕ, List, refl, sym, subst, inl, inr}
use Rattle.std.specs.Prelude.{Option, Some, None}
use Rattle.io_edge.specs.Edge.{Rose}
use Rattle.tuple_values.specs.Document.{ByteList}
use Rattle.command_words.specs.Commands.{command_of}
use Rattle.command_words.specs.Grammar as grammar
use Rattle.command_words.specs.Program.{MayShow}
use Rattle.command_words.specs.declared.command.Command.{Command}
use Rattle.command_words.specs.declared.command.Command.TheVariants.{Eval, Script, Serve, Load}
use Rattle.command_words.proofs.CommandLemmas.{command_read}
use Rattle.stream_commands.specs.Commands.{IsThere, IsCommand}
use Rattle.stream_commands.specs.Endings.{Counts, EndsFor, HasCause, HasCounted, HasOneRisen}
use Rattle.stream_commands.specs.Endings.{HasRisen, HasWords, IsCompletion}
use Rattle.stream_commands.specs.declared.ending.Ending.{Ending}
use Rattle.stream_commands.specs.Lines.{status_of}
use Rattle.stream_commands.specs.declared.ending.Ending.TheVariants.{Done, Shown, InputFailed, OutputFailed, DoorsFailed}
use Rattle.stream_commands.specs.declared.ending.Ending.TheVariants.{WordsRefused, WordsTold, Faulty, OutOfMemory, InputCut, MessageRefused}

-- words that say a command are one
pub readable_command : (words : List ByteList) → grammar.IsReadable words → IsCommand words
readable_command words (command, w) =
    subst IsThere (sym (command_read words command w)) tt

-- any command may want memory
pub may_want : (words : List ByteList) (command : Option Command) → IsThere command
    → EndsFor words command OutOfMemory
may_want words None is = absurd is
may_want words (Some command) is = tt

-- the status is 2 only where there is no command
two_for : (words : List ByteList) (command : Option Command) (end : Ending)
    → EndsFor words command end → status_of end ≡ 2 → ¬ (IsThere command)
two_for words None end is two = λ there. there
two_for words (Some command) Done is two = absurd (cc)
two_for words (Some command) Shown is two = absurd is
two_for words (Some command) InputFailed is two = absurd (cc)
two_for words (Some command) OutputFailed is two = absurd (cc)
two_for words (Some command) DoorsFailed is two = absurd (cc)
two_for words (Some command) WordsRefused is two = absurd is
two_for words (Some command) (WordsTold text) is two = absurd is
two_for words (Some command) Faulty is two = absurd (cc)
two_for words (Some command) OutOfMemory is two = absurd (cc)
two_for words (Some command) InputCut is two = absurd (cc)
two_for words (Some command) (MessageRefused status) is two = absurd (cc)

pub two_alone : (words : List ByteList) (end : Ending) → HasWords end words → status_of end ≡ 2
    → ¬ (IsCommand words)
two_alone words end is two = two_for words (command_of words) end is two

-- and it is where there is none, unless a text may be shown
none_for : (words : List ByteList) (command : Option Command) (end : Ending)
    → EndsFor words command end → ¬ (IsThere command) → ¬ (MayShow words) → status_of end ≡ 2
none_for words None Done is out hidden = absurd is
none_for words None Shown is out hidden = absurd (hidden is)
none_for words None InputFailed is out hidden = absurd is
none_for words None OutputFailed is out hidden = absurd (hidden is)
none_for words None DoorsFailed is out hidden = absurd is
none_for words None WordsRefused is out hidden = refl
none_for words None (WordsTold text) is out hidden = refl
none_for words None Faulty is out hidden = absurd is
none_for words None OutOfMemory is out hidden = absurd is
none_for words None InputCut is out hidden = absurd is
none_for words None (MessageRefused status) is out hidden = absurd is
none_for words (Some command) end is out hidden = absurd (out tt)

pub none_two : (words : List ByteList) (end : Ending) → HasWords end words → ¬ (IsCommand words)
    → ¬ (MayShow words) → status_of end ≡ 2
none_two words end is out hidden = none_for words (command_of words) end is out hidden

-- where nothing failed a command is answered, or wants memory
module _ (counts : Counts) (old new : List ℕ) (input : ¬ (Rose counts.input_old counts.input_new))
    (output : ¬ (Rose counts.output_old counts.output_new)) (doors : ¬ (HasOneRisen old new)) where
  completes_for : (words : List ByteList) (command : Option Command) (end : Ending)
      → EndsFor words command end → IsThere command → HasRisen end counts
      → HasCounted end old new → IsCompletion command (status_of end)
  completes_for words None end is there risen counted = absurd there
  completes_for words (Some (Eval names)) Done is there risen counted = inl refl
  completes_for words (Some (Eval names)) Shown is there risen counted = absurd is
  completes_for words (Some (Eval names)) InputFailed is there risen counted = absurd (input risen)
  completes_for words (Some (Eval names)) OutputFailed is there risen counted =
      absurd (output risen)
  completes_for words (Some (Eval names)) DoorsFailed is there risen counted = absurd is
  completes_for words (Some (Eval names)) WordsRefused is there risen counted = absurd is
  completes_for words (Some (Eval names)) (WordsTold text) is there risen counted = absurd is
  completes_for words (Some (Eval names)) Faulty is there risen counted = inr (inl refl)
  completes_for words (Some (Eval names)) OutOfMemory is there risen counted = inr (inr refl)
  completes_for words (Some (Eval names)) InputCut is there risen counted = absurd is
  completes_for words (Some (Eval names)) (MessageRefused status) is there risen counted = absurd is
  completes_for words (Some (Script names)) Done is there risen counted = inl refl
  completes_for words (Some (Script names)) Shown is there risen counted = absurd is
  completes_for words (Some (Script names)) InputFailed is there risen counted =
      absurd (input risen)
  completes_for words (Some (Script names)) OutputFailed is there risen counted =
      absurd (output risen)
  completes_for words (Some (Script names)) DoorsFailed is there risen counted = absurd is
  completes_for words (Some (Script names)) WordsRefused is there risen counted = absurd is
  completes_for words (Some (Script names)) (WordsTold text) is there risen counted = absurd is
  completes_for words (Some (Script names)) Faulty is there risen counted = absurd is
  completes_for words (Some (Script names)) OutOfMemory is there risen counted = inr (inl refl)
  completes_for words (Some (Script names)) InputCut is there risen counted = inr (inr refl)
  completes_for words (Some (Script names)) (MessageRefused status) is there risen counted =
      inr (inr refl)
  completes_for words (Some (Serve settings names)) Done is there risen counted = inl refl
  completes_for words (Some (Serve settings names)) Shown is there risen counted = absurd is
  completes_for words (Some (Serve settings names)) InputFailed is there risen counted = absurd is
  completes_for words (Some (Serve settings names)) OutputFailed is there risen counted = absurd is
  completes_for words (Some (Serve settings names)) DoorsFailed is there risen counted =
      absurd (doors counted)
  completes_for words (Some (Serve settings names)) WordsRefused is there risen counted = absurd is
  completes_for words (Some (Serve settings names)) (WordsTold text) is there risen counted =
      absurd is
  completes_for words (Some (Serve settings names)) Faulty is there risen counted = absurd is
  completes_for words (Some (Serve settings names)) OutOfMemory is there risen counted = inr refl
  completes_for words (Some (Serve settings names)) InputCut is there risen counted = absurd is
  completes_for words (Some (Serve settings names)) (MessageRefused status) is there risen counted =
      absurd is
  completes_for words (Some (Load n)) Done is there risen counted = inl refl
  completes_for words (Some (Load n)) Shown is there risen counted = absurd is
  completes_for words (Some (Load n)) InputFailed is there risen counted = absurd is
  completes_for words (Some (Load n)) OutputFailed is there risen counted = absurd (output risen)
  completes_for words (Some (Load n)) DoorsFailed is there risen counted = absurd is
  completes_for words (Some (Load n)) WordsRefused is there risen counted = absurd is
  completes_for words (Some (Load n)) (WordsTold text) is there risen counted = absurd is
  completes_for words (Some (Load n)) Faulty is there risen counted = absurd is
  completes_for words (Some (Load n)) OutOfMemory is there risen counted = inr refl
  completes_for words (Some (Load n)) InputCut is there risen counted = absurd is
  completes_for words (Some (Load n)) (MessageRefused status) is there risen counted = absurd is

  pub completes : (words : List ByteList) (end : Ending) → HasCause end words counts
      → HasCounted end old new → IsCommand words → IsCompletion (command_of words) (status_of end)
  completes words end cause counted there =
      completes_for words (command_of words) end cause.0 there cause.1 counted
