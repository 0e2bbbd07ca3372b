-- How a run may end: what it has written, and why (own).
use Rattle.std.specs.Prelude.{◌≡◌, ℕ, ◌⊎◌, List, [], ◌∷◌, Option, Some, None, IfSome}
use Rattle.io_edge.specs.Edge.{Appends, AppendsPrefix, Rose}
use Rattle.tuple_values.specs.Document.{ByteList}
use Rattle.command_words.specs.Commands.{command_of}
use Rattle.command_words.specs.Program.{MayRefuse, MayShow}
use Rattle.command_words.specs.declared.command.Command.{Command}
use Rattle.command_words.specs.declared.command.Command.TheVariants.{Eval, Script, Serve, Load}
use Rattle.load_rules.specs.Summary.{load_text}
use Rattle.stream_commands.specs.Commands.{IsAnswered, IsRefused, IsBroken, IsCut, IsInPart, IsStarved, IsServed, IsStopped}
use Rattle.stream_commands.specs.Commands.{HasInput, HasOutput, IsEval, IsScript, IsServer, IsUntouched}
use Rattle.stream_commands.specs.Lines.{line_of, status_of}
use Rattle.stream_commands.specs.declared.ending.Ending.{Ending}
use Rattle.stream_commands.specs.declared.ending.Ending.TheVariants.{Done, Shown, InputFailed, OutputFailed, DoorsFailed}
use Rattle.stream_commands.specs.declared.ending.Ending.TheVariants.{WordsRefused, WordsTold, Faulty, OutOfMemory, InputCut, MessageRefused}

-- what a command has written at an ending, for an input that was told to have these bytes and has
-- these left
abbrev pub WritesFor : Ending → Option Command → List ℕ → Option (List ℕ) → Option (List ℕ)
    → Option (List ℕ) → Type 0
WritesFor Done command all left old new = IsAnswered command all left old new
WritesFor Shown command all left old new = IsAnswered command all left old new
WritesFor InputFailed command all left old new = IsBroken command all left old new
WritesFor OutputFailed command all left old new = IsInPart command all left old new
WritesFor DoorsFailed command all left old new = IsServed command all left old new
WritesFor WordsRefused command all left old new = IsUntouched all left old new
WritesFor (WordsTold text) command all left old new = IsUntouched all left old new
WritesFor Faulty command all left old new = IsRefused command all left old new
WritesFor OutOfMemory command all left old new = IsStarved command all left old new
WritesFor InputCut command all left old new = IsCut command all left old new
WritesFor (MessageRefused status) command all left old new = IsStopped command status all left old new

-- the same, where the input tells its bytes
abbrev pub Writes : Ending → Option Command → Option (List ℕ) → Option (List ℕ) → Option (List ℕ)
    → Option (List ℕ) → Type 0
Writes end command had left old new = IfSome had (λ all. WritesFor end command all left old new)

-- of a load a first part of its summary is written at each ending, and all of it at 0, whatever is
-- known of its input
abbrev pub TellsLoad : Option Command → Ending → Option (List ℕ) → Option (List ℕ) → Type 0
TellsLoad None end old new = Unit {0}
TellsLoad (Some (Eval names)) end old new = Unit {0}
TellsLoad (Some (Script names)) end old new = Unit {0}
TellsLoad (Some (Serve settings names)) end old new = Unit {0}
TellsLoad (Some (Load n)) end old new =
    (status_of end ≡ 0 → Appends old new (load_text n)) × AppendsPrefix old new (load_text n)

-- how often input and output had failed before, and have failed after
pub record Counts : Type 0 where
  pub input_old : ℕ
  pub input_new : ℕ
  pub output_old : ℕ
  pub output_new : ℕ

-- one of these counts rose
abbrev pub HasOneRisen : List ℕ → List ℕ → Type 0
HasOneRisen [] [] = ⊥
HasOneRisen [] (b ∷ new) = ⊥
HasOneRisen (a ∷ old) [] = ⊥
HasOneRisen (a ∷ old) (b ∷ new) = Rose a b ⊎ HasOneRisen old new

-- a count of faults rose, where the ending is a failure of input or output
abbrev pub HasRisen : Ending → Counts → Type 0
HasRisen Done counts = Unit {0}
HasRisen Shown counts = Unit {0}
HasRisen InputFailed counts = Rose counts.input_old counts.input_new
HasRisen OutputFailed counts = Rose counts.output_old counts.output_new
HasRisen DoorsFailed counts = Unit {0}
HasRisen WordsRefused counts = Unit {0}
HasRisen (WordsTold text) counts = Unit {0}
HasRisen Faulty counts = Unit {0}
HasRisen OutOfMemory counts = Unit {0}
HasRisen InputCut counts = Unit {0}
HasRisen (MessageRefused status) counts = Unit {0}

-- how often each door has failed, by how often it had before: one has where a door failed, none where
-- all is done, and none that nothing was asked of; where memory was wanting, some may have
abbrev pub HasCounted : Ending → List ℕ → List ℕ → Type 0
HasCounted Done old new = new ≡ old
HasCounted Shown old new = new ≡ old
HasCounted InputFailed old new = new ≡ old
HasCounted OutputFailed old new = new ≡ old
HasCounted DoorsFailed old new = HasOneRisen old new
HasCounted WordsRefused old new = new ≡ old
HasCounted (WordsTold text) old new = new ≡ old
HasCounted Faulty old new = new ≡ old
HasCounted OutOfMemory old new = Unit {0}
HasCounted InputCut old new = new ≡ old
HasCounted (MessageRefused status) old new = new ≡ old

-- how the run of a command may end: only an expression has a fault, only a script is cut short or
-- stopped, only of a server a door fails, and what it has not can't fail
abbrev pub IsEndingOf : Command → Ending → Type 0
IsEndingOf command Done = Unit {0}
IsEndingOf command Shown = ⊥
IsEndingOf command InputFailed = HasInput command
IsEndingOf command OutputFailed = HasOutput command
IsEndingOf command DoorsFailed = IsServer command
IsEndingOf command WordsRefused = ⊥
IsEndingOf command (WordsTold text) = ⊥
IsEndingOf command Faulty = IsEval command
IsEndingOf command OutOfMemory = Unit {0}
IsEndingOf command InputCut = IsScript command
IsEndingOf command (MessageRefused status) = IsScript command

-- how a run may end whose words are no command: they are refused, by a text only where they may be so;
-- or they ask for a text, which is shown, unless output fails
abbrev pub IsEndingWithout : List ByteList → Ending → Type 0
IsEndingWithout words Done = ⊥
IsEndingWithout words Shown = MayShow words
IsEndingWithout words InputFailed = ⊥
IsEndingWithout words OutputFailed = MayShow words
IsEndingWithout words DoorsFailed = ⊥
IsEndingWithout words WordsRefused = Unit {0}
IsEndingWithout words (WordsTold text) = MayRefuse words
IsEndingWithout words Faulty = ⊥
IsEndingWithout words OutOfMemory = ⊥
IsEndingWithout words InputCut = ⊥
IsEndingWithout words (MessageRefused status) = ⊥

-- how a run may end of these words, which are this command or none
abbrev pub EndsFor : List ByteList → Option Command → Ending → Type 0
EndsFor words None end = IsEndingWithout words end
EndsFor words (Some command) end = IsEndingOf command end

-- the words are those of such an ending
abbrev pub HasWords : Ending → List ByteList → Type 0
HasWords end words = EndsFor words (command_of words) end

-- the status with which a command ends where neither input nor output nor a door failed
abbrev pub IsCompletion : Option Command → ℕ → Type 0
IsCompletion None status = ⊥
IsCompletion (Some (Eval names)) status = (status ≡ 0) ⊎ (status ≡ 3) ⊎ (status ≡ 4)
IsCompletion (Some (Script names)) status = (status ≡ 0) ⊎ (status ≡ 4) ⊎ (status ≡ 5)
IsCompletion (Some (Serve settings names)) status = (status ≡ 0) ⊎ (status ≡ 4)
IsCompletion (Some (Load n)) status = (status ≡ 0) ⊎ (status ≡ 4)

-- why a run ended so: the words, and a count of faults that rose
abbrev pub HasCause : Ending → List ByteList → Counts → Type 0
HasCause end words counts = HasWords end words × HasRisen end counts

-- the run ended with this status, for a cause that its line names, and has written and left what
-- belongs to it
pub record IsToldEnding (status : ℕ) (words : List ByteList) (counts : Counts)
    (said : ByteList → Type 0) (wrote left : Ending → Type 0) : Type 0 where
  pub ending : Ending
  pub is : status ≡ status_of ending
  pub line : said (line_of ending)
  pub cause : HasCause ending words counts
  pub written : wrote ending
  pub doors : left ending
