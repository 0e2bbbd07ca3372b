-- What each command leaves on output (own).
use Rattle.std.specs.Prelude.{◌≡◌, ℕ, ◌⊎◌, List, Option, Some, None}
use Rattle.tuple_values.specs.Document.{ByteList}
use Rattle.command_words.specs.Commands.{command_of}
use Rattle.command_words.specs.declared.command.Command.{Command}
use Rattle.command_words.specs.declared.command.Command.TheVariants.{Eval, Script, Serve, Load}
use Rattle.load_rules.specs.Summary.{load_text}
use Rattle.stream_commands.specs.Evaluations.{IsEvaluated, IsFaultTold, IsReplyBegun, IsReplyWithin, IsUnanswered}
use Rattle.stream_commands.specs.Scripts.{IsCarriedThrough, IsCutShort, IsScriptBegun}
use Rattle.stream_commands.specs.Scripts.{IsScriptInPart, IsScriptRead, IsStoppedAt}
use Rattle.stream_commands.specs.Texts.{IsShown, IsShownInPart, IsTold, IsToldInPart}

-- there is a command
abbrev pub IsThere : Option Command → Type 0
IsThere None = ⊥
IsThere (Some command) = Unit {0}

-- the words are a command
abbrev pub IsCommand : List ByteList → Type 0
IsCommand words = IsThere (command_of words)

-- it is an expression's
abbrev pub IsEval : Command → Type 0
IsEval (Eval names) = Unit {0}
IsEval (Script names) = ⊥
IsEval (Serve settings names) = ⊥
IsEval (Load n) = ⊥

-- it is a script
abbrev pub IsScript : Command → Type 0
IsScript (Eval names) = ⊥
IsScript (Script names) = Unit {0}
IsScript (Serve settings names) = ⊥
IsScript (Load n) = ⊥

-- it serves connections
abbrev pub IsServer : Command → Type 0
IsServer (Eval names) = ⊥
IsServer (Script names) = ⊥
IsServer (Serve settings names) = Unit {0}
IsServer (Load n) = ⊥

-- it reads input
abbrev pub HasInput : Command → Type 0
HasInput (Eval names) = Unit {0}
HasInput (Script names) = Unit {0}
HasInput (Serve settings names) = ⊥
HasInput (Load n) = ⊥

-- it writes output
abbrev pub HasOutput : Command → Type 0
HasOutput (Eval names) = Unit {0}
HasOutput (Script names) = Unit {0}
HasOutput (Serve settings names) = ⊥
HasOutput (Load n) = Unit {0}

-- of such an input nothing is read, and nothing is written
abbrev pub IsUntouched : List ℕ → Option (List ℕ) → Option (List ℕ) → Option (List ℕ) → Type 0
IsUntouched all left old new = (left ≡ Some all) × (new ≡ old)

-- all that the command is to write is written, which of a server is nothing, or the text that words
-- ask for which are no command; for an input that was told to have these bytes and has these left
abbrev pub IsAnswered : Option Command → List ℕ → Option (List ℕ) → Option (List ℕ)
    → Option (List ℕ) → Type 0
IsAnswered None all left old new = IsShown all left old new
IsAnswered (Some (Eval names)) all left old new = IsEvaluated names all left old new
IsAnswered (Some (Script names)) all left old new = IsCarriedThrough names all left old new
IsAnswered (Some (Serve settings names)) all left old new = IsUntouched all left old new
IsAnswered (Some (Load n)) all left old new = IsTold (load_text n) all left old new

-- the first fault of such an input is told
abbrev pub IsRefused : Option Command → List ℕ → Option (List ℕ) → Option (List ℕ)
    → Option (List ℕ) → Type 0
IsRefused None all left old new = ⊥
IsRefused (Some (Eval names)) all left old new = IsFaultTold names all left old new
IsRefused (Some (Script names)) all left old new = ⊥
IsRefused (Some (Serve settings names)) all left old new = ⊥
IsRefused (Some (Load n)) all left old new = ⊥

-- a first part of one or the other is written, and of the text that words ask for which are no
-- command
abbrev pub IsBegun : Option Command → List ℕ → Option (List ℕ) → Option (List ℕ)
    → Option (List ℕ) → Type 0
IsBegun None all left old new = IsShownInPart all left old new
IsBegun (Some (Eval names)) all left old new = IsReplyWithin names all left old new
IsBegun (Some (Script names)) all left old new = IsScriptBegun names all left old new
IsBegun (Some (Serve settings names)) all left old new = IsUntouched all left old new
IsBegun (Some (Load n)) all left old new = IsToldInPart (load_text n) all left old new

-- where a door failed: a server reads and writes nothing of these
abbrev pub IsServed : Option Command → List ℕ → Option (List ℕ) → Option (List ℕ)
    → Option (List ℕ) → Type 0
IsServed None all left old new = ⊥
IsServed (Some (Eval names)) all left old new = ⊥
IsServed (Some (Script names)) all left old new = ⊥
IsServed (Some (Serve settings names)) all left old new = IsUntouched all left old new
IsServed (Some (Load n)) all left old new = ⊥

-- where memory was wanting: `eval`, a server and a load have written nothing, a script a first part
abbrev pub IsStarved : Option Command → List ℕ → Option (List ℕ) → Option (List ℕ)
    → Option (List ℕ) → Type 0
IsStarved None all left old new = new ≡ old
IsStarved (Some (Eval names)) all left old new = IsUnanswered all left old new
IsStarved (Some (Script names)) all left old new = IsScriptBegun names all left old new
IsStarved (Some (Serve settings names)) all left old new = IsUntouched all left old new
IsStarved (Some (Load n)) all left old new = IsUntouched all left old new

-- where output failed: a first part of the one or the other is written, of all bytes that were
-- taken, or of the text that words ask for; `eval` has read its input
abbrev pub IsInPart : Option Command → List ℕ → Option (List ℕ) → Option (List ℕ)
    → Option (List ℕ) → Type 0
IsInPart None all left old new = IsShownInPart all left old new
IsInPart (Some (Eval names)) all left old new = IsReplyBegun names all left old new
IsInPart (Some (Script names)) all left old new = IsScriptInPart names all left old new
IsInPart (Some (Serve settings names)) all left old new = ⊥
IsInPart (Some (Load n)) all left old new = IsToldInPart (load_text n) all left old new

-- where input failed: `eval` has written nothing, a script all that the bytes before ask for
abbrev pub IsBroken : Option Command → List ℕ → Option (List ℕ) → Option (List ℕ)
    → Option (List ℕ) → Type 0
IsBroken None all left old new = ⊥
IsBroken (Some (Eval names)) all left old new = IsUnanswered all left old new
IsBroken (Some (Script names)) all left old new = IsScriptRead names all left old new
IsBroken (Some (Serve settings names)) all left old new = ⊥
IsBroken (Some (Load n)) all left old new = ⊥

-- such an input ends inside a message of a script
abbrev pub IsCut : Option Command → List ℕ → Option (List ℕ) → Option (List ℕ)
    → Option (List ℕ) → Type 0
IsCut None all left old new = ⊥
IsCut (Some (Eval names)) all left old new = ⊥
IsCut (Some (Script names)) all left old new = IsCutShort names all left old new
IsCut (Some (Serve settings names)) all left old new = ⊥
IsCut (Some (Load n)) all left old new = ⊥

-- a message of a script is refused with this status
abbrev pub IsStopped : Option Command → ℕ → List ℕ → Option (List ℕ) → Option (List ℕ)
    → Option (List ℕ) → Type 0
IsStopped None status all left old new = ⊥
IsStopped (Some (Eval names)) status all left old new = ⊥
IsStopped (Some (Script names)) status all left old new = IsStoppedAt names status all left old new
IsStopped (Some (Serve settings names)) status all left old new = ⊥
IsStopped (Some (Load n)) status all left old new = ⊥

-- it ends inside a message, or one of its messages is refused
abbrev pub IsShort : Option Command → List ℕ → Option (List ℕ) → Option (List ℕ)
    → Option (List ℕ) → Type 0
IsShort command all left old new =
    IsCut command all left old new ⊎ ((status : ℕ) × IsStopped command status all left old new)
