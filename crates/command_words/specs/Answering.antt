-- When a reader of words answers rightly (own).
use Rattle.std.specs.Prelude.{◌≡◌, Option, Some, None, Result, Ok, Err}
use Rattle.command_words.specs.declared.fault.WordsFault.{WordsFault}
use Rattle.command_words.specs.declared.fault.WordsFault.TheVariants.{Shown, RefusedBy, Refused}
use Rattle.command_words.specs.declared.fault.WordsFault.TheVariants.{OutOfMemory}

-- the answer is what is said, and a text or a refusal is for what says nothing, unless memory was
-- wanting
abbrev pub Answers : {V : Type 0} → Option V → Result V WordsFault → Type 0
Answers said (Ok value) = said ≡ Some value
Answers said (Err (Shown text)) = said ≡ None
Answers said (Err (RefusedBy text)) = said ≡ None
Answers said (Err Refused) = said ≡ None
Answers said (Err OutOfMemory) = Unit {0}

-- no text comes with the fault
abbrev pub IsPlainFault : WordsFault → Type 0
IsPlainFault (Shown text) = ⊥
IsPlainFault (RefusedBy text) = ⊥
IsPlainFault Refused = Unit {0}
IsPlainFault OutOfMemory = Unit {0}
