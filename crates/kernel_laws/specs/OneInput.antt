-- What a kernel knows of its one input, and what it answers by it (own).
use Rattle.std.specs.Prelude.{◌≡◌, List, [], ◌∷◌, Bool, true, false, Option, Some, None}
use Rattle.std.specs.Prelude.{Result, Ok, Err, if◌then◌else◌}
use Rattle.tuple_values.specs.Document.{Doc}
use Rattle.tuple_values.specs.declared.memory.Memory.{Memory}
use Rattle.tuple_values.specs.declared.memory.Memory.TheVariants.{OutOfMemory}
use Rattle.kernel_laws.specs.declared.ask.Ask.{Ask}
use Rattle.kernel_laws.specs.declared.ask.Ask.TheVariants.{Emit, Need, End}
use Rattle.kernel_laws.specs.declared.one_input.OneInput.{OneInput}

-- for each input, which is one, whether it has ended
abbrev pub flags_of : OneInput → List Bool
flags_of input = input.ended ∷ []

-- it has ended, and memory was never wanting
abbrev pub IsDone : OneInput → Type 0
IsDone input = (input.ended ≡ true) × (input.failed ≡ false)

-- the next document of the output, if it is known, else the input's next or the end
abbrev pub next_of : OneInput → Option Doc → Ask
next_of input (Some doc) = Emit doc
next_of input None = if input.ended then End else Need 0

-- the same, where memory was never wanting
abbrev pub answer_of : OneInput → Option Doc → Result Ask Memory
answer_of input next = if input.failed then Err OutOfMemory else Ok (next_of input next)
