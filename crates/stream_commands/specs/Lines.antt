-- The status of a run by its ending, and the line that it writes (own).
use Rattle.std.specs.Prelude.{ℕ, ◌⊎◌, ◌++◌, List, [], codes, Option}
use Rattle.std.specs.Fmt.{decimal}
use Rattle.io_edge.specs.Edge.{Appends, AppendsPrefix, Rose}
use Rattle.tuple_values.specs.Document.{ByteList}
use Rattle.stream_commands.specs.declared.ending.Ending.{Ending}
use Rattle.stream_commands.specs.declared.ending.Ending.TheVariants.{Done, Shown, InputFailed, OutputFailed, DoorsFailed}
use Rattle.stream_commands.specs.declared.ending.Ending.TheVariants.{WordsRefused, WordsTold, Faulty, OutOfMemory, InputCut, MessageRefused}

-- the status of the process
abbrev pub status_of : Ending → ℕ
status_of Done = 0
status_of Shown = 0
status_of InputFailed = 1
status_of OutputFailed = 1
status_of DoorsFailed = 1
status_of WordsRefused = 2
status_of (WordsTold text) = 2
status_of Faulty = 3
status_of OutOfMemory = 4
status_of InputCut = 5
status_of (MessageRefused status) = 5

-- the line of a message that was refused with this status
abbrev pub refused_line : ℕ → ByteList
refused_line status = codes "refused " ++ decimal status ++ codes "\n"

-- the line on errors, empty where there is none; of words that are told why they are refused the text
-- of that
abbrev pub line_of : Ending → ByteList
line_of Done = []
line_of Shown = []
line_of InputFailed = codes "fault: input\n"
line_of OutputFailed = codes "fault: output\n"
line_of DoorsFailed = codes "fault: doors\n"
line_of WordsRefused = codes "words refused\n"
line_of (WordsTold text) = text
line_of Faulty = []
line_of OutOfMemory = codes "out of memory\n"
line_of InputCut = codes "input cut\n"
line_of (MessageRefused status) = refused_line status

-- the line stands on errors, or a first part of it where that failed
abbrev pub SaysLine : Option (List ℕ) → Option (List ℕ) → ℕ → ℕ → ByteList → Type 0
SaysLine old new faults_old faults_new line =
    Appends old new line ⊎ (Rose faults_old faults_new × AppendsPrefix old new line)
