-- Refusals of the reader, and what is said of them (own).
use Rattle.std.specs.Prelude.{◌≡◌, ℕ, ◌++◌, List, Option, Some, None, Result, Ok, Err, codes}
use Rattle.std.specs.Fmt.{decimal}
use Rattle.tuple_values.specs.Document.{ByteList}
use Rattle.query_syntax.specs.Tree.{ClauseTree}
use Rattle.query_syntax.specs.declared.query.Query.{Query}
use Rattle.query_syntax.specs.declared.fault.QueryFault.{QueryFault}
use Rattle.query_syntax.specs.declared.fault.QueryFault.TheVariants.{BadQuery, OutOfMemory}

-- what a reply says of a fault
abbrev pub fault_text : QueryFault → ByteList
fault_text (BadQuery at) = codes "BadQuery at " ++ decimal at
fault_text OutOfMemory = codes "out of memory"

-- a fact of the place, where the fault has one
abbrev pub IfPlaced : QueryFault → (ℕ → Type 0) → Type 0
IfPlaced (BadQuery at) P = P at
IfPlaced OutOfMemory P = Unit {0}

-- the answer is what the text says, unless memory was wanting
abbrev pub Answers : Option (List ClauseTree) → Result Query QueryFault → Type 0
Answers read (Ok q) = read ≡ Some q.clauses
Answers read (Err (BadQuery at)) = read ≡ None
Answers read (Err OutOfMemory) = Unit {0}

-- the answer is the reading of the text, unless memory was wanting
abbrev pub Reads : Result (List ClauseTree) ℕ → Result Query QueryFault → Type 0
Reads read (Ok q) = read ≡ Ok q.clauses
Reads read (Err (BadQuery at)) = read ≡ Err at
Reads read (Err OutOfMemory) = Unit {0}
