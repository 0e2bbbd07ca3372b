-- Refusals of the readers, and what is said of them (own).
use Rattle.std.specs.Prelude.{◌≡◌, ℕ, ◌++◌, Result, Ok, Err, codes}
use Rattle.std.specs.Fmt.{decimal}
use Rattle.tuple_values.specs.Document.{ByteList}
use Rattle.sort_spec.specs.Reading.{Reading, said, stuck}
use Rattle.sort_spec.specs.declared.fault.SortFault.{SortFault}
use Rattle.sort_spec.specs.declared.fault.SortFault.TheVariants.{BadSort, OutOfMemory}

-- what a reply says of a fault
abbrev pub fault_text : SortFault → ByteList
fault_text (BadSort at) = codes "BadSort at " ++ decimal at
fault_text OutOfMemory = codes "out of memory"

-- a fact of the place, where the fault has one
abbrev pub IfPlaced : SortFault → (ℕ → Type 0) → Type 0
IfPlaced (BadSort at) P = P at
IfPlaced OutOfMemory P = Unit {0}

-- the answer is the reading, unless memory was wanting
abbrev pub Answers : {V : Type 0} → Reading V → Result V SortFault → Type 0
Answers reading (Ok value) = reading ≡ said value
Answers reading (Err (BadSort at)) = reading ≡ stuck at
Answers reading (Err OutOfMemory) = Unit {0}
