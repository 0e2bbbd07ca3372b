-- Refusals of the reader, and what is said of them (own).
use Rattle.std.specs.Prelude.{◌≡◌, ℕ, ◌++◌, Option, Some, None, Result, Ok, Err, codes}
use Rattle.std.specs.Fmt.{decimal}
use Rattle.expr_reader.specs.Tree.{ByteList, CallTree}
use Rattle.expr_reader.specs.Views.{call_tree}
use Rattle.expr_reader.specs.Grammar.{IsTooLarge}
use Rattle.expr_reader.specs.Machine.{Machine}
use Rattle.expr_reader.specs.Reading.{Outcome, ended, stuck, over}
use Rattle.expr_reader.specs.declared.call.Call.{Call}
use Rattle.expr_reader.specs.declared.fault.ExprFault.{ExprFault}
use Rattle.expr_reader.specs.declared.fault.ExprFault.TheVariants.{TooLarge, Syntax, OutOfMemory}

-- what a reply says of a fault
abbrev pub fault_text : ExprFault → ByteList
fault_text TooLarge = codes "TooLarge"
fault_text (Syntax at) = codes "Syntax at " ++ decimal at
fault_text OutOfMemory = codes "out of memory"

-- a fact of the place, where the fault has one
abbrev pub IfPlaced : ExprFault → (ℕ → Type 0) → Type 0
IfPlaced TooLarge P = Unit {0}
IfPlaced (Syntax at) P = P at
IfPlaced OutOfMemory P = Unit {0}

-- `TooLarge` is told exactly where there is too much, unless memory was wanting
abbrev pub TellsLarge : {X : Type 0} → ByteList → Result X ExprFault → Type 0
TellsLarge bytes (Ok x) = ¬ (IsTooLarge bytes)
TellsLarge bytes (Err TooLarge) = IsTooLarge bytes
TellsLarge bytes (Err (Syntax at)) = ¬ (IsTooLarge bytes)
TellsLarge bytes (Err OutOfMemory) = Unit {0}

-- the fault is the one that stands there, unless memory was wanting
abbrev pub IsFaultOf : Result CallTree ExprFault → ExprFault → Type 0
IsFaultOf read TooLarge = read ≡ Err TooLarge
IsFaultOf read (Syntax at) = read ≡ Err (Syntax at)
IsFaultOf read OutOfMemory = Unit {0}

-- the answer is the one that stands there, unless memory was wanting
abbrev pub Answers : Result CallTree ExprFault → Result Call ExprFault → Type 0
Answers read (Ok c) = read ≡ Ok (call_tree c)
Answers read (Err e) = IsFaultOf read e

-- the fault of a run
abbrev pub fault_of : Outcome → Option ExprFault
fault_of (ended m) = None
fault_of (stuck at m c) = Some (Syntax at)
fault_of over = Some TooLarge

-- how a run of the code ended, unless memory was wanting
abbrev pub EndsIn : Outcome → Machine → Option ExprFault → Type 0
EndsIn outcome m None = outcome ≡ ended m
EndsIn outcome m (Some e) = fault_of outcome ≡ Some e
