-- What is said of a fault of a plan (own).
use Rattle.std.specs.Prelude.{◌≡◌, ◌++◌, codes, Result, Ok, Err}
use Rattle.std.specs.Fmt.{decimal}
use Rattle.tuple_values.specs.Document.{ByteList}
use Rattle.expr_plan.specs.declared.fault.PlanFault.{PlanFault}
use Rattle.expr_plan.specs.declared.fault.PlanFault.TheVariants.{UnknownFunction, MissingParam}
use Rattle.expr_plan.specs.declared.fault.PlanFault.TheVariants.{BadParam, WrongInputs, BadSort}
use Rattle.expr_plan.specs.declared.fault.PlanFault.TheVariants.{BadQuery, OutOfMemory}

-- what a reply says of a fault
abbrev pub fault_text : PlanFault → ByteList
fault_text (UnknownFunction name) = codes "UnknownFunction" ++ codes " " ++ name
fault_text (MissingParam function name) =
    codes "MissingParam" ++ codes " " ++ function ++ codes " " ++ name
fault_text (BadParam function name) =
    codes "BadParam" ++ codes " " ++ function ++ codes " " ++ name
fault_text (WrongInputs function found) =
    codes "WrongInputs " ++ function ++ codes " " ++ decimal found
fault_text (BadSort at) = codes "BadSort" ++ codes " at " ++ decimal at
fault_text (BadQuery at) = codes "BadQuery" ++ codes " at " ++ decimal at
fault_text OutOfMemory = codes "out of memory"

-- what comes after a first part; its fault ends
abbrev pub and_then : {X Y : Type 0} → Result X PlanFault → (X → Result Y PlanFault)
    → Result Y PlanFault
and_then (Ok x) next = next x
and_then (Err f) next = Err f

-- the fault is the wanted one, unless memory was wanting
abbrev pub IsFaultOf : {X : Type 0} → Result X PlanFault → PlanFault → Type 0
IsFaultOf wanted (UnknownFunction name) = wanted ≡ Err (UnknownFunction name)
IsFaultOf wanted (MissingParam f name) = wanted ≡ Err (MissingParam f name)
IsFaultOf wanted (BadParam f name) = wanted ≡ Err (BadParam f name)
IsFaultOf wanted (WrongInputs f found) = wanted ≡ Err (WrongInputs f found)
IsFaultOf wanted (BadSort at) = wanted ≡ Err (BadSort at)
IsFaultOf wanted (BadQuery at) = wanted ≡ Err (BadQuery at)
IsFaultOf wanted OutOfMemory = Unit {0}
