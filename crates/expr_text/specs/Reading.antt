-- What the bytes of an expression are: an expression that may be evaluated, or what a reply says of
-- their first fault (Solr Reference Guide, "Streaming Expressions"; own).
use Rattle.std.specs.Prelude.{◌≡◌, List, Option, Some, None, Result, Ok, Err}
use Rattle.tuple_values.specs.Document.{ByteList}
use Rattle.tuple_values.specs.declared.names.NameShards.{NameShards}
use Rattle.expr_reader.specs.Tree.{CallTree}
use Rattle.expr_reader.specs.Reading.{read_of}
use Rattle.expr_reader.specs.Fault as read
use Rattle.expr_reader.specs.declared.fault.ExprFault.{ExprFault}
use Rattle.expr_types.specs.ExprTree.{ExprTree}
use Rattle.expr_plan.specs.Fault as plan
use Rattle.expr_plan.specs.Walk.{planned}
use Rattle.expr_plan.specs.declared.fault.PlanFault.{PlanFault}
use Rattle.expr_check.specs.Faults as check
use Rattle.expr_check.specs.Walk.{fault_of}
use Rattle.expr_check.specs.Views.{tree_of}
use Rattle.expr_check.specs.declared.checked.Checked.{Checked}
use Rattle.expr_check.specs.declared.fault.CheckFault.{CheckFault}
use Rattle.expr_check.specs.declared.roots.Roots.{Roots}
use Rattle.expr_text.specs.declared.fault.TextFault.{TextFault}
use Rattle.expr_text.specs.declared.fault.TextFault.TheVariants.{Told, OutOfMemory}

-- an expression, unless it has a fault
abbrev pub unless_fault : ExprTree → Option CheckFault → Result ExprTree ByteList
unless_fault e None = Ok e
unless_fault e (Some fault) = Err (check.fault_text fault)

-- an expression over these collections, unless it has a fault
abbrev pub checked : Roots → List NameShards → ExprTree → Result ExprTree ByteList
checked roots names e = unless_fault e (fault_of roots names e)

-- a planned expression and then its check
abbrev pub check_told : Roots → List NameShards → Result ExprTree PlanFault
    → Result ExprTree ByteList
check_told roots names (Err fault) = Err (plan.fault_text fault)
check_told roots names (Ok e) = checked roots names e

-- a call that was read, and then its plan
abbrev pub plan_told : Roots → List NameShards → Result CallTree ExprFault
    → Result ExprTree ByteList
plan_told roots names (Err fault) = Err (read.fault_text fault)
plan_told roots names (Ok c) = check_told roots names (planned c)

-- the expression that bytes say, or what a reply says of their first fault
abbrev pub expression_of : Roots → List NameShards → ByteList → Result ExprTree ByteList
expression_of roots names bytes = plan_told roots names (read_of bytes)

-- the answer is the wanted one, unless memory was wanting
abbrev pub IsTold : Result ExprTree ByteList → Result Checked TextFault → Type 0
IsTold wanted (Ok checked) = wanted ≡ Ok (tree_of checked)
IsTold wanted (Err (Told text)) = wanted ≡ Err text
IsTold wanted (Err OutOfMemory) = Unit {0}
