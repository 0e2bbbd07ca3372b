-- Expressions that were read with plain roots only read.
use Rattle.std.proofs.Common.{◌≡◌, refl, subst}
use Rattle.std.specs.Prelude.{List, Option, Some, None, Result, Ok, Err}
use Rattle.tuple_values.specs.Collections.{is_known}
use Rattle.tuple_values.specs.Document.{ByteList}
use Rattle.tuple_values.specs.declared.names.NameShards.{NameShards}
use Rattle.expr_reader.specs.Reading.{read_of}
use Rattle.expr_reader.specs.Tree.{CallTree}
use Rattle.expr_reader.specs.declared.fault.ExprFault.{ExprFault}
use Rattle.expr_types.specs.ExprTree.{ExprTree}
use Rattle.expr_types.specs.Plain.{IsPlain}
use Rattle.expr_plan.specs.Walk.{planned}
use Rattle.expr_plan.specs.declared.fault.PlanFault.{PlanFault}
use Rattle.expr_check.specs.Places.{at_root}
use Rattle.expr_check.specs.Walk.{fault_of}
use Rattle.expr_check.specs.declared.fault.CheckFault.{CheckFault}
use Rattle.expr_check.specs.declared.roots.Roots.{Roots}
use Rattle.expr_check.specs.declared.roots.Roots.TheVariants.{Plain}
use Rattle.expr_check.proofs.FaultLemmas.{fault_where-plain}
use Rattle.expr_text.specs.Reading.{check_told, checked, expression_of, plan_told, unless_fault}

-- an expression unless a fault, where there is one, has no fault
unfaulted : (e t : ExprTree) (fault : Option CheckFault) → unless_fault e fault ≡ Ok t
    → (e ≡ t) × (fault ≡ None)
unfaulted e t None is = (cc, refl)
unfaulted e t (Some fault) is = absurd (cc)

-- so has one that was checked
checked_faultless : (roots : Roots) (names : List NameShards) (e t : ExprTree)
    → checked roots names e ≡ Ok t → fault_of roots names t ≡ None
checked_faultless roots names e t is =
    let u = unfaulted e t (fault_of roots names e) is in
    subst (λ x. fault_of roots names x ≡ None) u.0 u.1

-- so has one that was planned and checked
planned_faultless : (roots : Roots) (names : List NameShards) (r : Result ExprTree PlanFault)
    (t : ExprTree) → check_told roots names r ≡ Ok t → fault_of roots names t ≡ None
planned_faultless roots names (Ok e) t is = checked_faultless roots names e t is
planned_faultless roots names (Err fault) t is = absurd (cc)

-- so has one that was read
read_faultless : (roots : Roots) (names : List NameShards) (r : Result CallTree ExprFault)
    (t : ExprTree) → plan_told roots names r ≡ Ok t → fault_of roots names t ≡ None
read_faultless roots names (Ok c) t is = planned_faultless roots names (planned c) t is
read_faultless roots names (Err fault) t is = absurd (cc)

-- with plain roots it only reads
pub read_plain : (names : List NameShards) (bytes : ByteList) (t : ExprTree)
    → expression_of Plain names bytes ≡ Ok t → IsPlain t
read_plain names bytes t is =
    fault_where-plain at_root (λ name. is_known name names) t
    (read_faultless Plain names (read_of bytes) t is)
