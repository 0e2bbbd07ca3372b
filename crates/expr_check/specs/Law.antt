-- What is so of expressions without a fault: over all documents their orders, and which ones only
-- read; and of each expression its fields (own).
use Rattle.std.specs.Prelude.{◌≡◌, List, None}
use Rattle.tuple_values.specs.declared.names.NameShards.{NameShards}
use Rattle.expr_types.specs.ExprTree.{ExprTree}
use Rattle.expr_types.specs.Rules.{Collections}
use Rattle.expr_types.specs.Lists.{list_of, AreSorted}
use Rattle.expr_types.specs.Plain.{IsPlain}
use Rattle.expr_types.specs.Planned.{IsPlanned}
use Rattle.expr_check.specs.Fields.{HaveOnly}
use Rattle.expr_check.specs.Orders.{IsInOrder}
use Rattle.expr_check.specs.Walk.{order_of, fields_of, fault_of}
use Rattle.expr_check.specs.declared.roots.Roots.{Roots}
use Rattle.expr_check.specs.declared.roots.Roots.TheVariants.{Plain}

-- each input of what only reads is in the order that its function needs
abbrev pub InputsAreSorted : Type 0
InputsAreSorted =
    (roots : Roots) (names : List NameShards) (t : ExprTree) → IsPlain t → IsPlanned t
    → fault_of roots names t ≡ None → (docs : Collections) → AreSorted docs t

-- what it gives is in its order
abbrev pub ListsAreInOrder : Type 0
ListsAreInOrder =
    (roots : Roots) (names : List NameShards) (t : ExprTree) → IsPlain t → IsPlanned t
    → fault_of roots names t ≡ None → (docs : Collections) → IsInOrder (order_of t) (list_of docs t)

-- no tuple that it gives has a field outside its fields
abbrev pub ListsHaveOnlyFields : Type 0
ListsHaveOnlyFields = (t : ExprTree) (docs : Collections) → HaveOnly (fields_of t) (list_of docs t)

-- what has no fault with plain roots only reads
abbrev pub PlainRootsArePlain : Type 0
PlainRootsArePlain =
    (names : List NameShards) (t : ExprTree) → fault_of Plain names t ≡ None → IsPlain t
