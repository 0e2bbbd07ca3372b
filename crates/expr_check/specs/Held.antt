-- What a checked expression holds besides itself (own).
use Rattle.std.specs.Prelude.{◌≡◌, Bool, false, List, [], ◌∷◌, Some, None, map}
use Rattle.tuple_values.specs.Document.{ByteList}
use Rattle.expr_types.specs.ExprTree.{ExprTree, ExprTrees, expr_tree, inputs_in, inputs_of}
use Rattle.expr_types.specs.ExprTree.{operator_in}
use Rattle.expr_types.specs.Planned.{IsPlanned}
use Rattle.expr_check.specs.Parts.{PartTree, input_of, parallels_of}
use Rattle.expr_check.specs.Rules.{runs_input}
use Rattle.expr_check.specs.Views.{tree_of, part_tree}
use Rattle.expr_check.specs.Walk.{order_of, fields_of, fault_where, faults_where, collections_of}
use Rattle.expr_check.specs.Walked.{AreWalked}
use Rattle.expr_check.specs.declared.checked.Checked.TheInside.{Inside}
use Rattle.expr_check.specs.declared.checked.Within.{Within}
use Rattle.expr_check.specs.declared.checked.Within.TheVariants.{Input, Parallels}
use Rattle.expr_check.specs.declared.roots.Place.{Place}
use Rattle.expr_check.specs.declared.roots.Roots.{Roots}
use Rattle.expr_check.specs.declared.walked.WalkedInputs.{WalkedInputs}

-- the check finds no fault of an expression where it stands: with some roots, at some place, over
-- some collections that are there
pub record IsFaultless (t : ExprTree) : Type 0 where
  pub roots : Roots
  pub place : Place
  pub is_there : ByteList → Bool
  pub none : fault_where roots place is_there t ≡ None

-- the same of inputs
pub record AreFaultless (ts : ExprTrees) : Type 0 where
  pub roots : Roots
  pub place : Place
  pub is_there : ByteList → Bool
  pub none : faults_where roots place is_there ts ≡ None

-- the input of an expression that runs it, or else those of its outermost parallel calls
abbrev pub IsHeld : Within → ExprTree → Type 0
IsHeld (Input checked) t = input_of t ≡ Some (tree_of checked.value)
IsHeld (Parallels parts) t = (input_of t ≡ None) × (map part_tree parts.items ≡ parallels_of t)

-- the same of several expressions
abbrev pub AreHeld : List Within → List ExprTree → Type 0
AreHeld [] [] = Unit {0}
AreHeld [] (t ∷ ts) = ⊥
AreHeld (w ∷ ws) [] = ⊥
AreHeld (w ∷ ws) (t ∷ ts) = IsHeld w t × AreHeld ws ts

-- none of the expressions runs an input
abbrev pub NoneRuns : List ExprTree → Type 0
NoneRuns [] = Unit {0}
NoneRuns (t ∷ ts) = (input_of t ≡ None) × NoneRuns ts

-- the inputs of the outermost parallel calls that are held
abbrev pub held_parts : Within → List PartTree
held_parts (Input checked) = []
held_parts (Parallels parts) = map part_tree parts.items

-- what is held of an expression is so of it, and it may be evaluated
pub record IsChecked (c : Inside) : Type 0 where
  pub planned : IsPlanned (expr_tree c.expr)
  pub faultless : IsFaultless (expr_tree c.expr)
  pub ordered : c.order ≡ order_of (expr_tree c.expr)
  pub named : c.fields ≡ fields_of (expr_tree c.expr)
  pub reads : c.collections ≡ collections_of (expr_tree c.expr)
  pub held : IsHeld c.within (expr_tree c.expr)

-- what was found of the inputs of an expression is so, and none of them has a fault
pub record AreFound (walked : WalkedInputs) (withins : List Within) (t : ExprTree) : Type 0 where
  pub planned : IsPlanned t
  pub faultless : AreFaultless (inputs_of (inputs_in t))
  pub told : AreWalked walked t
  pub reads : walked.reads ≡ collections_of t
  pub held : AreHeld withins (inputs_in t)
  pub alone : runs_input (operator_in t) ≡ false → NoneRuns (inputs_in t)

-- the same of an only input
pub record IsFound (walked : WalkedInputs) (withins : List Within) (t : ExprTree) : Type 0 where
  pub planned : IsPlanned t
  pub faultless : IsFaultless t
  pub order : walked.orders.items ≡ order_of t ∷ []
  pub fields : walked.fields.items ≡ fields_of t ∷ []
  pub reads : walked.reads ≡ collections_of t
  pub held : AreHeld withins (t ∷ [])
