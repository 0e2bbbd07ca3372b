-- Each expression that a checked one holds is lower than it, which recursions over checked expressions
-- rest on (own).
use Rattle.std.specs.Prelude.{◌≡◌, ℕ, ◌+◌, ◌<◌, ◌≤◌, max, List, [], ◌∷◌, ◌++◌, map, Bool, true, false}
use Rattle.std.specs.Prelude.{Option, Some, None, if◌then◌else◌}
use Rattle.std.proofs.Common.{arith, ap, sym, subst}
use denote.Param.Weighed.{most}
use Rattle.expr_types.specs.ExprTree.{ExprTree, node, ExprTrees, no_exprs, an_expr}
use Rattle.expr_types.specs.Heights.{height, heights}
use Rattle.expr_check.specs.Held.{IsHeld}
use Rattle.expr_check.specs.Parts.{PartTree, first_tree, input_of, parts_of, parts_at, parallels_of}
use Rattle.expr_check.specs.Parts.{parallels_in}
use Rattle.expr_check.specs.Rules.{runs_input, split_by}
use Rattle.expr_check.specs.Splits.{Split}
use Rattle.expr_check.specs.Views.{tree_of, part_tree}
use Rattle.expr_check.specs.declared.checked.Checked.TheDeep.{deep-Within, deep-ParallelPart}
use Rattle.expr_check.specs.declared.checked.ParallelPart.{ParallelPart}
use Rattle.expr_check.specs.declared.checked.Within.{Within}
use Rattle.expr_check.specs.declared.checked.Within.TheVariants.{Input, Parallels}

-- the inputs of these parts are lower than that
abbrev pub AreLower : ℕ → List PartTree → Type 0
AreLower h [] = Unit {0}
AreLower h (p ∷ ps) = (height p.input < h) × AreLower h ps

-- also than more
lower_more : (h k : ℕ) (ps : List PartTree) → h ≤ k → AreLower h ps → AreLower k ps
lower_more h k [] le a = tt
lower_more h k (p ∷ ps) le a = (let lt = a.0 in omega arith, lower_more h k ps le a.1)

-- those of two lists
lower-append : (h : ℕ) (ps qs : List PartTree) → AreLower h ps → AreLower h qs
    → AreLower h (ps ++ qs)
lower-append h [] qs a b = b
lower-append h (p ∷ ps) qs a b = (a.0, lower-append h ps qs a.1 b)

-- inputs of a parallel are lower than it
parts_of-lower : (split : Split) (ts : ExprTrees) → AreLower (heights ts + 1) (parts_of split ts)
parts_of-lower split no_exprs = tt
parts_of-lower split (an_expr t ts) = (
  omega arith,
  lower_more (heights ts + 1) (max (height t) (heights ts) + 1) (parts_of split ts) (omega arith)
      (parts_of-lower split ts),
)

-- whether the call is a parallel or not
parts_at-lower : (split : Option Split) (ts : ExprTrees) (inner : List PartTree)
    → AreLower (heights ts + 1) inner → AreLower (heights ts + 1) (parts_at split ts inner)
parts_at-lower None ts inner a = a
parts_at-lower (Some split) ts inner a = parts_of-lower split ts

mutual
  -- so are those of the outermost parallel calls of an expression
  pub parallels_lower : (t : ExprTree) → AreLower (height t) (parallels_of t)
  parallels_lower (node op inputs) =
      parts_at-lower (split_by op) inputs (parallels_in inputs) (inner_lower inputs)

  -- and of inputs
  inner_lower : (ts : ExprTrees) → AreLower (heights ts + 1) (parallels_in ts)
  inner_lower no_exprs = tt
  inner_lower (an_expr t ts) =
      let all = max (height t) (heights ts) + 1 in
      lower-append all (parallels_of t) (parallels_in ts)
      (lower_more (height t) all (parallels_of t) (omega arith) (parallels_lower t))
      (lower_more (heights ts + 1) all (parallels_in ts) (omega arith) (inner_lower ts))

-- an input that is run, or not
first_lower : (runs : Bool) (ts : ExprTrees) (e : ExprTree)
    → (if runs then first_tree ts else None) ≡ Some e → height e < heights ts + 1
first_lower false ts e is = absurd (cc)
first_lower true no_exprs e is = absurd (cc)
first_lower true (an_expr t ts) e is =
    let one : t ≡ e = cc in let same : height t ≡ height e = ap height one in omega arith

-- the input of an expression that runs it is lower than the expression
input_lower : (t e : ExprTree) → input_of t ≡ Some e → height e < height t
input_lower (node op inputs) e is = first_lower (runs_input op) inputs e is

-- parts of which the inputs are lower than that
most_lower : (parts : List ParallelPart) (h : ℕ) → AreLower h (map part_tree parts)
    → most (λ p. deep-ParallelPart p) parts ≤ h
most_lower [] h a = omega arith
most_lower (p ∷ ps) h a =
    let rest = most_lower ps h a.1 in let lt = a.0 in omega arith

-- what is held of an expression is lower than it
pub within_lower : (w : Within) (t : ExprTree) → IsHeld w t → max (deep-Within w) 0 ≤ height t
within_lower (Input checked) t h =
    let lt = input_lower t (tree_of checked.value) h in omega arith
within_lower (Parallels parts) t h =
    let le = most_lower parts.items (height t)
    (subst (AreLower (height t)) (sym h.1) (parallels_lower t)) in omega arith
