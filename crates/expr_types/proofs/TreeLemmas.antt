-- An expression's inputs, one after another.
use Rattle.std.proofs.Common.{◌≡◌, ℕ, zero, suc, ◌<◌, ◌≤◌, List, [], ◌∷◌, length, get_or}
use Rattle.std.proofs.Common.{refl, ap, arith}
use Rattle.expr_types.specs.ExprTree.{ExprTree, node, ExprTrees, no_exprs, an_expr, inputs_of}
use Rattle.expr_types.specs.ExprTree.{expr_list, operator_in, inputs_in}
use Rattle.expr_types.specs.Heights.{height, heights}

-- the inputs of a list are that list
pub expr_list-inputs_of : (exprs : List ExprTree) → expr_list (inputs_of exprs) ≡ exprs
expr_list-inputs_of [] = refl
expr_list-inputs_of (e ∷ exprs) = ap (λ rest. e ∷ rest) (expr_list-inputs_of exprs)

-- and the other way round
pub inputs_of-expr_list : (exprs : ExprTrees) → inputs_of (expr_list exprs) ≡ exprs
inputs_of-expr_list no_exprs = refl
inputs_of-expr_list (an_expr e exprs) = ap (an_expr e) (inputs_of-expr_list exprs)

-- an expression is its operator over its inputs
pub node-parts : (t : ExprTree) → node (operator_in t) (inputs_of (inputs_in t)) ≡ t
node-parts (node op exprs) = ap (node op) (inputs_of-expr_list exprs)

-- each of several expressions is at most as high as all of them
pub height-get : (exprs : List ExprTree) (k : ℕ) (d : ExprTree) → k < length exprs
    → height (get_or exprs k d) ≤ heights (inputs_of exprs)
height-get [] k d lt = absurd (omega arith)
height-get (e ∷ exprs) zero d lt = omega arith
height-get (e ∷ exprs) (suc k) d lt =
    let rest = height-get exprs k d (omega arith) in omega arith

-- so an input is lower than its expression
pub input_lower : (t : ExprTree) (k : ℕ) (d : ExprTree) → k < length (inputs_in t)
    → height (get_or (inputs_in t) k d) < height t
input_lower (node op exprs) k d lt =
    let rest = height-get (expr_list exprs) k d lt in
    let same : heights (inputs_of (expr_list exprs)) ≡ heights exprs =
    ap heights (inputs_of-expr_list exprs) in
    omega (arith, rest, same)
