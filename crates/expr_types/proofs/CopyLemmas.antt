-- The inputs of a copy.
use Rattle.std.proofs.Common.{◌≡◌, ℕ, ◌+◌, ◌<◌, List, [], ◌∷◌, ◌++◌, length, get_or, take, map, ap, sym}
use Rattle.std.proofs.Common.{◌∙◌}
use Rattle.std.proofs.lemmas.List.{map-append, take_more}
use Rattle.expr_types.specs.ExprTree.{ExprTree}
use Rattle.expr_types.specs.ExprTree.{expr_tree}
use Rattle.expr_types.specs.declared.expr.Expr.{Expr}

-- the copies so far, and one of the next input
pub copies_more : (copies : List Expr) (e : Expr) (inputs : List ExprTree) (k : ℕ) (d : ExprTree)
    → k < length inputs → map expr_tree copies ≡ take k inputs → expr_tree e ≡ get_or inputs k d
    → map expr_tree (copies ++ e ∷ []) ≡ take (k + 1) inputs
copies_more copies e inputs k d lt before same =
    map-append expr_tree copies (e ∷ [])
    ∙ ap (λ w. w ++ expr_tree e ∷ []) before
    ∙ ap (λ (t : ExprTree). take k inputs ++ t ∷ []) same
    ∙ sym (take_more inputs k d lt)
