-- What a call holds is smaller: the measures of recursions over calls.
use Rattle.std.proofs.Common.{◌≡◌, ℕ, zero, suc, ◌<◌, List, [], ◌∷◌, length, get_or, arith}
use Rattle.expr_reader.specs.Tree.{arg_depth, args_depth}
use Rattle.expr_reader.specs.Views.{arg_tree, arg_trees}
use Rattle.expr_reader.specs.declared.call.Arg.{Arg}

-- an argument is smaller than the arguments
pub arg_smaller : (args : List Arg) (k : ℕ) (a : Arg) → k < length args → a ≡ get_or args k a
    → arg_depth (arg_tree a) < args_depth (arg_trees args)
arg_smaller [] k a lt is = absurd (omega arith)
arg_smaller (b ∷ args) zero a lt is = rw is (omega arith)
arg_smaller (b ∷ args) (suc k) a lt is = omega (arith, arg_smaller args k a (omega arith) is)
