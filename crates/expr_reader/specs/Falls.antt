-- Each argument is smaller than the call that holds it, which recursions over calls rest on (own).
use Rattle.std.specs.Prelude.{◌≤◌, max, List, [], ◌∷◌}
use Rattle.std.proofs.Common.{arith}
use denote.Param.Weighed.{most}
use Rattle.expr_reader.specs.Tree.{arg_depth, args_depth}
use Rattle.expr_reader.specs.Views.{arg_tree, arg_trees}
use Rattle.expr_reader.specs.declared.call.Arg.{Arg}
use Rattle.expr_reader.specs.declared.call.Arg.TheVariants.{Plain, Named, Sub, Renamed}
use Rattle.expr_reader.specs.declared.call.ArgValue.TheVariants as value
use Rattle.expr_reader.specs.declared.call.Args.TheDeep.{deep-Arg}

-- the depth of an argument that the toolchain counts is at most that of its tree
pub arg_falls : (a : Arg) → deep-Arg a ≤ arg_depth (arg_tree a)
arg_falls (Plain w) = omega arith
arg_falls (Named key (value.Plain w)) = omega arith
arg_falls (Named key (value.Sub c)) = omega arith
arg_falls (Sub c) = omega arith
arg_falls (Renamed c to) = omega arith

-- the same for the arguments of a call
pub args_fall : (args : List Arg)
    → max (most (λ a. deep-Arg a) args) 0 ≤ args_depth (arg_trees args)
args_fall [] = omega arith
args_fall (a ∷ args) = omega (arith, arg_falls a, args_fall args)
