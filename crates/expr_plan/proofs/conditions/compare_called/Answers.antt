use Rattle.std.proofs.Common.{◌≡◌, length, slice_get, Some, arith}
use Rattle.expr_reader.specs.Views.{arg_tree}
use Rattle.expr_plan.proofs.WordsLemmas.{slice_get-at}
use Rattle.expr_plan.proofs.conditions.compare_called.Goals as goal

pub returns : goal.returns
returns c =
    let args = c.args.args.now in
    let two : length args ≡ 2 = omega arith in
    let first : slice_get args 0 ≡ Some (arg_tree c.get.result.now) =
    slice_get-at args 0 (arg_tree c.get.result.now) (omega arith) (c.get.ensures.value _) in
    let second : slice_get args 1 ≡ Some (arg_tree c.get-2.result.now) =
    slice_get-at args 1 (arg_tree c.get-2.result.now) (omega arith) (c.get-2.ensures.value _) in
    rw (two, first, second) c.compare_by.ensures
