use Rattle.std.proofs.Common.{◌<◌, length, sym, subst, ◌∙◌, arith}
use Rattle.std.proofs.lemmas.Result.{err_from_is_err_and}
use Rattle.expr_reader.specs.Tree.{trees_of}
use Rattle.expr_reader.specs.Views.{arg_tree}
use Rattle.expr_plan.specs.Given.{nothing_given}
use Rattle.expr_plan.specs.Arguments.{walked, with_args}
use Rattle.expr_plan.specs.Fault.{IsFaultOf}
use Rattle.expr_plan.proofs.WalkLemmas.{arg_read, arg_refused}
use Rattle.expr_plan.proofs.walk.params_of.Goals as goal

pub returns-in_err-add_arg : goal.returns-in_err-add_arg
returns-in_err-add_arg c =
    let r = err_from_is_err_and c.from_residual.result c.from_residual.ensures.1 in
    let lt : c.loop-k.k < length c.args.args.now = omega arith in
    let refused =
    arg_refused c.args.function c.args.made.now (walked c.loop-k.params) c.args.args.now c.loop-k.k
    (arg_tree c.get.result.now) c.in_err-add_arg.field-0.0 lt (c.get.ensures.value _)
    c.in_err-add_arg.ensures in
    let all : IsFaultOf
    (with_args c.args.function c.args.made.now nothing_given (trees_of c.args.args.now))
    c.in_err-add_arg.field-0.0 =
    subst (λ w. IsFaultOf w c.in_err-add_arg.field-0.0) c.loop-k.invariant refused in
    rw (r.1, r.2) all

pub loop-k-preserved : goal.loop-k-preserved
loop-k-preserved c =
    let lt : c.loop-k.k < length c.args.args.now = omega arith in
    sym (arg_read c.args.function c.args.made.now (walked c.loop-k.params)
    (walked c.add_arg.new.params)
    c.args.args.now c.loop-k.k (arg_tree c.get.result.now) lt (c.get.ensures.value _)
    c.in_ok-add_arg.ensures) ∙ c.loop-k.invariant
