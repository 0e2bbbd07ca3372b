use Rattle.std.proofs.Common.{◌≡◌, ◌+◌, ◌<◌, [], length, drop, map, option_map, ap, sym, ◌∙◌}
use Rattle.std.proofs.Common.{Ok, Some, List, ◌++◌, arith}
use Rattle.std.specs.List.{cons_option}
use Rattle.std.proofs.lemmas.List.{length-map, map-append}
use Rattle.std.proofs.lemmas.Result.{err_from_is_err_and}
use Rattle.expr_reader.specs.Tree.{trees_of}
use Rattle.expr_reader.specs.Views.{arg_tree, call_tree}
use Rattle.expr_types.specs.ExprTree.{ExprTree, node, inputs_of, expr_tree}
use Rattle.expr_plan.specs.Arguments.{walked}
use Rattle.expr_plan.specs.Functions.{function_of, takes_all}
use Rattle.expr_plan.specs.Operators.{operator_of}
use Rattle.expr_plan.specs.Walk.{inputs_planned}
use Rattle.expr_plan.proofs.InputLemmas.{behind, exprs-push, input_read, input_refused}
use Rattle.expr_plan.proofs.PlannedLemmas.{planned_is, all_width}
use Rattle.expr_plan.proofs.planning.+planning.Goals as goal

pub plan-returns-clause-ok : goal.plan-returns-clause-ok
plan-returns-clause-ok t c =
    let known : function_of c.args.call.now.name ≡ Some c.in-Some.function =
    ap function_of (sym c.as_str.ensures) ∙ sym c.in-Some.ensures in
    rw (known, c.in_ok-params.ensures, c.in_ok-inputs.ensures, c.in_ok-keyed.ensures)
    (ap Ok (sym c.in_ok-combined.ensures))

pub plan-combined-requires : goal.plan-combined-requires
plan-combined-requires t c =
    let f = c.in-Some.function in
    let first = c.in_ok-inputs.inputs.items in
    let rest = c.in_ok-keyed.keyed.items in
    let width : length (first ++ rest) ≡ length (map expr_tree first ++ map expr_tree rest) =
    sym (length-map (first ++ rest) expr_tree)
    ∙ ap (λ (l : List ExprTree). length l) (map-append expr_tree first rest) in
    ap (takes_all f) width
    ∙ all_width f (trees_of c.args.call.now.args) (walked c.in_ok-params.params)
    (map expr_tree first) (map expr_tree rest) c.in_ok-params.ensures c.in_ok-inputs.ensures
    c.in_ok-keyed.ensures

pub plan-returns-clause-planned : goal.plan-returns-clause-planned
plan-returns-clause-planned t c =
    planned_is (call_tree c.args.call.now) (expr_tree c.in_ok-combined.field-0)
    (plan-returns-clause-ok t c)

pub plan_inputs-returns-in_err-input : goal.plan_inputs-returns-in_err-input
plan_inputs-returns-in_err-input t c =
    let r = err_from_is_err_and c.from_residual.result c.from_residual.ensures.1 in
    let lt : c.loop-k.k < length c.args.args.now = omega arith in
    rw (r.1, r.2) (input_refused c.args.place c.args.function c.args.args.now c.loop-k.k
    (arg_tree c.get.result.now) (map expr_tree c.loop-k.inputs) c.in_err-input.field-0.0 lt
    (c.get.ensures.value _) c.in_err-input.ensures c.loop-k.invariant)

pub plan_inputs-loop-k-preserved : goal.plan_inputs-loop-k-preserved
plan_inputs-loop-k-preserved t c =
    let lt : c.loop-k.k < length c.args.args.now = omega arith in
    let input = c.in_ok-input.input in
    let before = c.loop-k.inputs in
    input_read c.args.place c.args.function c.args.args.now c.loop-k.k (arg_tree c.get.result.now)
    (map expr_tree before) (cons_option (option_map expr_tree input) []) lt
    (c.get.ensures.value _) c.in_ok-input.ensures c.loop-k.invariant
    ∙ ap
    (λ w.
    behind w (inputs_planned c.args.place c.args.function (trees_of (drop (c.loop-k.k + 1) c.args.args.now))))
    (sym (ap (map expr_tree) c.in_ok-push_some.ensures ∙ exprs-push before input))
