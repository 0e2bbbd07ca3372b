use Rattle.std.proofs.Common.{◌<◌, length, arith, sym}
use Rattle.expr_types.specs.ExprTree.{inputs_in, expr_tree}
use Rattle.expr_check.specs.Reads.{are_known}
use Rattle.expr_check.specs.Walk.{named_in}
use Rattle.expr_check.proofs.ReadLemmas.{known_inputs, known_next, known_stops}
use Rattle.expr_check.proofs.reads.+stands_on.Goals as goal

pub loop-k-init : goal.loop-k-init
loop-k-init t c =
    known_inputs c.args.names.now (expr_tree c.args.expr.now) c.names_known.result
    c.names_known.ensures c.if-not-names_known.false

pub loop-k-preserved : goal.loop-k-preserved
loop-k-preserved t c =
    let inputs = inputs_in (expr_tree c.args.expr.now) in
    let lt : c.loop-k.k < length inputs = omega arith in
    known_next c.args.names.now inputs c.loop-k.k (expr_tree c.input.result.now)
    c.stands_on.result (are_known (named_in (expr_tree c.args.expr.now)) c.args.names.now) lt
    (c.input.ensures.value _) c.stands_on.ensures c.if-not-stands_on.false
    c.loop-k.invariant

pub returns-then-not-stands_on : goal.returns-then-not-stands_on
returns-then-not-stands_on t c =
    let inputs = inputs_in (expr_tree c.args.expr.now) in
    let lt : c.loop-k.k < length inputs = omega arith in
    sym
    (known_stops c.args.names.now inputs c.loop-k.k (expr_tree c.input.result.now)
    c.stands_on.result (are_known (named_in (expr_tree c.args.expr.now)) c.args.names.now) lt
    (c.input.ensures.value _) c.stands_on.ensures c.if-not-stands_on.true c.loop-k.invariant)
