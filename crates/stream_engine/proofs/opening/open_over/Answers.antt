use Rattle.std.proofs.Common.{◌≡◌, [], ◌∷◌, ◌∙◌, refl, ap, sym, subst, length, map, codes}
use Rattle.expr_types.specs.ExprTree.{ExprTree, node, merge, reduce, rollup, inputs_of, inputs_in}
use Rattle.expr_types.specs.ExprTree.{operator_in, inner_join, left_outer_join, intersect}
use Rattle.expr_types.specs.ExprTree.{complement, hash_join, outer_hash_join}
use Rattle.expr_types.specs.ExprTree.{expr_tree, expr_step}
use Rattle.expr_types.specs.Rules.{Collections, AreAsNeeded}
use Rattle.expr_types.specs.Orders.{IsSortedOver}
use Rattle.expr_types.specs.declared.expr.Expr.TheVariants as expr
use Rattle.expr_types.specs.declared.expr.Expr.TheFolds.{fold-roll-Expr}
use Rattle.expr_types.specs.declared.expr.Expr.TheOpen.{Expr-F}
use Rattle.source_streams.specs.Cuts.{documents_of}
use Rattle.part_laws.specs.Parted.{given_in_part}
use Rattle.stream_engine.specs.Flows.{Flow, rests_of}
use Rattle.stream_engine.proofs.Openings.{first_sorted, at_lists, two_joinable}
use Rattle.stream_engine.proofs.opening.open_over.Goals as goal

pub merge-requires : goal.merge-requires
merge-requires g c =
    let inputs = c.in-Merge.inputs in
    let on = c.in-Merge.on in
    let whole : expr_tree c.args.expr.now ≡ node (merge on) (inputs_of (map expr_tree inputs.items)) =
    rw c.in-Merge.is (ap expr_tree (sym (expr.rolls-Merge inputs on))
    ∙ fold-roll-Expr ExprTree expr_step (Expr-F.Merge inputs on)) in
    subst (λ (t : ExprTree). AreAsNeeded (operator_in t) (rests_of c.args.inputs.items)) whole
    c.requires.sorted

pub reduce-requires : goal.reduce-requires
reduce-requires g c =
    let input = c.in-Reduce.input in
    let by = c.in-Reduce.by in
    let op = c.in-Reduce.group in
    let whole : expr_tree c.args.expr.now
    ≡ node (reduce by op) (inputs_of (expr_tree input.value ∷ [])) =
    rw c.in-Reduce.is (ap expr_tree (sym (expr.rolls-Reduce input by op))
    ∙ fold-roll-Expr ExprTree expr_step (Expr-F.Reduce input by op)) in
    let sorted =
    subst (λ (t : ExprTree). AreAsNeeded (operator_in t) (rests_of c.args.inputs.items)) whole
    c.requires.sorted in
    let one = c.requires.width ∙ ap (λ (t : ExprTree). length (inputs_in t)) whole in
    subst (IsSortedOver by) (sym c.only-in-Reduce.ensures)
    (first_sorted by c.args.inputs.items one sorted)

pub rollup-requires : goal.rollup-requires
rollup-requires g c =
    let input = c.in-Rollup.input in
    let over = c.in-Rollup.over in
    let metrics = c.in-Rollup.metrics in
    let whole : expr_tree c.args.expr.now
    ≡ node (rollup over metrics) (inputs_of (expr_tree input.value ∷ [])) =
    rw c.in-Rollup.is (ap expr_tree (sym (expr.rolls-Rollup input over metrics))
    ∙ fold-roll-Expr ExprTree expr_step (Expr-F.Rollup input over metrics)) in
    let sorted =
    subst (λ (t : ExprTree). AreAsNeeded (operator_in t) (rests_of c.args.inputs.items)) whole
    c.requires.sorted in
    let one = c.requires.width ∙ ap (λ (t : ExprTree). length (inputs_in t)) whole in
    subst (IsSortedOver over) (sym c.only-in-Rollup.ensures)
    (first_sorted over c.args.inputs.items one sorted)

pub join-requires : goal.join-requires
join-requires g c =
    let left = c.in-InnerJoin.left in
    let right = c.in-InnerJoin.right in
    let on = c.in-InnerJoin.on in
    let whole : expr_tree c.args.expr.now
    ≡ node (inner_join on) (inputs_of (expr_tree left.value ∷ expr_tree right.value ∷ [])) =
    rw c.in-InnerJoin.is (ap expr_tree (sym (expr.rolls-InnerJoin left right on))
    ∙ fold-roll-Expr ExprTree expr_step (Expr-F.InnerJoin left right on)) in
    let two =
    two_joinable (codes "innerJoin") on (inner_join on) (λ orders. refl) (expr_tree c.args.expr.now)
    (expr_tree left.value) (expr_tree right.value) whole c.args.orders.now c.args.inputs.items
    c.requires.width c.requires.faultless c.requires.in_order in
    record { two = two.0; sorted = two.1 }

pub join-requires-in-LeftOuterJoin : goal.join-requires-in-LeftOuterJoin
join-requires-in-LeftOuterJoin g c =
    let left = c.in-LeftOuterJoin.left in
    let right = c.in-LeftOuterJoin.right in
    let on = c.in-LeftOuterJoin.on in
    let whole : expr_tree c.args.expr.now
    ≡ node (left_outer_join on) (inputs_of (expr_tree left.value ∷ expr_tree right.value ∷ [])) =
    rw c.in-LeftOuterJoin.is (ap expr_tree (sym (expr.rolls-LeftOuterJoin left right on))
    ∙ fold-roll-Expr ExprTree expr_step (Expr-F.LeftOuterJoin left right on)) in
    let two =
    two_joinable (codes "leftOuterJoin") on (left_outer_join on) (λ orders. refl) (expr_tree c.args.expr.now)
    (expr_tree left.value) (expr_tree right.value) whole c.args.orders.now c.args.inputs.items
    c.requires.width c.requires.faultless c.requires.in_order in
    record { two = two.0; sorted = two.1 }

pub exist-requires : goal.exist-requires
exist-requires g c =
    let left = c.in-Intersect.left in
    let right = c.in-Intersect.right in
    let on = c.in-Intersect.on in
    let whole : expr_tree c.args.expr.now
    ≡ node (intersect on) (inputs_of (expr_tree left.value ∷ expr_tree right.value ∷ [])) =
    rw c.in-Intersect.is (ap expr_tree (sym (expr.rolls-Intersect left right on))
    ∙ fold-roll-Expr ExprTree expr_step (Expr-F.Intersect left right on)) in
    let two =
    two_joinable (codes "intersect") on (intersect on) (λ orders. refl) (expr_tree c.args.expr.now)
    (expr_tree left.value) (expr_tree right.value) whole c.args.orders.now c.args.inputs.items
    c.requires.width c.requires.faultless c.requires.in_order in
    record { two = two.0; sorted = two.1 }

pub exist-requires-in-Complement : goal.exist-requires-in-Complement
exist-requires-in-Complement g c =
    let left = c.in-Complement.left in
    let right = c.in-Complement.right in
    let on = c.in-Complement.on in
    let whole : expr_tree c.args.expr.now
    ≡ node (complement on) (inputs_of (expr_tree left.value ∷ expr_tree right.value ∷ [])) =
    rw c.in-Complement.is (ap expr_tree (sym (expr.rolls-Complement left right on))
    ∙ fold-roll-Expr ExprTree expr_step (Expr-F.Complement left right on)) in
    let two =
    two_joinable (codes "complement") on (complement on) (λ orders. refl) (expr_tree c.args.expr.now)
    (expr_tree left.value) (expr_tree right.value) whole c.args.orders.now c.args.inputs.items
    c.requires.width c.requires.faultless c.requires.in_order in
    record { two = two.0; sorted = two.1 }

pub hash_join-requires : goal.hash_join-requires
hash_join-requires g c =
    let input = c.in-HashJoin.input in
    let hashed = c.in-HashJoin.hashed in
    let on = c.in-HashJoin.on in
    let whole : expr_tree c.args.expr.now
    ≡ node (hash_join on) (inputs_of (expr_tree input.value ∷ expr_tree hashed.value ∷ [])) =
    rw c.in-HashJoin.is (ap expr_tree (sym (expr.rolls-HashJoin input hashed on))
    ∙ fold-roll-Expr ExprTree expr_step (Expr-F.HashJoin input hashed on)) in
    c.requires.width ∙ ap (λ (t : ExprTree). length (inputs_in t)) whole

pub hash_join-requires-in-OuterHashJoin : goal.hash_join-requires-in-OuterHashJoin
hash_join-requires-in-OuterHashJoin g c =
    let input = c.in-OuterHashJoin.input in
    let hashed = c.in-OuterHashJoin.hashed in
    let on = c.in-OuterHashJoin.on in
    let whole : expr_tree c.args.expr.now
    ≡ node (outer_hash_join on) (inputs_of (expr_tree input.value ∷ expr_tree hashed.value ∷ [])) =
    rw c.in-OuterHashJoin.is (ap expr_tree (sym (expr.rolls-OuterHashJoin input hashed on))
    ∙ fold-roll-Expr ExprTree expr_step (Expr-F.OuterHashJoin input hashed on)) in
    c.requires.width ∙ ap (λ (t : ExprTree). length (inputs_in t)) whole

pub returns-in-Search-clause-list : goal.returns-in-Search-clause-list
returns-in-Search-clause-list g c =
    let docs : Collections = λ n. documents_of n c.args.cut.now in
    let op = operator_in (expr_tree c.args.expr.now) in
    let part = c.args.part in
    at_lists c.open_search.result
    (λ (stream : Flow) lists. stream.0 ≡ given_in_part docs part.index part.of op lists)
    (rests_of c.args.inputs.items) c.open_search.ensures.list
