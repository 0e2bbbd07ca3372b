use Rattle.std.proofs.Common.{◌≡◌, ◌<◌, ◌+◌, ◌++◌, ◌∙◌, refl, ap, sym, subst, length, drop, List}
use Rattle.std.proofs.Common.{get_or}
use Rattle.std.proofs.Common.{arith}
use Rattle.expr_types.specs.ExprTree.{inputs_in, inputs_of, operator_in}
use Rattle.expr_types.specs.ExprTree.{expr_tree}
use Rattle.expr_types.specs.Rules.{Collections}
use Rattle.expr_check.specs.Rules.{order_given, fields_given}
use Rattle.expr_check.specs.Walk.{order_of, orders_of, fields_of, all_fields}
use Rattle.expr_check.proofs.WalkLemmas.{order_of-parts, fields_of-parts, inputs_more}
use Rattle.source_streams.specs.Cuts.{documents_of}
use Rattle.part_laws.specs.Parted.{given_in_part, lists_in_part}
use Rattle.stream_engine.specs.Fed.{BeginsWith}
use Rattle.stream_engine.specs.Flows.{Flow, rests_of}
use Rattle.stream_engine.proofs.Feeding.{begins_here, begins_behind, taken_more, fed-parts}
use Rattle.stream_engine.proofs.Feeding.{some_fed, fed_list}
use Rattle.stream_engine.proofs.Openings.{list_in_part-parts, ready_found, well_inputs}
use Rattle.stream_engine.proofs.Openings.{faultless_inputs, plain_here, plain_inputs, parted_inputs}
use Rattle.stream_engine.proofs.Openings.{well_more, faultless_more, plain_more, parted_more}
use Rattle.stream_engine.proofs.Openings.{rests_more, streams_width}
use Rattle.stream_engine.proofs.opening.+opening.Goals as goal

pub open_expr-open_parallel-requires : goal.open_expr-open_parallel-requires
open_expr-open_parallel-requires g t c =
    let docs : Collections = λ n. documents_of n c.args.cut.now in
    some_fed docs (expr_tree c.args.expr.now) c.args.feeds.now.items
    (sym c.is_split.ensures ∙ c.if-is_split.true) c.requires.planned c.requires.fed

pub open_expr-open_inputs-requires-clause-planned : goal.open_expr-open_inputs-requires-clause-planned
open_expr-open_inputs-requires-clause-planned g t c κs within =
    well_inputs (expr_tree c.args.expr.now) c.requires.planned

pub open_expr-open_inputs-requires-clause-faultless : goal.open_expr-open_inputs-requires-clause-faultless
open_expr-open_inputs-requires-clause-faultless g t c κs within =
    faultless_inputs (expr_tree c.args.expr.now) c.requires.faultless

pub open_expr-open_inputs-requires-clause-plain : goal.open_expr-open_inputs-requires-clause-plain
open_expr-open_inputs-requires-clause-plain g t c κs within =
    plain_inputs (expr_tree c.args.expr.now) c.requires.plain

pub open_expr-open_inputs-requires-clause-parted : goal.open_expr-open_inputs-requires-clause-parted
open_expr-open_inputs-requires-clause-parted g t c κs within =
    parted_inputs c.args.part.of (expr_tree c.args.expr.now) c.requires.planned c.requires.parted

pub open_expr-open_inputs-requires-clause-fed : goal.open_expr-open_inputs-requires-clause-fed
open_expr-open_inputs-requires-clause-fed g t c κs within =
    let docs : Collections = λ n. documents_of n c.args.cut.now in
    subst (λ these. BeginsWith these c.args.feeds.now.items)
    (fed-parts docs (expr_tree c.args.expr.now) (sym c.is_split.ensures ∙ c.if-is_split.false))
    c.requires.fed

pub open_inputs-open_expr-requires-clause-planned : goal.open_inputs-open_expr-requires-clause-planned
open_inputs-open_expr-requires-clause-planned g t c κs within =
    let inputs = inputs_in (expr_tree c.args.expr.now) in
    let e = expr_tree c.input.result.now in
    let k = c.loop-k.k in
    let lt : k < length inputs = omega arith in
    let is : e ≡ get_or inputs k e = c.input.ensures.value _ in
    (well_more inputs k e lt is c.loop-k.invariant.planned).0

pub open_inputs-open_expr-requires-clause-faultless : goal.open_inputs-open_expr-requires-clause-faultless
open_inputs-open_expr-requires-clause-faultless g t c κs within =
    let inputs = inputs_in (expr_tree c.args.expr.now) in
    let e = expr_tree c.input.result.now in
    let k = c.loop-k.k in
    let lt : k < length inputs = omega arith in
    let is : e ≡ get_or inputs k e = c.input.ensures.value _ in
    (faultless_more inputs k e lt is c.loop-k.invariant.faultless).0

pub open_inputs-open_expr-requires-clause-plain : goal.open_inputs-open_expr-requires-clause-plain
open_inputs-open_expr-requires-clause-plain g t c κs within =
    let inputs = inputs_in (expr_tree c.args.expr.now) in
    let e = expr_tree c.input.result.now in
    let k = c.loop-k.k in
    let lt : k < length inputs = omega arith in
    let is : e ≡ get_or inputs k e = c.input.ensures.value _ in
    (plain_more inputs k e lt is c.loop-k.invariant.plain).0

pub open_inputs-open_expr-requires-clause-parted : goal.open_inputs-open_expr-requires-clause-parted
open_inputs-open_expr-requires-clause-parted g t c κs within =
    let inputs = inputs_in (expr_tree c.args.expr.now) in
    let e = expr_tree c.input.result.now in
    let k = c.loop-k.k in
    let lt : k < length inputs = omega arith in
    let is : e ≡ get_or inputs k e = c.input.ensures.value _ in
    (parted_more c.args.part.of inputs k e lt is c.loop-k.invariant.parted).0

pub open_inputs-open_expr-requires-clause-fed : goal.open_inputs-open_expr-requires-clause-fed
open_inputs-open_expr-requires-clause-fed g t c κs within =
    let docs : Collections = λ n. documents_of n c.args.cut.now in
    let inputs = inputs_in (expr_tree c.args.expr.now) in
    let e = expr_tree c.input.result.now in
    let k = c.loop-k.k in
    let lt : k < length inputs = omega arith in
    let is : e ≡ get_or inputs k e = c.input.ensures.value _ in
    begins_here docs inputs k e c.loop-k.feeds.items lt is c.loop-k.invariant.begins

pub open_inputs-loop-k-preserved : goal.open_inputs-loop-k-preserved
open_inputs-loop-k-preserved g t c =
    let docs : Collections = λ n. documents_of n c.args.cut.now in
    let part = c.args.part in
    let inputs = inputs_in (expr_tree c.args.expr.now) in
    let k = c.loop-k.k in
    let lt : k < length inputs = omega arith in
    let rest = inputs_of (drop (k + 1) inputs) in
    let e = expr_tree c.input.result.now in
    let is : e ≡ get_or inputs k e = c.input.ensures.value _ in
    let opened = c.in_ok-opened.opened in
    let before = c.loop-k.feeds.items in
    let now = c.open_expr.new.feeds.items in
    record {
      planned = (well_more inputs k e lt is c.loop-k.invariant.planned).1;
      faultless = (faultless_more inputs k e lt is c.loop-k.invariant.faultless).1;
      plain = (plain_more inputs k e lt is c.loop-k.invariant.plain).1;
      parted = (parted_more part.of inputs k e lt is c.loop-k.invariant.parted).1;
      lists =
          ap (λ (flows : List Flow). rests_of flows ++ lists_in_part docs part.index part.of rest)
          c.in_ok-push.ensures.items
          ∙ rests_more docs part.index part.of inputs k e c.loop-k.streams.items opened.stream lt is
          c.in_ok-opened.ensures.list c.loop-k.invariant.lists;
      orders =
          ap (λ w. w ++ orders_of rest) c.in_ok-push-2.ensures.items
          ∙ inputs_more order_of orders_of (λ e exprs. refl) inputs k e
          c.loop-k.orders.items opened.order lt is
          c.in_ok-opened.ensures.order c.loop-k.invariant.orders;
      fields =
          ap (λ w. w ++ all_fields rest) c.in_ok-push-3.ensures.items
          ∙ inputs_more fields_of all_fields (λ e exprs. refl) inputs k e
          c.loop-k.fields.items opened.fields lt is
          c.in_ok-opened.ensures.fields c.loop-k.invariant.fields;
      begins =
          begins_behind docs inputs k e before now lt is c.loop-k.invariant.begins
          c.in_ok-opened.ensures.fed;
      taken = λ others behind.
          c.loop-k.invariant.taken others
          (taken_more docs inputs k e before now others lt is c.in_ok-opened.ensures.fed behind);
    }

pub open_expr-open_over-requires-clause-sorted : goal.open_expr-open_over-requires-clause-sorted
open_expr-open_over-requires-clause-sorted g t c κs within =
    let docs : Collections = λ n. documents_of n c.args.cut.now in
    (ready_found docs c.args.part.index c.args.part.of (expr_tree c.args.expr.now)
    c.as_slice.result.now (rests_of c.in_ok-streams.field-0.streams.items) c.requires.planned
    c.requires.faultless c.requires.plain c.requires.part c.requires.parted
    (c.as_slice.ensures.value ∙ c.in_ok-streams.ensures.orders) c.in_ok-streams.ensures.lists).sorted

pub open_expr-open_over-requires-clause-faultless : goal.open_expr-open_over-requires-clause-faultless
open_expr-open_over-requires-clause-faultless g t c κs within =
    let docs : Collections = λ n. documents_of n c.args.cut.now in
    (ready_found docs c.args.part.index c.args.part.of (expr_tree c.args.expr.now)
    c.as_slice.result.now (rests_of c.in_ok-streams.field-0.streams.items) c.requires.planned
    c.requires.faultless c.requires.plain c.requires.part c.requires.parted
    (c.as_slice.ensures.value ∙ c.in_ok-streams.ensures.orders) c.in_ok-streams.ensures.lists).faultless

pub open_expr-open_over-requires-clause-in_order : goal.open_expr-open_over-requires-clause-in_order
open_expr-open_over-requires-clause-in_order g t c κs within =
    let docs : Collections = λ n. documents_of n c.args.cut.now in
    (ready_found docs c.args.part.index c.args.part.of (expr_tree c.args.expr.now)
    c.as_slice.result.now (rests_of c.in_ok-streams.field-0.streams.items) c.requires.planned
    c.requires.faultless c.requires.plain c.requires.part c.requires.parted
    (c.as_slice.ensures.value ∙ c.in_ok-streams.ensures.orders) c.in_ok-streams.ensures.lists).in_order

pub open_expr-open_over-requires-clause-plain : goal.open_expr-open_over-requires-clause-plain
open_expr-open_over-requires-clause-plain g t c κs within =
    plain_here (expr_tree c.args.expr.now) c.requires.plain

pub open_expr-open_over-requires-clause-width : goal.open_expr-open_over-requires-clause-width
open_expr-open_over-requires-clause-width g t c κs within =
    let docs : Collections = λ n. documents_of n c.args.cut.now in
    streams_width docs c.args.part.index c.args.part.of (inputs_in (expr_tree c.args.expr.now))
    c.in_ok-streams.field-0.streams.items c.in_ok-streams.ensures.lists

pub open_expr-returns-then-is_split-clause-list : goal.open_expr-returns-then-is_split-clause-list
open_expr-returns-then-is_split-clause-list g t c =
    let docs : Collections = λ n. documents_of n c.args.cut.now in
    (fed_list docs c.args.part.index c.args.part.of (expr_tree c.args.expr.now)
    c.in_ok-opened.opened.stream.0 c.args.feeds.now.items c.open_parallel.new.feeds.items
    (sym c.is_split.ensures ∙ c.if-is_split.true) c.requires.planned c.requires.part
    c.requires.parted c.requires.fed c.in_ok-opened.ensures.list).0

pub open_expr-returns-then-is_split-clause-fed : goal.open_expr-returns-then-is_split-clause-fed
open_expr-returns-then-is_split-clause-fed g t c =
    let docs : Collections = λ n. documents_of n c.args.cut.now in
    (fed_list docs c.args.part.index c.args.part.of (expr_tree c.args.expr.now)
    c.in_ok-opened.opened.stream.0 c.args.feeds.now.items c.open_parallel.new.feeds.items
    (sym c.is_split.ensures ∙ c.if-is_split.true) c.requires.planned c.requires.part
    c.requires.parted c.requires.fed c.in_ok-opened.ensures.list).1

pub open_expr-returns-clause-list : goal.open_expr-returns-clause-list
open_expr-returns-clause-list g t c =
    let docs : Collections = λ n. documents_of n c.args.cut.now in
    let part = c.args.part in
    let whole = expr_tree c.args.expr.now in
    c.in_ok-stream.ensures.list
    ∙ ap (given_in_part docs part.index part.of (operator_in whole)) c.in_ok-streams.ensures.lists
    ∙ sym (list_in_part-parts docs part.index part.of whole)

pub open_expr-returns-clause-fed : goal.open_expr-returns-clause-fed
open_expr-returns-clause-fed g t c =
    let docs : Collections = λ n. documents_of n c.args.cut.now in
    let whole = expr_tree c.args.expr.now in
    c.in_ok-streams.ensures.fed
    ∙ ap (λ w. w ++ c.open_inputs.new.feeds.items)
    (sym (fed-parts docs whole (sym c.is_split.ensures ∙ c.if-is_split.false)))

pub open_expr-returns-clause-order : goal.open_expr-returns-clause-order
open_expr-returns-clause-order g t c =
    let whole = expr_tree c.args.expr.now in
    c.in_ok-order.ensures
    ∙ ap (order_given (operator_in whole) c.in_ok-streams.field-0.orders.items)
    (c.as_slice-2.ensures.value ∙ c.in_ok-streams.ensures.fields)
    ∙ ap (λ orders. order_given (operator_in whole) orders
    (all_fields (inputs_of (inputs_in whole)))) c.in_ok-streams.ensures.orders
    ∙ sym (order_of-parts whole)

pub open_expr-returns-clause-fields : goal.open_expr-returns-clause-fields
open_expr-returns-clause-fields g t c =
    let whole = expr_tree c.args.expr.now in
    c.in_ok-fields.ensures
    ∙ ap (fields_given (operator_in whole)) c.in_ok-streams.ensures.fields
    ∙ sym (fields_of-parts whole)
