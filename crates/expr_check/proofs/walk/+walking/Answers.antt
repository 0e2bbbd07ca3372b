use Rattle.std.proofs.Common.{◌<◌, ◌+◌, ◌++◌, [], ◌∙◌, refl, ap, sym, subst, length, drop, take}
use Rattle.std.proofs.Common.{Bool, arith, fold, List}
use Rattle.std.specs.Option.{option_or}
use Rattle.tuple_values.specs.Collections.{is_known}
use Rattle.tuple_values.specs.Document.{ByteList}
use Rattle.sort_spec.specs.Texts.{once}
use Rattle.expr_types.specs.ExprTree.{inputs_in, inputs_of, expr_tree, operator_in}
use Rattle.expr_check.specs.Held.{AreHeld, IsHeld}
use Rattle.expr_check.specs.Reads.{with_name}
use Rattle.expr_check.specs.Rules.{read_by}
use Rattle.expr_check.specs.Walk.{order_of, orders_of, fields_of, all_fields, keys_of, all_keys}
use Rattle.expr_check.specs.Walk.{keyless_of, keyless_in, faults_where, all_searched, searched_in}
use Rattle.expr_check.specs.declared.checked.Within.{Within}
use Rattle.expr_check.proofs.FaultLemmas.{none_first, none_second}
use Rattle.expr_check.proofs.HoldLemmas.{found_below, held_next, planned_input}
use Rattle.expr_check.proofs.ReadLemmas.{collections_of-parts, reads_more, once-once}
use Rattle.expr_check.proofs.WalkLemmas.{fault_found}
use Rattle.expr_check.proofs.WalkLemmas.{inputs_more, firsts_more, faults_more}
use Rattle.expr_check.proofs.walk.+walking.Goals as goal

pub walk-walk_inputs-requires : goal.walk-walk_inputs-requires
walk-walk_inputs-requires t c = (rw (← c.decreases) (omega arith), c.requires.planned)

pub walk_inputs-walk-requires : goal.walk_inputs-walk-requires
walk_inputs-walk-requires t c =
    let whole = expr_tree c.args.expr.now in
    let lt : c.loop-k.k < length (inputs_in whole) = omega arith in (
      rw (← c.decreases) (omega (arith, c.input.ensures.lower)),
      planned_input whole c.loop-k.k (expr_tree c.input.result.now) c.requires.planned lt
          (c.input.ensures.value _),
    )

pub walk_inputs-loop-k-init : goal.walk_inputs-loop-k-init
walk_inputs-loop-k-init t c =
    let inputs = inputs_in (expr_tree c.args.expr.now) in
    let none = c.in_ok-below.ensures in
    record {
      orders = ap (λ w. w ++ orders_of (inputs_of inputs)) none.orders;
      fields = ap (λ w. w ++ all_fields (inputs_of inputs)) none.fields;
      keys = ap (λ w. w ++ all_keys (inputs_of inputs)) none.keys;
      keyless = ap (λ w. option_or w (keyless_in (inputs_of inputs))) none.keyless;
      reads = ap (λ l. fold with_name l (all_searched (inputs_of inputs))) none.reads;
      fault = ap
          (λ w. option_or w (faults_where c.args.roots c.args.place
          (λ name. is_known name c.args.names.now) (inputs_of inputs))) none.fault;
      held = λ fault.
          subst (λ (l : List Within). AreHeld l []) (sym none.withins) tt;
    }

pub walk_inputs-add-requires : goal.walk_inputs-add-requires
walk_inputs-add-requires t c =
    c.in_ok-walked.ensures.reads
    ∙ sym (once-once (searched_in (expr_tree c.input.result.now)))
    ∙ ap once (sym c.in_ok-walked.ensures.reads)

pub walk_inputs-loop-k-preserved : goal.walk_inputs-loop-k-preserved
walk_inputs-loop-k-preserved t c =
    let inputs = inputs_in (expr_tree c.args.expr.now) in
    let is_there : ByteList → Bool = λ name. is_known name c.args.names.now in
    let lt : c.loop-k.k < length inputs = omega arith in
    let e = expr_tree c.input.result.now in
    let rest = inputs_of (drop (c.loop-k.k + 1) inputs) in
    let walked = c.in_ok-walked.walked in
    let old = c.loop-k.below in
    let more = c.in_ok-add.ensures in
    record {
      orders =
          ap (λ w. w ++ orders_of rest) more.orders
          ∙ inputs_more order_of orders_of (λ e exprs. refl) inputs c.loop-k.k e
          old.inputs.orders.items walked.order lt (c.input.ensures.value _)
          c.in_ok-walked.ensures.order c.loop-k.invariant.orders;
      fields =
          ap (λ w. w ++ all_fields rest) more.fields
          ∙ inputs_more fields_of all_fields (λ e exprs. refl) inputs c.loop-k.k e
          old.inputs.fields.items walked.fields lt (c.input.ensures.value _)
          c.in_ok-walked.ensures.fields c.loop-k.invariant.fields;
      keys =
          ap (λ w. w ++ all_keys rest) more.keys
          ∙ inputs_more keys_of all_keys (λ e exprs. refl) inputs c.loop-k.k e
          old.inputs.keys.items walked.keys lt (c.input.ensures.value _)
          c.in_ok-walked.ensures.keys c.loop-k.invariant.keys;
      keyless =
          ap (λ w. option_or w (keyless_in rest)) more.keyless
          ∙ firsts_more keyless_of keyless_in (λ e exprs. refl) inputs c.loop-k.k e
          old.inputs.keyless walked.keyless lt (c.input.ensures.value _)
          c.in_ok-walked.ensures.keyless c.loop-k.invariant.keyless;
      reads =
          reads_more old.inputs.reads
          (fold with_name (once (read_by (operator_in (expr_tree c.args.expr.now))))
          (all_searched (inputs_of inputs)))
          walked.reads c.add.new.below.inputs.reads inputs c.loop-k.k e lt (c.input.ensures.value _)
          more.reads c.in_ok-walked.ensures.reads c.loop-k.invariant.reads;
      fault =
          ap (λ w. option_or w (faults_where c.args.roots c.args.place is_there rest))
          more.fault
          ∙ faults_more c.args.roots c.args.place is_there inputs c.loop-k.k e old.inputs.fault
          walked.fault lt (c.input.ensures.value _) c.in_ok-walked.ensures.fault
          c.loop-k.invariant.fault;
      held = λ none.
          let both = sym more.fault ∙ none in
          subst (λ (l : List Within). AreHeld l (take (c.loop-k.k + 1) inputs))
          (sym more.withins)
          (held_next old.withins.items walked.within inputs c.loop-k.k e lt
          (c.input.ensures.value _)
          (c.loop-k.invariant.held (none_first old.inputs.fault walked.fault both))
          (c.in_ok-walked.ensures.held (none_second old.inputs.fault walked.fault both)));
    }

pub walk-fault_at-requires : goal.walk-fault_at-requires
walk-fault_at-requires t c = c.in_ok-inputs.ensures.found

pub walk-hold_faultless-requires : goal.walk-hold_faultless-requires
walk-hold_faultless-requires t c = λ own none.
    let below = c.in_ok-inputs.field-0 in
    let is_there : ByteList → Bool = λ name. is_known name c.args.names.now in
    found_below c.args.roots c.args.place c.place_in.result is_there (expr_tree c.args.expr.now)
    below.inputs below.withins.items c.requires.planned c.in_ok-inputs.ensures.found
    c.in_ok-inputs.ensures.reads c.place_in.ensures c.in_ok-inputs.ensures.fault
    c.in_ok-inputs.ensures.held none

pub walk-found-requires : goal.walk-found-requires
walk-found-requires t c = c.in_ok-inputs.ensures.found

pub walk-returns-clause-reads : goal.walk-returns-clause-reads
walk-returns-clause-reads t c =
    c.in_ok-walked.ensures.reads ∙ c.in_ok-inputs.ensures.reads
    ∙ sym (collections_of-parts (expr_tree c.args.expr.now))

pub walk-returns-clause-fault : goal.walk-returns-clause-fault
walk-returns-clause-fault t c =
    let is_there : ByteList → Bool = λ name. is_known name c.args.names.now in
    fault_found c.args.roots c.args.place c.place_in.result is_there (expr_tree c.args.expr.now)
    c.in_ok-own.own c.in_ok-inputs.field-0.inputs.fault c.in_ok-walked.walked.fault
    c.in_ok-walked.ensures.fault c.in_ok-own.ensures c.place_in.ensures c.in_ok-inputs.ensures.fault

pub walk-returns-clause-held : goal.walk-returns-clause-held
walk-returns-clause-held t c = λ none.
    let own = c.in_ok-own.own in
    let below = c.in_ok-inputs.field-0.inputs.fault in
    let both = sym c.in_ok-walked.ensures.fault ∙ none in
    subst (λ (w : Within). IsHeld w (expr_tree c.args.expr.now)) (sym c.in_ok-walked.ensures.within)
    (c.in_ok-within.ensures (none_first own below both) (none_second own below both))
