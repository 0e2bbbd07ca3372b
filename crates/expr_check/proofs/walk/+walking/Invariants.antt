use Rattle.std.proofs.Common.{◌≡◌, ◌+◌, ◌*◌, ◌++◌, drop, take, fold, None}
use Rattle.std.specs.Option.{option_or}
use Rattle.tuple_values.specs.Collections.{is_known}
use Rattle.sort_spec.specs.Texts.{once}
use Rattle.expr_types.specs.ExprTree.{inputs_in, inputs_of, expr_tree, operator_in}
use Rattle.expr_types.specs.Heights.{height}
use Rattle.expr_check.specs.Held.{AreHeld}
use Rattle.expr_check.specs.Reads.{with_name}
use Rattle.expr_check.specs.Rules.{read_by}
use Rattle.expr_check.specs.Walk.{orders_of, all_fields, all_keys, keyless_in, faults_where}
use Rattle.expr_check.specs.Walk.{all_searched}
use Rattle.expr_check.proofs.walk.+walking.Given as goal

-- what was found so far, and then what is so of the inputs to come
abbrev pub invariant-walk_inputs-loop-k : goal.invariant-walk_inputs-loop-k
invariant-walk_inputs-loop-k l = record {
  orders :
      l.below.inputs.orders.items ++ orders_of (inputs_of (drop l.k (inputs_in (expr_tree l.expr))))
      ≡ orders_of (inputs_of (inputs_in (expr_tree l.expr)));
  fields :
      l.below.inputs.fields.items ++ all_fields (inputs_of (drop l.k (inputs_in (expr_tree l.expr))))
      ≡ all_fields (inputs_of (inputs_in (expr_tree l.expr)));
  keys :
      l.below.inputs.keys.items ++ all_keys (inputs_of (drop l.k (inputs_in (expr_tree l.expr))))
      ≡ all_keys (inputs_of (inputs_in (expr_tree l.expr)));
  keyless :
      option_or l.below.inputs.keyless
      (keyless_in (inputs_of (drop l.k (inputs_in (expr_tree l.expr)))))
      ≡ keyless_in (inputs_of (inputs_in (expr_tree l.expr)));
  reads :
      fold with_name l.below.inputs.reads
      (all_searched (inputs_of (drop l.k (inputs_in (expr_tree l.expr)))))
      ≡ fold with_name (once (read_by (operator_in (expr_tree l.expr))))
      (all_searched (inputs_of (inputs_in (expr_tree l.expr))));
  fault : option_or l.below.inputs.fault
      (faults_where l.roots l.place (λ name. is_known name l.names)
      (inputs_of (drop l.k (inputs_in (expr_tree l.expr)))))
      ≡ faults_where l.roots l.place (λ name. is_known name l.names)
      (inputs_of (inputs_in (expr_tree l.expr)));
  held : l.below.inputs.fault ≡ None
      → AreHeld l.below.withins.items (take l.k (inputs_in (expr_tree l.expr)));
}

-- an input is lower than its expression
abbrev pub decreases-walk : goal.decreases-walk
decreases-walk l = height (expr_tree l.expr.now) * 2 + 1

abbrev pub decreases-walk_inputs : goal.decreases-walk_inputs
decreases-walk_inputs l = height (expr_tree l.expr.now) * 2
