use Rattle.std.proofs.Common.{◌≡◌, ◌+◌, ◌*◌, ◌++◌, List, None, true, drop}
use Rattle.tuple_values.specs.Document.{Doc}
use Rattle.expr_types.specs.ExprTree.{inputs_in, inputs_of}
use Rattle.expr_types.specs.Heights.{height}
use Rattle.expr_types.specs.ExprTree.{expr_tree}
use Rattle.expr_types.specs.Plain.{are_plain}
use Rattle.expr_types.specs.Planned.{AreAllWell}
use Rattle.expr_check.specs.Walk.{orders_of, all_fields, own_faults}
use Rattle.source_streams.specs.Cuts.{documents_of}
use Rattle.part_laws.specs.Parted.{lists_in_part, MayAllBeParted}
use Rattle.stream_engine.specs.Fed.{fed_in, BeginsWith}
use Rattle.stream_engine.specs.Flows.{rests_of}
use Rattle.stream_engine.proofs.opening.+opening.Given as goal

-- the inputs that are still to be opened have no fault, and give what the streams don't; so have
-- they the orders and the fields that are still to be found, and their lists are the first of the
-- feeds; what is behind these was behind the lists of all inputs
abbrev pub invariant-open_inputs-loop-k : goal.invariant-open_inputs-loop-k
invariant-open_inputs-loop-k g l = record {
  planned : AreAllWell (inputs_of (drop l.k (inputs_in (expr_tree l.expr))));
  faultless : own_faults (inputs_of (drop l.k (inputs_in (expr_tree l.expr)))) ≡ None;
  plain : are_plain (inputs_of (drop l.k (inputs_in (expr_tree l.expr)))) ≡ true;
  parted : MayAllBeParted l.part.of (inputs_of (drop l.k (inputs_in (expr_tree l.expr))));
  lists :
      rests_of l.streams.items
      ++ lists_in_part (λ c. documents_of c l.cut) l.part.index l.part.of
      (inputs_of (drop l.k (inputs_in (expr_tree l.expr))))
      ≡ lists_in_part (λ c. documents_of c l.cut) l.part.index l.part.of
      (inputs_of (inputs_in (expr_tree l.expr)));
  orders : l.orders.items ++ orders_of (inputs_of (drop l.k (inputs_in (expr_tree l.expr))))
      ≡ orders_of (inputs_of (inputs_in (expr_tree l.expr)));
  fields : l.fields.items ++ all_fields (inputs_of (drop l.k (inputs_in (expr_tree l.expr))))
      ≡ all_fields (inputs_of (inputs_in (expr_tree l.expr)));
  begins :
      BeginsWith
      (fed_in (λ c. documents_of c l.cut) (inputs_of (drop l.k (inputs_in (expr_tree l.expr)))))
      l.feeds.items;
  taken :
      (rest : List (List Doc))
      → l.feeds.items
      ≡ fed_in (λ c. documents_of c l.cut)
      (inputs_of (drop l.k (inputs_in (expr_tree l.expr)))) ++ rest
      → l.fn.feeds.items
      ≡ fed_in (λ c. documents_of c l.cut) (inputs_of (inputs_in (expr_tree l.expr))) ++ rest;
}

-- an input is lower than its expression
abbrev pub decreases-open_expr : goal.decreases-open_expr
decreases-open_expr g l = height (expr_tree l.expr.now) * 2 + 1

abbrev pub decreases-open_inputs : goal.decreases-open_inputs
decreases-open_inputs g l = height (expr_tree l.expr.now) * 2
