use Rattle.std.proofs.Common.{◌≡◌, ◌≤◌, ◌-◌, length, drop}
use Rattle.tuple_values.specs.Order.{rows_cmp, fields_cmp}
use Rattle.tuple_values.specs.Document.{rows_of, fields_of, rows_depth, fields_depth, datum_depth}
use Rattle.tuple_values.specs.Views.{datum_of, doc_of}
use Rattle.tuple_values.proofs.comparing.+comparing.Given as goal

abbrev pub invariant-compare_groups-loop-k : goal.invariant-compare_groups-loop-k
invariant-compare_groups-loop-k l = record {
  left : l.k ≤ length l.a;
  right : l.k ≤ length l.b;
  rest : rows_cmp (rows_of l.a) (rows_of l.b) ≡ rows_cmp (rows_of (drop l.k l.a)) (rows_of (drop l.k l.b));
}

abbrev pub decreases-compare_groups-loop-k : goal.decreases-compare_groups-loop-k
decreases-compare_groups-loop-k l = length l.a - l.k

abbrev pub invariant-compare_fields-loop-k : goal.invariant-compare_fields-loop-k
invariant-compare_fields-loop-k l = record {
  left : l.k ≤ length l.a;
  right : l.k ≤ length l.b;
  rest : fields_cmp (fields_of (doc_of l.a)) (fields_of (doc_of l.b)) ≡ fields_cmp (fields_of (doc_of (drop l.k l.a))) (fields_of (doc_of (drop l.k l.b)));
}

abbrev pub decreases-compare_fields-loop-k : goal.decreases-compare_fields-loop-k
decreases-compare_fields-loop-k l = length l.a - l.k

abbrev pub decreases-compare_values : goal.decreases-compare_values
decreases-compare_values l = datum_depth (datum_of l.a.now)

abbrev pub decreases-compare_groups : goal.decreases-compare_groups
decreases-compare_groups l = rows_depth (rows_of l.a.now)

abbrev pub decreases-compare_fields : goal.decreases-compare_fields
decreases-compare_fields l = fields_depth (fields_of (doc_of l.a.now))
