use Rattle.std.proofs.Common.{◌≡◌, ◌++◌, false, drop, codes, nat_lt}
use Rattle.tuple_values.specs.Document.{fields_of, rows_of, datum_depth, doc_depth, docs_depth}
use Rattle.tuple_values.specs.Views.{datum_of}
use Rattle.json_text.specs.Replies.{fields_text, rows_text, tuple_text}
use Rattle.json_text.proofs.tuples.+texts.Given as goal

-- what is written, and the text of the fields that are left, are the text of the tuple
abbrev pub invariant-push_tuple-loop-k : goal.invariant-push_tuple-loop-k
invariant-push_tuple-loop-k l =
    l.out ++ fields_text (nat_lt 0 l.k) (fields_of (drop l.k l.tuple))
    ≡ l.fn.out ++ tuple_text l.tuple

-- the same of the tuples of a group
abbrev pub invariant-push_group-loop-k : goal.invariant-push_group-loop-k
invariant-push_group-loop-k l =
    l.out ++ rows_text (nat_lt 0 l.k) (rows_of (drop l.k l.group))
    ≡ l.fn.out ++ (codes "[" ++ rows_text false (rows_of l.group))

abbrev pub decreases-push_value : goal.decreases-push_value
decreases-push_value l = datum_depth (datum_of l.value.now)

abbrev pub decreases-push_group : goal.decreases-push_group
decreases-push_group l = docs_depth l.group.now

abbrev pub decreases-push_tuple : goal.decreases-push_tuple
decreases-push_tuple l = doc_depth l.tuple.now
