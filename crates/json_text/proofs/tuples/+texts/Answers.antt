use Rattle.std.proofs.Common.{◌∙◌}
use Rattle.json_text.proofs.RepliesLemmas.{fields_text-drop}
use Rattle.json_text.proofs.tuples.+texts.Goals as goal

pub push_tuple-loop-k-preserved : goal.push_tuple-loop-k-preserved
push_tuple-loop-k-preserved t c =
    let within = rw c.count-k-end.ensures.count at c.loop-k-test.true in
    let next = fields_text-drop c.loop-k.out c.args.tuple.now c.loop-k.k _ _ within
    c.name.ensures c.value.ensures.value in
    rw (c.in_ok-push_value.ensures, c.in_ok-push_name.ensures, c.as_str.ensures)
    (next ∙ c.loop-k.invariant)
