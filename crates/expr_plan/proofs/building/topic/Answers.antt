use Rattle.std.proofs.Common.{sym, ap, ◌∙◌, []}
use Rattle.expr_types.specs.ExprTree.{Operator, node, inputs_of}
use Rattle.expr_plan.proofs.GivenLemmas.{topic_found, topic_is}
use Rattle.expr_plan.proofs.building.topic.Goals as goal

pub returns : goal.returns
returns c =
    let whole =
    topic_found c.args.params.items.items c.take_text-checkpoints.new.self.items.items
    c.take_text-collection.new.self.items.items c.take_text-id.new.self.items.items
    c.take_kept_query-q.new.self.items.items c.take_names-fl.new.self.items.items
    c.take_text-checkpoints.ensures.rest c.take_text-collection.ensures.rest
    c.take_text-id.ensures.rest c.take_kept_query-q.ensures.rest c.take_names-fl.ensures.rest in
    topic_is c.take_text-checkpoints.result c.take_text-collection.result c.take_text-id.result
    c.take_kept_query-q.result.0 c.take_kept_query-q.result.1 c.take_names-fl.result
    c.take_number-init.result
    ∙ rw (
      c.take_text-checkpoints.ensures.value,
      c.take_text-collection.ensures.value,
      c.take_text-id.ensures.value,
      c.take_kept_query-q.ensures.query,
      c.take_kept_query-q.ensures.text,
      c.take_names-fl.ensures.value,
      c.take_number-init.ensures.value,
    ) (ap (λ (op : Operator). node op (inputs_of [])) (sym whole))
