use Rattle.std.proofs.Common.{sym, ap, ◌∙◌, []}
use Rattle.expr_types.specs.ExprTree.{Operator, node, inputs_of}
use Rattle.expr_plan.proofs.GivenLemmas.{search_found, search_is}
use Rattle.expr_plan.proofs.building.search.Goals as goal

pub returns : goal.returns
returns c =
    let whole =
    search_found c.args.params.items.items c.take_text-collection.new.self.items.items
    c.take_query-q.new.self.items.items c.take_names-fl.new.self.items.items
    c.take_sort-sort.new.self.items.items c.take_number-rows.new.self.items.items
    c.take_text-collection.ensures.rest c.take_query-q.ensures.rest c.take_names-fl.ensures.rest
    c.take_sort-sort.ensures.rest c.take_number-rows.ensures.rest in
    search_is c.take_text-collection.result c.take_query-q.result c.take_names-fl.result
    c.take_sort-sort.result c.take_number-rows.result c.take_names_maybe-partition_keys.result
    ∙ rw (
      c.take_text-collection.ensures.value,
      c.take_query-q.ensures.value,
      c.take_names-fl.ensures.value,
      c.take_sort-sort.ensures.value,
      c.take_number-rows.ensures.value,
      c.take_names_maybe-partition_keys.ensures.value,
    ) (ap (λ (op : Operator). node op (inputs_of [])) (sym whole))
