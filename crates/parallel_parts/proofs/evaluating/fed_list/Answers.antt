use Rattle.std.proofs.Common.{◌≡◌, List, IfOk, subst, ◌∙◌}
use Rattle.tuple_values.specs.Document.{Doc}
use Rattle.expr_types.specs.Rules.{Collections}
use Rattle.expr_check.specs.Views.{part_tree}
use Rattle.source_streams.specs.Cuts.{documents_of}
use Rattle.parallel_parts.proofs.WorkLemmas.{split_ascends, split_merged}
use Rattle.parallel_parts.proofs.evaluating.fed_list.Goals as goal

pub merge_lists-requires : goal.merge_lists-requires
merge_lists-requires g c =
    let docs : Collections = λ n. documents_of n c.args.cut.now in
    split_ascends (part_tree c.args.part.now) docs c.in_ok-lists.lists.items c.requires
    c.in_ok-lists.ensures

pub returns : goal.returns
returns g c =
    let docs : Collections = λ n. documents_of n c.args.cut.now in
    subst (λ (l : List Doc). IfOk c.drain.result (λ tuples. tuples ≡ l))
    (c.in_ok-merged.ensures.list
    ∙ split_merged (part_tree c.args.part.now) docs c.in_ok-lists.lists.items c.requires
    c.in_ok-lists.ensures) c.drain.ensures
