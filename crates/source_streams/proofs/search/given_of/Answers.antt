use Rattle.std.proofs.Common.{map, sym, ap, ◌∙◌}
use Rattle.expr_types.specs.Sources.{cut_to}
use Rattle.sort_spec.specs.Sorting.{ins_sort}
use Rattle.sort_spec.specs.Terms.{less}
use Rattle.source_streams.specs.Keeps.{given_doc}
use Rattle.source_streams.proofs.PartLemmas.{part_of-whole}
use Rattle.source_streams.proofs.search.given_of.Goals as goal

pub returns-in_default : goal.returns-in_default
returns-in_default g c =
    let cut = cut_to c.args.wanted.now.fl.now in
    rw (c.in_default.is, ← c.in_ok-found.ensures) (ap (map cut) c.in_ok-given.ensures
    ∙ sym (part_of-whole c.args.wanted.now.keys.now
    (map cut (ins_sort (less c.args.by) (map given_doc c.in_ok-found.found.items)))))
