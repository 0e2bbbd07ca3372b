use Rattle.std.proofs.Common.{◌≡◌, [], drop}
use Rattle.std.specs.List.{filter_map}
use Rattle.tuple_values.specs.Document.{over}
use Rattle.expr_types.specs.Rows.{chosen}
use Rattle.row_kernels.proofs.selecting.all_chosen.Given as goal

-- the fields that are still to be chosen of what is left are put into what is made
abbrev pub invariant-loop-k : goal.invariant-loop-k
invariant-loop-k l =
    over [] (filter_map (chosen l.fn.tuple) l.items)
    ≡ over l.made (filter_map (chosen l.rest) (drop l.k l.items))
