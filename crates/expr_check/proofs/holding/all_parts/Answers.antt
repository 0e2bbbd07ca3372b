use Rattle.std.proofs.Common.{List, [], ◌++◌, ◌∙◌, ap}
use Rattle.std.proofs.lemmas.List.{flat_map_more}
use Rattle.expr_check.specs.Held.{held_parts}
use Rattle.expr_check.specs.Parts.{PartTree}
use Rattle.expr_check.proofs.holding.all_parts.Goals as goal

pub loop-within-preserved : goal.loop-within-preserved
loop-within-preserved c =
    c.in_ok-all.ensures
    ∙ ap (λ (l : List PartTree). l ++ held_parts c.in-Some.within) c.loop-within.invariant
    ∙ flat_map_more held_parts [] c.loop-within.yielded c.in-Some.within
