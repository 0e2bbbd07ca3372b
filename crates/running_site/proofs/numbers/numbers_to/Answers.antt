use Rattle.std.proofs.Common.{◌+◌, ◌++◌, ◌∷◌, [], sym, ap, ◌∙◌}
use Rattle.running_site.proofs.NumberLemmas.{numbers-next}
use Rattle.running_site.proofs.numbers.numbers_to.Goals as goal

pub loop-before-preserved : goal.loop-before-preserved
loop-before-preserved c =
    c.in_ok-push.ensures.ok
    ∙ (ap (λ l. l ++ (c.loop-before.before + 1) ∷ []) c.loop-before.invariant
    ∙ sym (numbers-next c.loop-before.before))
