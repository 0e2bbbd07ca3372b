use Rattle.std.proofs.Common.{◌≡◌, [], ◌∷◌, ◌++◌, ap, ◌∙◌}
use Rattle.turn_table.specs.Calls.{known}
use Rattle.site_tests.proofs.TallyLemmas.{two_found}
use Rattle.site_tests.proofs.of_turn_table.sum_left.Goals as goal

pub close-cells-requires-clause-all : goal.close-cells-requires-clause-all
close-cells-requires-clause-all c =
    let one = c.args.first in
    let two = c.args.second in
    let passes : c.push-2.new.self ≡ one ∷ two ∷ [] = c.in_ok-push-2.ensures.ok
    ∙ ap (λ l. l ++ two ∷ []) (c.in_ok-push.ensures.ok
    ∙ ap (λ l. l ++ one ∷ []) c.new-passes.ensures) in
    two_found (λ pass. (known pass).number) _ c.push-2.new.self one two c.requires.numbers passes
    c.requires.one c.requires.two
