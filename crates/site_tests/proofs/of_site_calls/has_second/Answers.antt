use Rattle.std.proofs.Common.{◌≡◌, [], ◌∷◌, ◌++◌, sym, ap, ◌∙◌, subst}
use Rattle.std.specs.Prelude.{All}
use Rattle.running_site.specs.Passes.{number_of, numbers_to}
use Rattle.running_site.specs.Sites.{IsPassAt}
use Rattle.site_tests.proofs.TallyLemmas.{both, two_found}
use Rattle.site_tests.proofs.of_site_calls.has_second.Goals as goal

pub close-requires-clause-own : goal.close-requires-clause-own
close-requires-clause-own c =
    let one = c.args.first in
    let two = c.args.second in
    let At = IsPassAt c.args.site in
    let passes : c.push-2.new.self ≡ one ∷ two ∷ [] = c.in_ok-push-2.ensures.ok
    ∙ ap (λ l. l ++ two ∷ []) (c.in_ok-push.ensures.ok
    ∙ ap (λ l. l ++ one ∷ []) c.new-passes.ensures) in
    subst (λ l. All At l) (sym passes) (both At one two c.requires.own.0 c.requires.own.1)

pub close-requires-clause-all : goal.close-requires-clause-all
close-requires-clause-all c =
    let one = c.args.first in
    let two = c.args.second in
    let passes : c.push-2.new.self ≡ one ∷ two ∷ [] = c.in_ok-push-2.ensures.ok
    ∙ ap (λ l. l ++ two ∷ []) (c.in_ok-push.ensures.ok
    ∙ ap (λ l. l ++ one ∷ []) c.new-passes.ensures) in
    two_found number_of (numbers_to c.args.site.passes) c.push-2.new.self one two
    (ap numbers_to c.requires.passes) passes c.requires.numbers.0 c.requires.numbers.1
