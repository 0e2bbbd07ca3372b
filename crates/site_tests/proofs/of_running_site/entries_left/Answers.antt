use Rattle.std.proofs.Common.{[], ◌∷◌, ◌++◌, ◌∙◌, ap}
use Rattle.running_site.specs.Sites.{IsPassAt}
use Rattle.site_tests.proofs.PassLemmas.{all-one, numbers-one}
use Rattle.site_tests.proofs.of_running_site.entries_left.Goals as goal

pub close-requires-clause-own : goal.close-requires-clause-own
close-requires-clause-own c =
    let site = c.args.site in
    let pass = c.args.pass in
    all-one (IsPassAt site) c.push.new.self pass
    (c.in_ok-push.ensures.ok ∙ ap (λ list. list ++ pass ∷ []) c.new-passes.ensures)
    c.requires.own

pub close-requires-clause-all : goal.close-requires-clause-all
close-requires-clause-all c =
    let pass = c.args.pass in
    numbers-one c.push.new.self pass c.args.site.passes
    (c.in_ok-push.ensures.ok ∙ ap (λ list. list ++ pass ∷ []) c.new-passes.ensures)
    c.requires.number c.requires.passes
