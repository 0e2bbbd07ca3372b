use Rattle.std.proofs.Common.{Some, sym, ◌∙◌}
use Rattle.std.proofs.lemmas.List.Elements.{All-pop}
use Rattle.running_site.specs.Sites.{IsPassAt}
use Rattle.disk_tests.proofs.of_logged_sites.over.Goals as goal

pub returns : goal.returns
returns g c =
    let last = sym c.into_vec-passes.ensures ∙ c.in-Some.ensures.items in
    (All-pop (IsPassAt c.in_ok-site.site) _ _ (Some c.in-Some.pass) last
    c.in_ok-site.ensures.own).1
