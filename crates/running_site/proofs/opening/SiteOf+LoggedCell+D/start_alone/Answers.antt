use Rattle.std.proofs.Common.{◌≡◌, sym, subst, ◌∙◌}
use Rattle.std.specs.Prelude.{IfSome}
use Rattle.std.proofs.lemmas.List.Elements.{All-pop}
use Rattle.running_site.specs.Passes.{TablePass}
use Rattle.running_site.specs.Sites.{IsPassAt}
use Rattle.running_site.specs.declared.pass.PassOf.{PassOf}
use Rattle.running_site.proofs.opening.SiteOf+LoggedCell+D.start_alone.Goals as goal

pub returns-clause-own : goal.returns-clause-own
returns-clause-own g c =
    let site = c.in_ok-site.site in
    let last = sym c.into_vec-passes.ensures ∙ c.pop.ensures.items in
    subst (λ o. IfSome o (IsPassAt site)) c.unwrap-pass.ensures
    (All-pop (IsPassAt site) c.in_ok-site.passes c.pop.new.self.items
    c.pop.result last c.in_ok-site.ensures.own).1

pub returns-clause-now : goal.returns-clause-now
returns-clause-now g c =
    let P : PassOf (TablePass g.row.D.Denot) → Type 0 = λ pass. pass.now ≡ 0 in
    let last = sym c.into_vec-passes.ensures ∙ c.pop.ensures.items in
    subst (λ o. IfSome o P) c.unwrap-pass.ensures
    (All-pop P c.in_ok-site.passes c.pop.new.self.items
    c.pop.result last c.in_ok-site.ensures.now).1
