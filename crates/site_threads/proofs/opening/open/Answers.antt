use Rattle.std.proofs.Common.{map, sym, ap, ◌∙◌, subst}
use Rattle.std.specs.Prelude.{All}
use Rattle.running_site.specs.Passes.{number_of, numbers_to}
use Rattle.running_site.specs.Sites.{IsPassAt}
use Rattle.site_threads.specs.Workers.{pass_in}
use Rattle.site_threads.proofs.ListLemmas.{all-of, map-of}
use Rattle.site_threads.proofs.PassLemmas.{numbers-new}
use Rattle.site_threads.proofs.opening.open.Goals as goal

pub returns-clause-own : goal.returns-clause-own
returns-clause-own c =
    all-of (IsPassAt c.in_ok-site.site) pass_in c.in_ok-workers.workers.items
    (subst (All (IsPassAt c.in_ok-site.site)) (sym c.in_ok-workers.ensures) c.in_ok-site.ensures.own)

pub returns-clause-numbers : goal.returns-clause-numbers
returns-clause-numbers c =
    sym (map-of number_of pass_in c.in_ok-workers.workers.items)
    ∙ (ap (map number_of) c.in_ok-workers.ensures
    ∙ (numbers-new _ c.in_ok-site.passes _ c.in_ok-site.ensures.new
    ∙ ap numbers_to (sym c.in_ok-site.ensures.site.2)))
