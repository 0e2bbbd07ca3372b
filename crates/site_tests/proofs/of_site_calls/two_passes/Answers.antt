use Rattle.std.proofs.Common.{◌∙◌, sym, ap, Some}
use Rattle.std.proofs.lemmas.List.Elements.{All-pop}
use Rattle.exchange_rules.specs.Following.{Writer}
use Rattle.running_site.specs.Passes.{new_writer, writer_of}
use Rattle.running_site.specs.Sites.{IsPassAt}
use Rattle.site_tests.proofs.TallyLemmas.{two_popped}
use Rattle.site_tests.proofs.of_site_calls.two_passes.Goals as goal

pub returns-clause-own : goal.returns-clause-own
returns-clause-own c =
    let At = IsPassAt c.in_ok-site.site in
    let last = sym c.into_vec-passes.ensures ∙ c.in-Some.ensures.items in
    let first = c.in-Some-pop.ensures.items in
    let one = All-pop At _ _ (Some c.in-Some.second) last c.in_ok-site.ensures.own in
    let two = All-pop At _ _ (Some c.in-Some-pop.first) first one.0 in (two.1, one.1)

pub returns-clause-numbers : goal.returns-clause-numbers
returns-clause-numbers c =
    let last = sym c.into_vec-passes.ensures ∙ c.in-Some.ensures.items in
    let first = c.in-Some-pop.ensures.items in
    let names = c.in_ok-three_names.field-0 in
    let writers = two_popped writer_of c.in_ok-site.passes c.pop.new.self.items
    c.pop-2.new.self.items c.in-Some-pop.first c.in-Some.second (new_writer names 1)
    (new_writer names 2) c.in_ok-site.ensures.new last first in
    (ap (λ (w : Writer). w.me) writers.0, ap (λ (w : Writer). w.me) writers.1)
