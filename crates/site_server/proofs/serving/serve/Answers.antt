use Rattle.std.proofs.Common.{ap, map, subst, sym, ◌∙◌}
use Rattle.std.specs.Prelude.{All, Contains}
use Rattle.running_site.specs.Passes.{number_of, numbers_to}
use Rattle.running_site.specs.Sites.{IsPassAt}
use Rattle.site_server.proofs.EndLemmas.{row-ended}
use Rattle.site_server.proofs.ListLemmas.{all-there}
use Rattle.site_server.proofs.serving.serve.Goals as goal

pub serve_row-passes-requires-clause-own : goal.serve_row-passes-requires-clause-own
serve_row-passes-requires-clause-own g c κs within =
    subst (All (IsPassAt c.in_ok-site.site)) (sym c.into_vec-passes.ensures)
    c.in_ok-site.ensures.own

pub close-requires-clause-own : goal.close-requires-clause-own
close-requires-clause-own g c =
    subst (All (IsPassAt c.in_ok-site.site)) (sym c.from_vec.ensures)
    c.serve_row-passes.ensures.own

pub close-requires-clause-all : goal.close-requires-clause-all
close-requires-clause-all g c =
    let count = c.in_ok-site.site.passes in
    subst (λ xs. All (λ number. Contains xs number) (numbers_to count))
    (ap numbers_to c.in_ok-site.ensures.site.2
    ∙ sym (ap (map number_of) c.from_vec.ensures ∙ c.serve_row-passes.ensures.numbers))
    (all-there (numbers_to count))

pub returns-clause-ok : goal.returns-clause-ok
returns-clause-ok g c =
    let made = c.in_ok-site.ensures.site in
    let end = c.in_ok-histories.ensures in
    row-ended _ _ c.args.names c.in_ok-site.site.names c.args.serving.now c.in_ok-site.site.limit
    c.in_ok-site.site.passes c.args.row.now c.serve_row-passes.new.row _
    c.serve_row-passes.result.0.items c.from_vec.result made.0 made.1 made.2 c.from_vec.ensures
    c.serve_row-passes.ensures.served end.law end.signed end.seen
