use Rattle.std.proofs.Common.{sym, subst}
use Rattle.std.specs.Prelude.{All}
use Rattle.std.proofs.lemmas.List.Elements.{All-map}
use Rattle.running_site.specs.Sites.{IsPassAt}
use Rattle.site_threads.specs.Workers.{pass_in}
use Rattle.site_threads.proofs.PassLemmas.{all-numbers}
use Rattle.site_threads.proofs.opening.close.Goals as goal

pub close-requires-clause-own : goal.close-requires-clause-own
close-requires-clause-own c =
    subst (All (IsPassAt c.args.site)) (sym c.in_ok-passes.ensures)
    (All-map (IsPassAt c.args.site) pass_in c.args.workers.items c.requires.own)

pub close-requires-clause-all : goal.close-requires-clause-all
close-requires-clause-all c =
    all-numbers c.args.workers.items c.in_ok-passes.passes c.args.site.passes
    c.in_ok-passes.ensures c.requires.numbers
