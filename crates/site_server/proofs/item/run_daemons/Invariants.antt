use Rattle.std.proofs.Common.{◌≡◌}
use Rattle.running_site.specs.Passes.{number_of}
use Rattle.running_site.specs.Sites.{IsPassAt}
use Rattle.site_server.proofs.item.run_daemons.Given as goal

-- the pass is still one of the site, with its number
abbrev pub invariant-loop : goal.invariant-loop
invariant-loop g l =
    record {
      own : IsPassAt l.fn.site l.pass;
      number : number_of l.pass ≡ number_of l.fn.pass;
    }
