use Rattle.std.proofs.Common.{◌≡◌}
use Rattle.running_site.specs.Passes.{number_of, writer_of}
use Rattle.running_site.specs.Sites.{layout_at, IsPassAt}
use Rattle.site_threads.specs.Work.{HasWorked, IsRun}
use Rattle.site_threads.proofs.delivering.deliver_until.Given as goal

-- the pass is of the same site, has its number, and made runs
abbrev pub invariant-loop : goal.invariant-loop
invariant-loop g l = record {
  own : IsPassAt l.site l.pass;
  number : number_of l.pass ≡ number_of l.fn.pass;
  work : HasWorked (layout_at l.site) IsRun (writer_of l.fn.pass)
      (writer_of l.pass);
}
