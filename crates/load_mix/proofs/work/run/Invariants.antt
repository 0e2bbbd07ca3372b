-- The pass is the site's, with its number, and each run so far went well.
use Rattle.std.proofs.Common.{◌≡◌}
use Rattle.running_site.specs.Passes.{number_of, writer_of}
use Rattle.running_site.specs.Sites.{IsPassAt}
use Rattle.load_rules.specs.Worked.{HasRun}
use Rattle.load_mix.proofs.work.run.Given as goal

abbrev pub invariant-loop : goal.invariant-loop
invariant-loop g l = record {
  own : IsPassAt l.site l.pass;
  number : number_of l.pass ≡ number_of l.fn.pass;
  run : HasRun (writer_of l.fn.pass) (writer_of l.pass);
}
