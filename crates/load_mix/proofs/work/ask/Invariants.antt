-- The pass is the site's, with its number, and has only read.
use Rattle.std.proofs.Common.{◌≡◌}
use Rattle.running_site.specs.Passes.{number_of, writer_of}
use Rattle.running_site.specs.Sites.{IsPassAt}
use Rattle.load_rules.specs.Worked.{HasRead}
use Rattle.load_mix.proofs.work.ask.Given as goal

abbrev pub invariant-loop : goal.invariant-loop
invariant-loop g l = record {
  own : IsPassAt l.site l.pass;
  number : number_of l.pass ≡ number_of l.fn.pass;
  read : HasRead (writer_of l.fn.pass) (writer_of l.pass);
}
