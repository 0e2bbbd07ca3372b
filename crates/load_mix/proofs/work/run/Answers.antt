use Rattle.std.proofs.Common.{refl, ◌∙◌}
use Rattle.running_site.specs.Passes.{writer_of}
use Rattle.load_mix.proofs.RunningLemmas.{run_join, run_none}
use Rattle.load_mix.proofs.work.run.Goals as goal

pub loop-init : goal.loop-init
loop-init g c = record {
  own = c.requires.own;
  number = refl;
  run = run_none (writer_of c.args.pass.now);
}

pub loop-preserved : goal.loop-preserved
loop-preserved g c = record {
  own = c.deliver.ensures.own;
  number = c.deliver.ensures.number ∙ c.loop.invariant.number;
  run = run_join (writer_of c.args.pass.now) (writer_of c.loop.pass)
      (writer_of c.deliver.new.pass) c.loop.invariant.run c.in-Ok.ensures.done.run;
}
