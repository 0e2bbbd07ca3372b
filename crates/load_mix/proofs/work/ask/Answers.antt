use Rattle.std.proofs.Common.{refl, sym, subst, ◌∙◌}
use Rattle.expr_types.specs.Plain.{IsPlain}
use Rattle.running_site.specs.Passes.{writer_of}
use Rattle.load_mix.proofs.AddLemmas.{added_none}
use Rattle.load_mix.proofs.RunningLemmas.{read_join}
use Rattle.load_mix.proofs.work.ask.Goals as goal

pub loop-init : goal.loop-init
loop-init g c = record {
  own = c.requires.own;
  number = refl;
  read = added_none (writer_of c.args.pass.now);
}

pub query-requires-clause-plain : goal.query-requires-clause-plain
query-requires-clause-plain g c κs within = subst IsPlain (sym c.requires.query) refl

pub loop-preserved : goal.loop-preserved
loop-preserved g c = record {
  own = c.query.ensures.own;
  number = c.query.ensures.number ∙ c.loop.invariant.number;
  read = read_join (writer_of c.args.pass.now) (writer_of c.loop.pass)
      (writer_of c.query.new.pass) c.loop.invariant.read c.query.ensures.read;
}

pub returns-in-Err-clause-read : goal.returns-in-Err-clause-read
returns-in-Err-clause-read g c =
    read_join (writer_of c.args.pass.now) (writer_of c.loop.pass) (writer_of c.query.new.pass)
    c.loop.invariant.read c.query.ensures.read
