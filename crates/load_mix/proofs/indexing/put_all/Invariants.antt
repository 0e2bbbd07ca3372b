-- All writes so far are put but those of the batch.
use Rattle.std.proofs.Common.{◌≡◌}
use Rattle.exchange_rules.specs.Steps.{AreStorableWrites}
use Rattle.running_site.specs.Passes.{number_of, writer_of}
use Rattle.running_site.specs.Sites.{IsPassAt}
use Rattle.load_mix.proofs.PutLemmas.{HasPutBut}
use Rattle.load_mix.proofs.indexing.put_all.Given as goal

abbrev pub invariant-loop-write : goal.invariant-loop-write
invariant-loop-write g l = record {
  own : IsPassAt l.site l.pass;
  number : number_of l.pass ≡ number_of l.fn.pass;
  storable : AreStorableWrites l.batch;
  put : HasPutBut l.batch l.yielded (writer_of l.fn.pass) (writer_of l.pass);
}
