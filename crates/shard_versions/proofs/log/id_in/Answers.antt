use Rattle.std.proofs.Common.{ap, ◌∙◌}
use Rattle.shard_versions.specs.Documents.{id_of}
use Rattle.shard_versions.specs.Stored.{no_slot}
use Rattle.shard_versions.proofs.LogLemmas.{id_of-bare, id_of-none}
use Rattle.shard_versions.proofs.log.id_in.Goals as goal

pub returns-in-Some : goal.returns-in-Some
returns-in-Some c =
    c.id_of.ensures
    ∙ (ap id_of c.tuple.ensures
    ∙ id_of-bare c.args.chunks.now.slots c.args.at c.get.result.now c.in-Some.document (c.get.ensures no_slot) c.in-Some.is)

pub returns-in-None : goal.returns-in-None
returns-in-None c = id_of-none c.args.chunks.now.slots c.args.at c.get.result.now (c.get.ensures no_slot) c.in-None.is
