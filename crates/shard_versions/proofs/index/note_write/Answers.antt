use Rattle.std.proofs.Common.{false, ap, sym, ◌∙◌}
use Rattle.shard_versions.specs.Indexes.{written_id, is_id}
use Rattle.shard_versions.proofs.FindLemmas.{finds-skips}
use Rattle.shard_versions.proofs.index.note_write.Goals as goal

pub returns-in-None-clause-finds : goal.returns-in-None-clause-finds
returns-in-None-clause-finds c = λ e k.
    finds-skips false c.args.ids.now c.args.ids.now c.args.log.now.entries c.requires.finds e
    (λ src id. ap (is_id id) (ap written_id k ∙ sym c.in-None.ensures))
