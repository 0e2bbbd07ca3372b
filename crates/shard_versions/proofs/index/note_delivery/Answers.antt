use Rattle.std.proofs.Common.{true, ap, ◌∙◌}
use Rattle.shard_versions.specs.Indexes.{is_delivery}
use Rattle.shard_versions.proofs.FindLemmas.{finds-skips}
use Rattle.shard_versions.proofs.index.note_delivery.Goals as goal

pub returns-in-Put-clause-finds : goal.returns-in-Put-clause-finds
returns-in-Put-clause-finds c = λ e k.
    finds-skips true c.args.sends.now c.args.sends.now c.args.log.now.entries c.requires.finds e
    (λ src id. ap (is_delivery src id) (k ∙ c.in-Put.is))

pub returns-in-Del-clause-finds : goal.returns-in-Del-clause-finds
returns-in-Del-clause-finds c = λ e k.
    finds-skips true c.args.sends.now c.args.sends.now c.args.log.now.entries c.requires.finds e
    (λ src id. ap (is_delivery src id) (k ∙ c.in-Del.is))

pub returns-in-Mark-clause-finds : goal.returns-in-Mark-clause-finds
returns-in-Mark-clause-finds c = λ e k.
    finds-skips true c.args.sends.now c.args.sends.now c.args.log.now.entries c.requires.finds e
    (λ src id. ap (is_delivery src id) (k ∙ c.in-Mark.is))
