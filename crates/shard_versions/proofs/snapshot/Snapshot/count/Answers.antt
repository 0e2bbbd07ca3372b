use Rattle.std.proofs.Common.{length, ap, sym, ◌∙◌}
use Rattle.shard_versions.specs.Shards.{Shown}
use Rattle.shard_versions.proofs.CurrentLemmas.{current-count}
use Rattle.shard_versions.proofs.snapshot.Snapshot.count.Goals as goal

pub returns-then-self : goal.returns-then-self
returns-then-self c =
    let s = c.self.inside in
    c.len.ensures.count
    ∙ sym (current-count s.chunks.slots s.places.items s.all_current c.if-self.true)
    ∙ ap (λ (r : Shown). length r.documents) c.self.view_is
