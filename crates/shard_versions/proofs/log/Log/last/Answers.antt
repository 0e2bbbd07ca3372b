use Rattle.std.proofs.Common.{ap, ◌∙◌}
use Rattle.shard_versions.specs.Histories.{slots, last_version}
use Rattle.shard_versions.specs.Stored.{last_stored}
use Rattle.shard_versions.specs.Logs.{Logged, entries_in}
use Rattle.shard_versions.proofs.LogLemmas.{last_stored-kept}
use Rattle.shard_versions.proofs.log.Log.last.Goals as goal

pub returns : goal.returns
returns c =
    c.last_of.ensures
    ∙ (ap (last_stored 0) c.self.invariant.kept
    ∙ (last_stored-kept 0 (slots (entries_in c.self.inside.chunks.slots c.self.inside.notes.items))
    ∙ ap (λ (l : Logged). last_version 0 (slots l.entries)) c.self.view_is))
