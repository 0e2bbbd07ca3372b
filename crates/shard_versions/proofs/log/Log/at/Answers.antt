use Rattle.std.proofs.Common.{ap, sym, ◌∙◌, length, take, arith, ◌<◌}
use Rattle.shard_versions.specs.Histories.{slots}
use Rattle.shard_versions.specs.Logs.{Logged, entries_in}
use Rattle.shard_versions.specs.declared.log.Note.{Note}
use Rattle.shard_versions.proofs.LogLemmas.{log-at, slots-length}
use Rattle.shard_versions.proofs.log.Log.at.Goals as goal

pub returns-then-place-len : goal.returns-then-place-len
returns-then-place-len c =
    let notes = c.self.inside.notes.items in
    let ss = c.self.inside.chunks.slots in
    let lt : c.args.place < length notes = omega (arith, c.self.inside.notes.ok.0) in
    ap (λ (n : Note). n.at) c.index.ensures
    ∙ (log-at ss notes c.args.place c.index.result.now c.self.invariant.places lt
    ∙ (sym (slots-length (take c.args.place (entries_in ss notes)))
    ∙ ap (λ (l : Logged). length (slots (take c.args.place l.entries))) c.self.view_is))
