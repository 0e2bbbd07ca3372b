use Rattle.std.proofs.Common.{ap, sym, subst, length, ◌<◌}
use Rattle.shard_versions.specs.Logs.{Logged, width, kind_in}
use Rattle.shard_versions.proofs.LogLemmas.{log-held}
use Rattle.shard_versions.proofs.log.Log.written_id.Goals as goal

pub id_in-requires : goal.id_in-requires
id_in-requires c =
    log-held c.self.inside.chunks.slots c.self.inside.notes.items c.args.place c.index-note.result.now c.index-note.ensures
    c.self.invariant.kept c.self.invariant.places
    (subst (λ (l : Logged). c.args.place < length l.entries) (sym c.self.view_is) c.requires)
    (ap (λ a. width (kind_in c.self.inside.chunks.slots c.index-note.result.now.at a)) c.in-Puts.is)

pub id_in-requires-in-Delivers : goal.id_in-requires-in-Delivers
id_in-requires-in-Delivers c =
    log-held c.self.inside.chunks.slots c.self.inside.notes.items c.args.place c.index-note.result.now c.index-note.ensures
    c.self.invariant.kept c.self.invariant.places
    (subst (λ (l : Logged). c.args.place < length l.entries) (sym c.self.view_is) c.requires)
    (ap (λ a. width (kind_in c.self.inside.chunks.slots c.index-note.result.now.at a)) c.in-Delivers.is)
