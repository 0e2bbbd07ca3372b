use Rattle.std.proofs.Common.{subst, sym}
use Rattle.shard_versions.specs.Histories.{slots, last_version}
use Rattle.shard_versions.specs.Logs.{Logged, IsMade}
use Rattle.shard_versions.proofs.LogLemmas.{log-push}
use Rattle.shard_versions.proofs.log.Log.push.Goals as goal

pub invariant_of-self : goal.invariant_of-self
invariant_of-self c =
    let right = log-push c.self.inside.chunks.slots c.push_slot.new.chunks.slots c.self.inside.notes.items
    c.push_reserved.new.self.items c.args.made c.len-at.result c.self.invariant.kept c.self.invariant.places
    c.self.invariant.stable
    (subst (λ (l : Logged). IsMade (last_version 0 (slots l.entries)) c.args.made) (sym c.self.view_is) c.requires.made)
    c.len-at.ensures.count c.push_slot.ensures.slots c.push_reserved.ensures.items in
    record { kept = right.kept; places = right.places; stable = right.stable }
