use Rattle.once_core.specs.Worlds.{seen_by}
use Rattle.once_core.proofs.StoreLemmas.{sent-shown}
use Rattle.once_core.proofs.store.are_sent.Goals as goal

pub returns : goal.returns
returns c =
    let s = c.args.seen.now in
    sent-shown s.names.now (seen_by s.actor s.world.now) c.args.binding.now c.args.dest.now c.args.history.now
    c.args.span.low c.args.span.high c.in_ok-shown.shown.documents c.are_shown_sent.result
    c.in_ok-shown.ensures.documents c.are_shown_sent.ensures
