use Rattle.std.proofs.Common.{◌∙◌, ap}
use Rattle.once_core.specs.Cells.{home_history}
use Rattle.once_core.specs.Worlds.{seen_by}
use Rattle.once_core.proofs.StoreLemmas.{sent-decides}
use Rattle.once_core.proofs.store.is_sent.Goals as goal

pub returns : goal.returns
returns c =
    let s = c.args.seen.now in
    let seen = seen_by s.actor s.world.now in
    sent-decides s.names.now seen c.args.binding.now c.args.dest.now c.args.version c.args.document.now
    c.home-home.result.now c.as_str-2.result.now c.id_of-id.result.now c.admits.result c.id_of-id.ensures c.as_str-2.ensures
    (c.home-home.ensures ∙ ap (λ d. home_history s.names.now seen d c.id_of-id.result.now) c.as_str.ensures)
    c.admits.ensures
