use Rattle.once_core.specs.Worlds.{seen_by}
use Rattle.once_core.proofs.DispatchLemmas.{delivery-none, delivery-late, delivery-some}
use Rattle.once_core.proofs.dispatch.is_delivery.Goals as goal

pub returns-then-version-top_of : goal.returns-then-version-top_of
returns-then-version-top_of c = λ cell.
    let s = c.args.seen.now in
    delivery-some s.names.now (seen_by s.actor s.world.now) cell c.args.src.now c.args.version c.args.delivered.now
    c.home-home.result.now c.id_of-id.result.now c.id_of-id.ensures c.home-home.ensures
    c.in-Some.source.now c.top_of.result c.is_from.result c.in-Some.ensures c.top_of.ensures c.if-version-top_of.true c.is_from.ensures

pub returns-else-version-top_of : goal.returns-else-version-top_of
returns-else-version-top_of c = λ cell.
    let s = c.args.seen.now in
    delivery-late s.names.now (seen_by s.actor s.world.now) cell c.args.src.now c.args.version c.args.delivered.now
    c.home-home.result.now c.id_of-id.result.now c.id_of-id.ensures c.home-home.ensures
    c.top_of.result c.top_of.ensures c.if-version-top_of.false

pub returns-in-None : goal.returns-in-None
returns-in-None c = λ cell.
    let s = c.args.seen.now in
    delivery-none s.names.now (seen_by s.actor s.world.now) cell c.args.src.now c.args.version c.args.delivered.now
    c.home-home.result.now c.id_of-id.result.now c.id_of-id.ensures c.home-home.ensures c.in-None.ensures
