use Rattle.std.proofs.Common.{refl, arith}
use Rattle.stream_site.proofs.PlaceLemmas.{located}
use Rattle.stream_site.proofs.place.locate.Goals as goal

pub overflow_add-result : goal.overflow_add-result
overflow_add-result g c =
    let at = located (g.T.Turns.layout c.args.site.now) (g.T.Turns.writer c.args.site.now)
    c.names.result.now c.as_str.result.now c.args.collection.now c.first_cell-first.result
    c.from.result c.args.shard c.names.ensures.names c.as_str.ensures
    c.first_cell-first.ensures c.from.ensures c.requires c.names.ensures.cells
    c.names.ensures.few in
    let fits = at.fits in
    omega (arith, fits)

pub returns : goal.returns
returns g c =
    let at = located (g.T.Turns.layout c.args.site.now) (g.T.Turns.writer c.args.site.now)
    c.names.result.now c.as_str.result.now c.args.collection.now c.first_cell-first.result
    c.from.result c.args.shard c.names.ensures.names c.as_str.ensures
    c.first_cell-first.ensures c.from.ensures c.requires c.names.ensures.cells
    c.names.ensures.few in
    record {
      spot = record { collection_is = refl; shard_is = refl; cell_is = at.is; stand_is = refl };
      here = at.here;
    }
