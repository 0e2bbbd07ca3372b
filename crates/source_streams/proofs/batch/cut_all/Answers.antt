use Rattle.std.proofs.Common.{◌<◌, ◌++◌, ◌∷◌, [], length, map, drop, ◌+◌, ap, sym, ◌∙◌, arith}
use Rattle.source_streams.specs.Batches.{cut_item}
use Rattle.source_streams.specs.Founds.{item_found}
use Rattle.source_streams.proofs.BatchLemmas.{cut_more}
use Rattle.source_streams.proofs.batch.cut_all.Goals as goal

pub loop-item-preserved : goal.loop-item-preserved
loop-item-preserved c =
    let found = c.args.found.now in
    let names = c.args.names.now in
    let at = c.loop-item.item-index in
    let item = c.item-item.result in
    let lt : at < length found = omega arith in
    let others = map (cut_item names) (map item_found (drop (at + 1) found)) in
    ap (λ made. made ++ others)
    (c.in_ok-push.ensures.ok
    ∙ ap (λ d. c.loop-item.batch
    ++ record { shard = item.shard; version = item.version; document = d } ∷ [])
    c.in_ok-document.ensures)
    ∙ sym (cut_more names c.loop-item.batch found at item lt c.item-item.is)
    ∙ c.loop-item.invariant
