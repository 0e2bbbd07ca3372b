use Rattle.std.proofs.Common.{[], arith, refl, sym}
use Rattle.case_items.proofs.ItemLemmas.{item-is, routed}
use Rattle.case_items.proofs.items.item_of.Goals as goal

pub returns-clause-item : goal.returns-clause-item
returns-clause-item c seen dest there =
    item-is c.args.names.now seen dest c.args.src.now c.args.shard c.args.k
    c.version-version.result c.args.shown.now c.document.result.now c.in_ok-document.document
    there
    (record {
      in_range = c.requires.in_range;
      version_is = c.version-version.ensures (0, []);
      shown_is = c.document.ensures (0, []);
      reached = omega (arith, c.top.ensures, c.if-version-top.false);
      from = c.in_ok-document.ensures.from;
    })
    (routed c.args.names.now c.args.names.now c.args.src.now c.as_str.result.now
    c.in_ok-document.document c.id_of.result.now c.shards_of.result c.shard_of-home.result
    c.args.shard refl c.as_str.ensures c.id_of.ensures c.shards_of.ensures
    c.shard_of-home.ensures c.if-home-shard.false)
    (sym c.if-not-is_storable.ensures)
