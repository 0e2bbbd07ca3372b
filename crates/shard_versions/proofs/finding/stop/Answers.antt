use Rattle.std.proofs.Common.{arith, sym, ◌∙◌, ap}
use Rattle.shard_versions.specs.Trees.{side_of}
use Rattle.shard_versions.proofs.FindLemmas.{finds-begins, finds-goes}
use Rattle.shard_versions.proofs.finding.stop.Goals as goal

pub walk-init : goal.walk-init
walk-init c =
    finds-begins c.args.sent c.args.tree.now c.args.log.now.entries c.requires.finds c.args.src.now c.args.id.now
    c.args.first c.requires.first c.requires.some

pub walk-preserved : goal.walk-preserved
walk-preserved c =
    finds-goes c.args.sent c.args.tree.now c.args.log.now.entries c.requires.finds c.args.src.now c.args.id.now
    c.walk.at c.walk.depth c.place.result c.below-lower.result c.side_of-right.result c.walk.invariant
    c.place.ensures (c.side_of-right.ensures
    ∙ (ap (λ b. side_of c.mark_of-mark.result b c.walk.depth) c.as_bytes.ensures.value
    ∙ ap (λ m. side_of m c.args.id.now c.walk.depth) c.mark_of-mark.ensures))
    c.below-lower.ensures (sym c.is_here.ensures ∙ c.if-is_here.false) (omega (arith, c.if-lower-eq0.false))
