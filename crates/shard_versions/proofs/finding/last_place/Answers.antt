use Rattle.std.proofs.Common.{sym, ◌∙◌, ap}
use Rattle.shard_versions.specs.Trees.{is_at, first_of, passes}
use Rattle.shard_versions.proofs.FindLemmas.{finds-none, finds-last, finds-missed}
use Rattle.shard_versions.proofs.finding.last_place.Goals as goal

pub returns-then-first-eq0 : goal.returns-then-first-eq0
returns-then-first-eq0 c =
    finds-none c.args.sent c.args.tree.now c.args.tree.now c.args.log.now.entries c.requires
    c.args.src.now c.args.id.now
    (ap (first_of c.args.tree.now) (sym c.tag_of.ensures) ∙ (sym c.first-first.ensures ∙ c.if-first-eq0.true))

pub returns-then-is_here : goal.returns-then-is_here
returns-then-is_here c =
    c.place-place.ensures
    ∙ finds-last c.args.sent c.args.tree.now c.args.tree.now c.args.log.now.entries c.requires
    c.args.src.now c.args.id.now c.stop-at.result.0 c.stop-at.result.1 c.stop-at.ensures
    (ap (passes (is_at c.args.sent c.args.src.now c.args.id.now) c.args.log.now.entries) (sym c.place-place.ensures)
    ∙ (sym c.is_here.ensures ∙ c.if-is_here.true))

pub returns-else-is_here : goal.returns-else-is_here
returns-else-is_here c =
    finds-missed c.args.sent c.args.tree.now c.args.tree.now c.args.log.now.entries c.requires
    c.args.src.now c.args.id.now c.stop-at.result.0 c.stop-at.result.1 c.stop-at.ensures
    (ap (passes (is_at c.args.sent c.args.src.now c.args.id.now) c.args.log.now.entries) (sym c.place-place.ensures)
    ∙ (sym c.is_here.ensures ∙ c.if-is_here.false))
