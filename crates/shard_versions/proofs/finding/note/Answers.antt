use Rattle.std.proofs.Common.{◌+◌, cond, eqb, sym, ◌∙◌, ap, length}
use Rattle.shard_versions.specs.Trees.{is_at, first_of, passes}
use Rattle.shard_versions.proofs.FindLemmas.{finds-none, finds-last, finds-missed, finds-planted, finds-moved, finds-attached}
use Rattle.shard_versions.proofs.finding.note.Goals as goal

pub returns-then-first-eq0-clause-last : goal.returns-then-first-eq0-clause-last
returns-then-first-eq0-clause-last c =
    finds-none c.args.sent c.args.tree.now c.plant.new.self c.args.log.now.entries c.requires.finds
    c.args.src.now c.args.id.now
    (ap (first_of c.args.tree.now) (sym c.tag_of-tag.ensures) ∙ (sym c.first-first.ensures ∙ c.if-first-eq0.true))

pub returns-then-first-eq0-clause-finds : goal.returns-then-first-eq0-clause-finds
returns-then-first-eq0-clause-finds c = λ e t.
    finds-planted c.args.sent c.args.tree.now c.plant.new.self c.args.log.now.entries c.requires.finds
    c.args.src.now c.args.id.now
    (ap (first_of c.args.tree.now) (sym c.tag_of-tag.ensures) ∙ (sym c.first-first.ensures ∙ c.if-first-eq0.true))
    (c.len-place.result + 1) (ap (λ n. n + 1) c.len-place.ensures.count) c.plant.ensures.nodes
    (λ other. c.plant.ensures.roots other
    ∙ ap (λ g. cond (eqb g other) (length c.args.tree.now.nodes.items + 1) (first_of c.args.tree.now other)) c.tag_of-tag.ensures)
    e t

pub returns-then-is_here-clause-last : goal.returns-then-is_here-clause-last
returns-then-is_here-clause-last c =
    c.place-last.ensures
    ∙ finds-last c.args.sent c.args.tree.now c.move_to.new.self c.args.log.now.entries c.requires.finds
    c.args.src.now c.args.id.now c.stop-at.result.0 c.stop-at.result.1 c.stop-at.ensures
    (ap (passes (is_at c.args.sent c.args.src.now c.args.id.now) c.args.log.now.entries) (sym c.place-last.ensures)
    ∙ (sym c.is_here.ensures ∙ c.if-is_here.true))

pub returns-then-is_here-clause-finds : goal.returns-then-is_here-clause-finds
returns-then-is_here-clause-finds c = λ e t.
    finds-moved c.args.sent c.args.tree.now c.move_to.new.self c.args.log.now.entries c.requires.finds
    c.args.src.now c.args.id.now c.stop-at.result.0 c.stop-at.result.1 c.stop-at.ensures
    (ap (passes (is_at c.args.sent c.args.src.now c.args.id.now) c.args.log.now.entries) (sym c.place-last.ensures)
    ∙ (sym c.is_here.ensures ∙ c.if-is_here.true))
    (c.len-place.result + 1) (ap (λ n. n + 1) c.len-place.ensures.count) c.move_to.ensures.nodes c.move_to.ensures.roots
    e t

pub returns-else-is_here-clause-last : goal.returns-else-is_here-clause-last
returns-else-is_here-clause-last c =
    finds-missed c.args.sent c.args.tree.now c.attach.new.self c.args.log.now.entries c.requires.finds
    c.args.src.now c.args.id.now c.stop-at.result.0 c.stop-at.result.1 c.stop-at.ensures
    (ap (passes (is_at c.args.sent c.args.src.now c.args.id.now) c.args.log.now.entries) (sym c.place-last.ensures)
    ∙ (sym c.is_here.ensures ∙ c.if-is_here.false))

pub returns-else-is_here-clause-finds : goal.returns-else-is_here-clause-finds
returns-else-is_here-clause-finds c = λ e t.
    finds-attached c.args.sent c.args.tree.now c.attach.new.self c.args.log.now.entries c.requires.finds
    c.args.src.now c.args.id.now c.stop-at.result.0 c.stop-at.result.1 c.stop-at.ensures
    (ap (passes (is_at c.args.sent c.args.src.now c.args.id.now) c.args.log.now.entries) (sym c.place-last.ensures)
    ∙ (sym c.is_here.ensures ∙ c.if-is_here.false))
    (c.len-place.result + 1) (ap (λ n. n + 1) c.len-place.ensures.count) c.attach.ensures.nodes c.attach.ensures.roots
    e t
