use Rattle.std.proofs.Common.{◌<◌, ◌^◌, length, map, refl, ap, ◌∙◌, arith}
use Rattle.exchange_rules.specs.Calls.{Answered}
use Rattle.exchange_rules.specs.Rows.{index_course}
use Rattle.exchange_rules.proofs.StepLemmas.{nothing_done}
use Rattle.stream_site.proofs.MayLemmas.{fit_shares}
use Rattle.stream_site.proofs.UpdateLemmas.{routed_to, routed_steps, update_committed, update_plain, update_refused, update_uncommitted}
use Rattle.stream_site.proofs.TestLemmas.{handed_on}
use Rattle.stream_site.proofs.index.index_steps_over.Goals as goal

pub returns-in_err-steps-clause-course : goal.returns-in_err-steps-clause-course
returns-in_err-steps-clause-course g c =
    let w = g.T.Turns.writer c.args.site.now in
    let course = index_course (g.T.Turns.layout c.args.site.now) c.args.collection.now
    c.args.writes c.args.commit in
    handed_on (Answered w w course) _ _ c.from_residual.ensures.1 (nothing_done 0 w w course refl)

pub returns-in_err-counts-clause-course : goal.returns-in_err-counts-clause-course
returns-in_err-counts-clause-course g c =
    let w = g.T.Turns.writer c.args.site.now in
    let course = index_course (g.T.Turns.layout c.args.site.now) c.args.collection.now
    c.args.writes c.args.commit in
    handed_on (Answered w w course) _ _ c.from_residual-in_err-counts.ensures.1
    (nothing_done 0 w w course refl)

pub write_all_over-requires-clause-steps : goal.write_all_over-requires-clause-steps
write_all_over-requires-clause-steps g c =
    let few : length c.args.writes < 2 ^ 64 = omega (arith, c.len-total.ensures) in
    routed_steps (g.T.Turns.layout c.args.site.now) c.args.collection.now
    (g.T.Turns.writer c.args.site.now).me c.number.result c.width-shards.result c.args.writes
    c.in_ok-steps.steps.items c.requires.known c.width-shards.ensures c.number.ensures c.in_ok-steps.ensures few

pub returns-in_err-write_all_over-clause-course : goal.returns-in_err-write_all_over-clause-course
returns-in_err-write_all_over-clause-course g c =
    let l = g.T.Turns.layout c.args.site.now in
    let w = g.T.Turns.writer c.args.site.now in
    let new = g.T.Turns.writer c.write_all_over.new.site in
    let routed = routed_to l c.args.collection.now c.number.result c.width-shards.result
    c.args.writes c.in_ok-steps.steps.items c.requires.known c.width-shards.ensures c.in_ok-steps.ensures in
    handed_on (Answered w new (index_course l c.args.collection.now c.args.writes c.args.commit))
    _ _ c.from_residual-in_err-write_all_over.ensures.1
    (update_refused w new l c.args.collection.now c.args.writes c.in_ok-steps.steps.items c.args.commit _
    routed c.in_err-write_all_over.ensures.course)

pub returns-then-not-commit-clause-course : goal.returns-then-not-commit-clause-course
returns-then-not-commit-clause-course g c =
    let l = g.T.Turns.layout c.args.site.now in
    let routed = routed_to l c.args.collection.now c.number.result c.width-shards.result
    c.args.writes c.in_ok-steps.steps.items c.requires.known c.width-shards.ensures c.in_ok-steps.ensures in
    update_plain (g.T.Turns.writer c.args.site.now) (g.T.Turns.writer c.write_all_over.new.site)
    l c.args.collection.now c.len-total.result c.args.writes c.in_ok-steps.steps.items c.args.commit
    routed c.len-total.ensures c.if-not-commit.true c.in_ok-write_all_over.ensures.course

pub returns-clause-course : goal.returns-clause-course
returns-clause-course g c =
    let l = g.T.Turns.layout c.args.site.now in
    let routed = routed_to l c.args.collection.now c.number.result c.width-shards.result
    c.args.writes c.in_ok-steps.steps.items c.requires.known c.width-shards.ensures c.in_ok-steps.ensures in
    update_committed (g.T.Turns.writer c.args.site.now)
    (g.T.Turns.writer c.write_all_over.new.site) (g.T.Turns.writer c.commit_shards_over.new.site)
    l (g.T.Turns.layout c.write_all_over.new.site) c.args.collection.now c.len-total.result
    c.args.writes c.in_ok-steps.steps.items c.deref-2.result.now c.args.commit
    c.in_ok-write_all_over.ensures.layout routed c.len-total.ensures
    (c.deref-2.ensures.value
    ∙ (c.in_ok-counts.ensures ∙ ap (map length) c.deref.ensures.value)) c.if-not-commit.false
    c.in_ok-write_all_over.ensures.course c.in_ok-commit_shards_over.ensures.course

pub returns-in_err-commit_shards_over-clause-course
    : goal.returns-in_err-commit_shards_over-clause-course
returns-in_err-commit_shards_over-clause-course g c =
    let l = g.T.Turns.layout c.args.site.now in
    let w = g.T.Turns.writer c.args.site.now in
    let new = g.T.Turns.writer c.commit_shards_over.new.site in
    let routed = routed_to l c.args.collection.now c.number.result c.width-shards.result
    c.args.writes c.in_ok-steps.steps.items c.requires.known c.width-shards.ensures c.in_ok-steps.ensures in
    handed_on (Answered w new (index_course l c.args.collection.now c.args.writes c.args.commit))
    _ _ c.from_residual-in_err-commit_shards_over.ensures.1
    (update_uncommitted w (g.T.Turns.writer c.write_all_over.new.site) new l
    (g.T.Turns.layout c.write_all_over.new.site) c.args.collection.now c.len-total.result
    c.args.writes c.in_ok-steps.steps.items c.deref-2.result.now c.args.commit _
    c.in_ok-write_all_over.ensures.layout routed c.len-total.ensures
    (c.deref-2.ensures.value
    ∙ (c.in_ok-counts.ensures ∙ ap (map length) c.deref.ensures.value)) c.if-not-commit.false
    c.in_ok-write_all_over.ensures.course c.in_err-commit_shards_over.ensures.course)

pub write_all_over-requires-clause-fit : goal.write_all_over-requires-clause-fit
write_all_over-requires-clause-fit g c =
    fit_shares (g.T.Turns.layout c.args.site.now).names c.args.collection.now c.number.result
    c.width-shards.result c.args.writes c.in_ok-steps.steps.items c.requires.storable
    c.width-shards.ensures c.in_ok-steps.ensures
