use Rattle.std.proofs.Common.{refl, ◌∙◌, subst}
use Rattle.std.specs.Prelude.{Some, IfErr}
use Rattle.expr_check.specs.Roots.{topic_parts}
use Rattle.expr_check.specs.Views.{tree_of}
use Rattle.update_sink.specs.Topics.{asked_by, sink_of}
use Rattle.update_sink.proofs.ReadLemmas.{text-readable, text-says}
use Rattle.update_sink.proofs.KeptLemmas.{run-kept, unbegun-unstored, uncut-unstored, whole-unstored, unstored-by}
use Rattle.update_sink.proofs.PromiseLemmas.{unstored-same}
use Rattle.update_sink.proofs.RunLemmas.{run-done, run-given, run-may, run-unasked, run-unbegun, run-uncut}
use Rattle.update_sink.specs.Promises.{IsUnstoredBy}
use Rattle.exchange_rules.specs.Rows.{Layout}
use Rattle.update_sink.proofs.running.run_delivery.Goals as goal

pub begin_topic-requires-clause-dest : goal.begin_topic-requires-clause-dest
begin_topic-requires-clause-dest g c =
    (c.requires.delivery.elsewhere, c.requires.there.dest)

pub begin_topic-requires-clause-readable : goal.begin_topic-requires-clause-readable
begin_topic-requires-clause-readable g c =
    let delivery = c.args.delivery.now in
    text-readable (tree_of delivery.input.now) (topic_parts delivery.topic)
    c.requires.delivery.topic c.expr-expr.ensures.planned

pub returns-in-Err-clause-course : goal.returns-in-Err-clause-course
returns-in-Err-clause-course g c =
    let l = g.T.Turns.layout c.args.site.now in
    let w = g.T.Turns.writer c.args.site.now in
    run-unasked w w l (sink_of c.args.delivery.now) c.halted.result c.halted.ensures

pub returns-in-Err-begin_topic-clause-course : goal.returns-in-Err-begin_topic-clause-course
returns-in-Err-begin_topic-clause-course g c =
    let l = g.T.Turns.layout c.args.site.now in
    let w = g.T.Turns.writer c.args.site.now in
    let w1 = g.T.Turns.writer c.begin_topic.new.site in
    let s = sink_of c.args.delivery.now in
    run-unbegun w w1 l s c.in-Ok.key c.in-Ok.ensures c.in-Err-begin_topic.fault
    c.halted-in-Err-begin_topic.result c.halted-in-Err-begin_topic.ensures
    c.in-Err-begin_topic.ensures.course

pub returns-in-Err-take_source-clause-course : goal.returns-in-Err-take_source-clause-course
returns-in-Err-take_source-clause-course g c =
    let l = g.T.Turns.layout c.args.site.now in
    let w = g.T.Turns.writer c.args.site.now in
    let w1 = g.T.Turns.writer c.begin_topic.new.site in
    let s = sink_of c.args.delivery.now in
    run-uncut w w1 l s c.in-Ok.key c.in-Ok.ensures (g.T.Turns.writer c.take_source.new.site)
    (g.T.Turns.layout c.begin_topic.new.site) c.in-Ok-begin_topic.ensures.layout
    c.in-Ok-begin_topic.before c.in-Ok-begin_topic.ensures.course c.in-Err-take_source.fault
    c.halted-in-Err-take_source.result c.halted-in-Err-take_source.ensures c.in-Err-take_source.ensures.course

pub finish-requires-clause-given : goal.finish-requires-clause-given
finish-requires-clause-given g c = λ κs within.
    let l = g.T.Turns.layout c.args.site.now in
    let w = g.T.Turns.writer c.args.site.now in
    let w1 = g.T.Turns.writer c.begin_topic.new.site in
    let w2 = g.T.Turns.writer c.take_source.new.site in
    let s = sink_of c.args.delivery.now in
    let begun = c.in-Ok-begin_topic in
    let taken = c.in-Ok-take_source in
    run-given w w1 l s c.in-Ok.key c.in-Ok.ensures w2 (g.T.Turns.layout c.begin_topic.new.site)
    begun.ensures.layout begun.before begun.ensures.course taken.taken taken.ensures.before
    taken.ensures.course (g.T.Turns.layout c.take_source.new.site) taken.ensures.layout
    taken.ensures.items taken.ensures.tops c.names-names.ensures.fit

pub finish-requires-clause-may : goal.finish-requires-clause-may
finish-requires-clause-may g c = λ κs within.
    let l = g.T.Turns.layout c.args.site.now in
    let w = g.T.Turns.writer c.args.site.now in
    let w1 = g.T.Turns.writer c.begin_topic.new.site in
    let w2 = g.T.Turns.writer c.take_source.new.site in
    let s = sink_of c.args.delivery.now in
    let begun = c.in-Ok-begin_topic in
    let taken = c.in-Ok-take_source in
    run-may w w1 l s c.in-Ok.key c.in-Ok.ensures w2 (g.T.Turns.layout c.begin_topic.new.site)
    begun.ensures.layout begun.before begun.ensures.course taken.taken taken.ensures.before
    taken.ensures.course (g.T.Turns.layout c.take_source.new.site) taken.ensures.layout
    taken.ensures.items taken.ensures.tops
    (text-says (tree_of c.args.delivery.now.input.now) s.topic c.requires.delivery.topic
    c.expr-expr.ensures.planned)

pub returns-clause-course : goal.returns-clause-course
returns-clause-course g c =
    let l = g.T.Turns.layout c.args.site.now in
    let w = g.T.Turns.writer c.args.site.now in
    let w1 = g.T.Turns.writer c.begin_topic.new.site in
    let w2 = g.T.Turns.writer c.take_source.new.site in
    let s = sink_of c.args.delivery.now in
    let begun = c.in-Ok-begin_topic in
    let taken = c.in-Ok-take_source in
    run-done w w1 l s c.in-Ok.key c.in-Ok.ensures w2 (g.T.Turns.layout c.begin_topic.new.site)
    begun.ensures.layout begun.before begun.ensures.course taken.taken taken.ensures.before
    taken.ensures.course (g.T.Turns.layout c.take_source.new.site) taken.ensures.layout
    taken.ensures.items taken.ensures.tops (g.T.Turns.writer c.finish.new.site)
    c.finish.result c.finish.ensures.course

pub returns-in-Err-clause-unstored : goal.returns-in-Err-clause-unstored
returns-in-Err-clause-unstored g c =
    let w = g.T.Turns.writer c.args.site.now in
    unstored-by (g.T.Turns.layout c.args.site.now).names w w _ (unstored-same w w refl)

pub returns-in-Err-begin_topic-clause-unstored : goal.returns-in-Err-begin_topic-clause-unstored
returns-in-Err-begin_topic-clause-unstored g c =
    unstored-by (g.T.Turns.layout c.args.site.now).names (g.T.Turns.writer c.args.site.now)
    (g.T.Turns.writer c.begin_topic.new.site) _
    (unbegun-unstored (g.T.Turns.writer c.args.site.now) (g.T.Turns.writer c.begin_topic.new.site)
    (g.T.Turns.layout c.args.site.now) _ c.in-Err-begin_topic.fault
    c.in-Err-begin_topic.ensures.course)

pub returns-in-Err-take_source-clause-unstored : goal.returns-in-Err-take_source-clause-unstored
returns-in-Err-take_source-clause-unstored g c =
    let delivery = c.args.delivery.now in
    let t = asked_by c.in-Ok.key (topic_parts delivery.topic) (Some delivery.dest.now) in
    unstored-by (g.T.Turns.layout c.args.site.now).names (g.T.Turns.writer c.args.site.now)
    (g.T.Turns.writer c.take_source.new.site) _
    (uncut-unstored (g.T.Turns.writer c.args.site.now) (g.T.Turns.writer c.begin_topic.new.site)
    (g.T.Turns.layout c.args.site.now) t c.in-Ok-begin_topic.before
    c.in-Ok-begin_topic.ensures.course (g.T.Turns.writer c.take_source.new.site)
    (g.T.Turns.layout c.begin_topic.new.site) t.src c.in-Err-take_source.fault
    c.in-Err-take_source.ensures.course)

pub returns-clause-unstored : goal.returns-clause-unstored
returns-clause-unstored g c =
    let delivery = c.args.delivery.now in
    let t = asked_by c.in-Ok.key (topic_parts delivery.topic) (Some delivery.dest.now) in
    whole-unstored (g.T.Turns.writer c.args.site.now) (g.T.Turns.writer c.begin_topic.new.site)
    (g.T.Turns.layout c.args.site.now) t c.in-Ok-begin_topic.before
    c.in-Ok-begin_topic.ensures.course (g.T.Turns.writer c.take_source.new.site)
    (g.T.Turns.writer c.finish.new.site) (g.T.Turns.layout c.begin_topic.new.site) t.src
    c.in-Ok-take_source.taken.cut _ c.finish.result c.in-Ok-take_source.ensures.course
    c.finish.ensures.course (g.T.Turns.layout c.args.site.now).names
    (subst (λ (x : Layout). IfErr c.finish.result (λ stop. IsUnstoredBy x.names
    (g.T.Turns.writer c.take_source.new.site) (g.T.Turns.writer c.finish.new.site) stop.fault))
    (c.in-Ok-take_source.ensures.layout ∙ c.in-Ok-begin_topic.ensures.layout)
    c.finish.ensures.unstored)

pub returns-clause-kept : goal.returns-clause-kept
returns-clause-kept g c =
    let taken = c.in-Ok-take_source.taken in
    run-kept (g.T.Turns.layout c.args.site.now) (g.T.Turns.layout c.take_source.new.site)
    (sink_of c.args.delivery.now) c.in-Ok.key taken.before taken.cut taken.items taken.tops
    (g.T.Turns.writer c.finish.new.site) c.finish.result
    (c.in-Ok-take_source.ensures.layout ∙ c.in-Ok-begin_topic.ensures.layout) c.in-Ok.ensures
    c.in-Ok-take_source.ensures.items c.in-Ok-take_source.ensures.tops c.finish.ensures.told
    c.finish.ensures.there c.finish.ensures.reached
