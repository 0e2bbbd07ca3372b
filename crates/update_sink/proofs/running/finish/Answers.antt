use Rattle.std.proofs.Common.{refl, sym, ap, subst}
use Rattle.std.specs.Prelude.{map, IfErr}
use Rattle.exchange_rules.specs.Batches.{batches_of, none_sunk}
use Rattle.exchange_rules.specs.Rows.{Layout}
use Rattle.exchange_rules.specs.Topics.{sends_course}
use Rattle.exchange_rules.specs.declared.run.TopicFault.{TopicFault}
use Rattle.exchange_rules.specs.declared.run.TopicRun.{TopicRun}
use Rattle.stream_site.proofs.TestLemmas.{handed_on}
use Rattle.once_core.specs.Allowed.{MayStore}
use Rattle.site_laws.specs.SiteCells.{histories_in}
use Rattle.update_sink.specs.Given.{AreThereNow}
use Rattle.update_sink.specs.Promises as promised
use Rattle.update_sink.specs.Promises.{IsUnstoredBy}
use Rattle.update_sink.specs.Runs.{IsRun}
use Rattle.update_sink.specs.Sends.{finish_course, sunk_done}
use Rattle.update_sink.specs.Topics.{run_at, sent_item}
use Rattle.exchange_rules.specs.Batches.{Sunk}
use Rattle.update_sink.proofs.KeptLemmas.{refused-reached, store-unstored, unstored-by, unstored-since}
use Rattle.update_sink.proofs.PromiseLemmas.{stopped-run, sends-unstored, store-reaches, unstored-only, unstored-same, unstored-then}
use Rattle.update_sink.proofs.SendsLemmas.{there-later}
use Rattle.update_sink.proofs.RunLemmas.{finished, undelivered, unfinished, unstarted}
use Rattle.stream_site.specs.Topics.{HasStoredNone}
use Rattle.exchange_rules.specs.Bindings.{book_cell}
use Rattle.update_sink.proofs.running.finish.Goals as goal

pub returns-in-Err-clause-course : goal.returns-in-Err-clause-course
returns-in-Err-clause-course g c =
    let delivery = c.args.delivery.now in
    let l = g.T.Turns.layout c.args.site.now in
    let w = g.T.Turns.writer c.args.site.now in
    let taken = c.args.taken in
    let answer : Sunk → TopicRun = run_at taken.before taken.cut taken.tops in
    unstarted w w w l c.args.key.now delivery.dest.now delivery.topic.collection.now
    delivery.batch_size taken.items taken.tops answer c.halted.result c.halted.ensures

pub returns-in_err-done-clause-course : goal.returns-in_err-done-clause-course
returns-in_err-done-clause-course g c =
    let l = g.T.Turns.layout c.args.site.now in
    let w = g.T.Turns.writer c.args.site.now in
    let mid = g.T.Turns.writer c.deliver_all.new.site in
    let key = c.args.key.now in
    let dest = c.args.delivery.now.dest.now in
    let src = c.args.delivery.now.topic.collection.now in
    let taken = c.args.taken in
    let answer : Sunk → TopicRun = run_at taken.before taken.cut taken.tops in
    handed_on (IsRun w mid
    (finish_course l key dest src c.args.delivery.now.batch_size taken.items taken.tops answer)) _ _
    c.from_residual.ensures.1
    (undelivered w mid mid l key dest src c.args.delivery.now.batch_size taken.items taken.tops answer
    c.as_slice.result.now c.as_slice.ensures _ c.in_err-done.ensures.course)

pub returns-in-Ok-store_topic_over-clause-course
    : goal.returns-in-Ok-store_topic_over-clause-course
returns-in-Ok-store_topic_over-clause-course g c =
    let delivery = c.args.delivery.now in
    let l = g.T.Turns.layout c.args.site.now in
    let w = g.T.Turns.writer c.args.site.now in
    let mid = g.T.Turns.writer c.deliver_all.new.site in
    let new = g.T.Turns.writer c.store_topic_over.new.site in
    let taken = c.args.taken in
    let answer : Sunk → TopicRun = run_at taken.before taken.cut taken.tops in
    finished w mid new l c.args.key.now delivery.dest.now delivery.topic.collection.now
    delivery.batch_size taken.items taken.tops answer c.as_slice.result.now c.as_slice.ensures
    (g.T.Turns.layout c.deliver_all.new.site).names c.in-Ok.upto (sunk_done c.in_ok-done.done)
    (ap (λ (x : Layout). x.names) c.in_ok-done.ensures.layout) c.in-Ok.ensures
    c.in_ok-done.ensures.course c.in-Ok-store_topic_over.ensures.course

pub returns-in-Err-store_topic_over-clause-course
    : goal.returns-in-Err-store_topic_over-clause-course
returns-in-Err-store_topic_over-clause-course g c =
    let delivery = c.args.delivery.now in
    let l = g.T.Turns.layout c.args.site.now in
    let w = g.T.Turns.writer c.args.site.now in
    let mid = g.T.Turns.writer c.deliver_all.new.site in
    let new = g.T.Turns.writer c.store_topic_over.new.site in
    let taken = c.args.taken in
    let answer : Sunk → TopicRun = run_at taken.before taken.cut taken.tops in
    let told : TopicFault = record {
      summaries = c.in_ok-done.done.summaries;
      stand = c.in_ok-done.done.stand;
      fault = c.in-Err-store_topic_over.fault;
    } in
    unfinished w mid new l c.args.key.now delivery.dest.now delivery.topic.collection.now
    delivery.batch_size taken.items taken.tops answer c.as_slice.result.now c.as_slice.ensures
    (g.T.Turns.layout c.deliver_all.new.site).names c.in-Ok.upto (sunk_done c.in_ok-done.done) told
    (ap (λ (x : Layout). x.names) c.in_ok-done.ensures.layout) c.in-Ok.ensures (λ s. refl) refl
    c.in_ok-done.ensures.course c.in-Err-store_topic_over.ensures.course

pub store_topic_over-requires : goal.store_topic_over-requires
store_topic_over-requires g c =
    let delivery = c.args.delivery.now in
    let l = g.T.Turns.layout c.args.site.now in
    let mid = g.T.Turns.writer c.deliver_all.new.site in
    let key = c.args.key.now in
    let may = c.requires.may.storable mid.seen c.in_ok-done.ensures.course.grown
    (subst (AreThereNow l.names mid.seen delivery.dest.now delivery.topic.collection.now)
    c.as_slice.ensures c.in_ok-done.ensures.there) in
    subst (λ (x : Layout). MayStore x.names (histories_in x.names mid.seen) key c.in-Ok.upto)
    (sym c.in_ok-done.ensures.layout)
    (subst (MayStore l.names (histories_in l.names mid.seen) key) (sym c.in-Ok.ensures) may)

pub returns-in-Ok-store_topic_over-clause-told : goal.returns-in-Ok-store_topic_over-clause-told
returns-in-Ok-store_topic_over-clause-told g c =
    record { sunk = sunk_done c.in_ok-done.done; is = refl }

pub returns-in-Ok-store_topic_over-clause-there : goal.returns-in-Ok-store_topic_over-clause-there
returns-in-Ok-store_topic_over-clause-there g c =
    let delivery = c.args.delivery.now in
    let l = g.T.Turns.layout c.args.site.now in
    let mid = g.T.Turns.writer c.deliver_all.new.site in
    let new = g.T.Turns.writer c.store_topic_over.new.site in
    there-later l.names mid.seen new.seen delivery.dest.now delivery.topic.collection.now
    c.args.taken.items c.in-Ok-store_topic_over.ensures.course.grown
    (subst (AreThereNow l.names mid.seen delivery.dest.now delivery.topic.collection.now)
    c.as_slice.ensures c.in_ok-done.ensures.there)

pub returns-in-Ok-store_topic_over-clause-reached
    : goal.returns-in-Ok-store_topic_over-clause-reached
returns-in-Ok-store_topic_over-clause-reached g c =
    let l = g.T.Turns.layout c.args.site.now in
    let there = g.T.Turns.layout c.deliver_all.new.site in
    let mid = g.T.Turns.writer c.deliver_all.new.site in
    let new = g.T.Turns.writer c.store_topic_over.new.site in
    let key = c.args.key.now in
    let reached : promised.HasReached there.names new.seen key c.in-Ok.upto =
    store-reaches mid new there.names key c.in-Ok.upto c.in-Ok-store_topic_over.ensures.course in
    subst (promised.HasReached l.names new.seen key) c.in-Ok.ensures
    (subst (λ (x : Layout). promised.HasReached x.names new.seen key c.in-Ok.upto)
    c.in_ok-done.ensures.layout reached)

pub returns-in_err-done-clause-unstored : goal.returns-in_err-done-clause-unstored
returns-in_err-done-clause-unstored g c =
    let l = g.T.Turns.layout c.args.site.now in
    let w = g.T.Turns.writer c.args.site.now in
    let mid = g.T.Turns.writer c.deliver_all.new.site in
    let dest = c.args.delivery.now.dest.now in
    let src = c.args.delivery.now.topic.collection.now in
    let batches = batches_of c.args.delivery.now.batch_size
    (map (sent_item src) c.as_slice.result.now) in
    let course = sends_course l dest src none_sunk batches in
    let h = stopped-run w mid course _ c.in_err-done.ensures.course in
    handed_on (λ r. IfErr r (λ x. IsUnstoredBy l.names w mid x.fault)) _ _
    c.from_residual.ensures.1
    (unstored-by l.names w mid _
    (unstored-only w mid course h.rest h.reached (sends-unstored l dest src batches)))

pub returns-in-Err-store_topic_over-clause-unstored
    : goal.returns-in-Err-store_topic_over-clause-unstored
returns-in-Err-store_topic_over-clause-unstored g c =
    let l = g.T.Turns.layout c.args.site.now in
    let w = g.T.Turns.writer c.args.site.now in
    let mid = g.T.Turns.writer c.deliver_all.new.site in
    let new = g.T.Turns.writer c.store_topic_over.new.site in
    let dest = c.args.delivery.now.dest.now in
    let src = c.args.delivery.now.topic.collection.now in
    let batches = batches_of c.args.delivery.now.batch_size
    (map (sent_item src) c.as_slice.result.now) in
    let h = refused-reached mid new _ c.in-Err-store_topic_over.fault
    c.in-Err-store_topic_over.ensures.course in
    let fault = c.in-Err-store_topic_over.fault in
    let there = g.T.Turns.layout c.deliver_all.new.site in
    let here = c.in_ok-done.ensures.layout in
    let stored = subst (λ (x : Layout). HasStoredNone (book_cell x.names) mid new fault) here
    c.in-Err-store_topic_over.ensures.unstored in
    unstored-since l.names mid w new fault
    (unstored-then w mid new (sends_course l dest src none_sunk batches) _
    c.in_ok-done.ensures.course (sends-unstored l dest src batches) h.reached.grown)
    (store-unstored l.names mid new fault stored)

pub returns-in-Err-clause-unstored : goal.returns-in-Err-clause-unstored
returns-in-Err-clause-unstored g c =
    let w = g.T.Turns.writer c.args.site.now in
    unstored-by (g.T.Turns.layout c.args.site.now).names w w _ (unstored-same w w refl)
