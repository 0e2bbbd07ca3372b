use Rattle.std.proofs.Common.{◌≡◌, ◌+◌, ◌<◌, ◌^◌, ◌++◌, [], length, map, take, refl, sym, ap, ◌∙◌, subst, arith}
use Rattle.std.proofs.lemmas.Grind.{common_steps}
use Rattle.topic_book.specs.Fitness.{shards_of}
use Rattle.exchange_rules.specs.Batches.{Sunk, batches_of, none_sunk, stand_in}
use Rattle.exchange_rules.specs.Following.{Reaches}
use Rattle.exchange_rules.specs.Rows.{Layout}
use Rattle.exchange_rules.specs.Topics.{sends_course, stopped_by}
use Rattle.exchange_rules.proofs.ReachLemmas.{reaches_none}
use Rattle.update_sink.specs.Given.{AreGiven, AreThereNow}
use Rattle.update_sink.specs.Progresses.{sunk_of}
use Rattle.update_sink.specs.Sends.{send_of}
use Rattle.update_sink.specs.Topics.{sent_item}
use Rattle.update_sink.proofs.SendsLemmas.{batch-sent, batch-unsent, done-run, given-drop, given-later, given-take, sent-grown, there-all, there-later, there-more, whole-more}
use Rattle.update_sink.proofs.StandLemmas.{counted-sends}
use Rattle.update_sink.proofs.delivering.deliver_all.Goals as goal

pub loop-rest-init : goal.loop-rest-init
loop-rest-init g c =
    let l = g.T.Turns.layout c.args.site.now in
    let w = g.T.Turns.writer c.args.site.now in
    let dest = c.args.delivery.now.dest.now in
    let src = c.args.delivery.now.topic.collection.now in
    let all = batches_of c.args.delivery.now.batch_size (map (sent_item src) c.args.items.now) in
    let course = sends_course l dest src none_sunk all in
    record {
      same = refl;
      home = refl;
      reached = subst (λ s. Reaches w w course (sends_course l dest src s all))
          (sym c.none-progress.ensures) (reaches_none w course);
      given = c.requires.given;
      front = [];
      whole = refl;
      there = tt;
    }

pub send_batch-requires-clause-known : goal.send_batch-requires-clause-known
send_batch-requires-clause-known g c =
    subst (λ (x : Layout). 0 < shards_of x.names c.args.delivery.now.dest.now)
    (sym c.loop-rest.invariant.same) c.requires.known

pub send_batch-requires-clause-given : goal.send_batch-requires-clause-given
send_batch-requires-clause-given g c =
    let l = g.T.Turns.layout c.args.site.now in
    let mid = g.T.Turns.writer c.loop-rest.site in
    let src = c.args.delivery.now.topic.collection.now in
    let fields = c.args.delivery.now.topic.fl.now in
    subst (λ (x : Layout). AreGiven x.names mid.seen src fields c.front-batch.result.now)
    (sym c.loop-rest.invariant.same)
    (subst (AreGiven l.names mid.seen src fields) (sym c.front-batch.ensures)
    (given-take l.names mid.seen src fields c.args.delivery.now.batch_size c.loop-rest.rest.now
    c.loop-rest.invariant.given))

pub returns-in-Err-clause-course : goal.returns-in-Err-clause-course
returns-in-Err-clause-course g c =
    let l = g.T.Turns.layout c.args.site.now in
    let w = g.T.Turns.writer c.args.site.now in
    let mid = g.T.Turns.writer c.loop-rest.site in
    let new = g.T.Turns.writer c.send_batch.new.site in
    let dest = c.args.delivery.now.dest.now in
    let src = c.args.delivery.now.topic.collection.now in
    let size = c.args.delivery.now.batch_size in
    let rest = c.loop-rest.rest.now in
    let filled : 0 < length rest = grind (arith, common_steps) in
    let course = sends_course l dest src none_sunk
    (batches_of size (map (sent_item src) c.args.items.now)) in
    batch-unsent w mid new course l (g.T.Turns.layout c.loop-rest.site) dest src size
    (sunk_of c.loop-rest.progress) rest c.loop-rest.invariant.same c.requires.size filled
    c.front-batch.result.now (sunk_of c.send_batch.new.progress) c.in-Err.fault c.stopped.result
    c.front-batch.ensures c.in-Err.ensures.err
    (c.stopped.ensures ∙ ap (λ (x : Sunk). stopped_by x c.in-Err.fault) c.in-Err.ensures.err)
    (counted-sends l dest src none_sunk (batches_of size (map (sent_item src) c.args.items.now)))
    c.loop-rest.invariant.reached c.in-Err.ensures.course

pub stopped-requires : goal.stopped-requires
stopped-requires g c =
    subst (λ (x : Sunk). x.stand + stand_in c.in-Err.fault < 2 ^ 64) (sym c.in-Err.ensures.err)
    c.in-Err.ensures.fits

pub loop-rest-preserved : goal.loop-rest-preserved
loop-rest-preserved g c =
    let l = g.T.Turns.layout c.args.site.now in
    let there = g.T.Turns.layout c.loop-rest.site in
    let w = g.T.Turns.writer c.args.site.now in
    let mid = g.T.Turns.writer c.loop-rest.site in
    let new = g.T.Turns.writer c.send_batch.new.site in
    let dest = c.args.delivery.now.dest.now in
    let src = c.args.delivery.now.topic.collection.now in
    let fields = c.args.delivery.now.topic.fl.now in
    let size = c.args.delivery.now.batch_size in
    let rest = c.loop-rest.rest.now in
    let s = sunk_of c.loop-rest.progress in
    let now = sunk_of c.send_batch.new.progress in
    let front = c.front-batch.result.now in
    let behind = c.behind-rest.result.now in
    let filled : 0 < length rest = grind (arith, common_steps) in
    let old = c.loop-rest.invariant in
    let course = sends_course l dest src none_sunk
    (batches_of size (map (sent_item src) c.args.items.now)) in
    let sent = c.in-Ok.ensures.course in
    let grown = sent-grown mid new (send_of there dest src (map (sent_item src) front) s) now
    sent in
    let here : AreThereNow l.names new.seen dest src front =
    subst (λ (x : Layout). AreThereNow x.names new.seen dest src front) old.same
    c.in-Ok.ensures.there in
    record {
      same = c.in-Ok.ensures.layout ∙ old.same;
      home = c.in-Ok.ensures.home ∙ old.home;
      reached = batch-sent w mid new course l there dest src size s rest old.same
          c.requires.size filled front behind now c.front-batch.ensures c.behind-rest.ensures
          old.reached sent;
      given = subst (AreGiven l.names new.seen src fields) (sym c.behind-rest.ensures)
          (given-drop l.names new.seen src fields size rest
          (given-later l.names mid.seen new.seen src fields rest grown old.given));
      front = old.front ++ take size rest;
      whole = whole-more c.args.items.now old.front rest size old.whole
          ∙ ap (λ x. (old.front ++ take size rest) ++ x) (sym c.behind-rest.ensures);
      there = there-more l.names new.seen dest src old.front (take size rest)
          (there-later l.names mid.seen new.seen dest src old.front grown old.there)
          (subst (AreThereNow l.names new.seen dest src) c.front-batch.ensures here);
    }

pub returns-clause-course : goal.returns-clause-course
returns-clause-course g c =
    let l = g.T.Turns.layout c.args.site.now in
    let w = g.T.Turns.writer c.args.site.now in
    let mid = g.T.Turns.writer c.loop-rest.site in
    let dest = c.args.delivery.now.dest.now in
    let src = c.args.delivery.now.topic.collection.now in
    let size = c.args.delivery.now.batch_size in
    let rest = c.loop-rest.rest.now in
    let none : length rest ≡ 0 = grind (arith, common_steps) in
    let course = sends_course l dest src none_sunk
    (batches_of size (map (sent_item src) c.args.items.now)) in
    done-run w mid course l dest src size (sunk_of c.loop-rest.progress) rest c.make_done.result none
    c.make_done.ensures.ok c.make_done.ensures.err
    (counted-sends l dest src none_sunk (batches_of size (map (sent_item src) c.args.items.now)))
    c.loop-rest.invariant.reached

pub returns-clause-there : goal.returns-clause-there
returns-clause-there g c =
    let l = g.T.Turns.layout c.args.site.now in
    let mid = g.T.Turns.writer c.loop-rest.site in
    let dest = c.args.delivery.now.dest.now in
    let src = c.args.delivery.now.topic.collection.now in
    let rest = c.loop-rest.rest.now in
    let none : length rest ≡ 0 = grind (arith, common_steps) in
    there-all l.names mid.seen dest src c.args.items.now c.loop-rest.invariant.front rest
    c.make_done.result c.loop-rest.invariant.whole none c.loop-rest.invariant.there
