use Rattle.std.proofs.Common.{◌≡◌, ◌+◌, ◌<◌, ◌^◌, length, map, sym, ap, ◌∙◌, subst, arith}
use Rattle.std.specs.Prelude.{IfErr, Ok, List}
use Rattle.std.specs.List.{AllByRecursion}
use Rattle.std.proofs.lemmas.List.{length-map}
use Rattle.exchange_rules.specs.Batches.{Sunk, stand_in, with_batch}
use Rattle.exchange_rules.specs.Deliveries.{send_course}
use Rattle.exchange_rules.specs.Following.{Answers, counts}
use Rattle.exchange_rules.specs.declared.batch.BatchItem.{BatchItem}
use Rattle.site_laws.specs.Duties.{IsItem}
use Rattle.stream_site.proofs.TestLemmas.{handed_on}
use Rattle.update_sink.specs.Given.{IsThereNow}
use Rattle.update_sink.specs.Progresses.{next_summary, sunk_of}
use Rattle.update_sink.specs.Sends.{IsSent, send_of}
use Rattle.update_sink.specs.Topics.{sent_item}
use Rattle.update_sink.proofs.DeliverLemmas.{sent-there}
use Rattle.update_sink.proofs.FewLemmas.{made-length, refused-few, sent-few}
use Rattle.update_sink.proofs.ItemLemmas.{items-of}
use Rattle.update_sink.proofs.SendsLemmas.{sent-on, unsent, unsent-none}
use Rattle.update_sink.proofs.delivering.send_batch.Goals as goal

pub returns-in_err-batch-clause-course : goal.returns-in_err-batch-clause-course
returns-in_err-batch-clause-course g c =
    let w = g.T.Turns.writer c.args.site.now in
    let l = g.T.Turns.layout c.args.site.now in
    let src = c.args.delivery.now.topic.collection.now in
    let s = sunk_of c.args.progress.now in
    let dest = c.args.delivery.now.dest.now in
    let batch = send_of l dest src (map (sent_item src) c.args.items.now) s in
    handed_on (IsSent w w batch s) _ _ c.from_residual-in_err-batch.ensures.1
    (unsent-none w batch s)

pub send_over-requires : goal.send_over-requires
send_over-requires g c =
    let names = (g.T.Turns.layout c.args.site.now).names in
    let seen = (g.T.Turns.writer c.args.site.now).seen in
    let dest = c.args.delivery.now.dest.now in
    let src = c.args.delivery.now.topic.collection.now in
    record {
      known = c.requires.known;
      elsewhere = c.requires.elsewhere;
      items = subst (AllByRecursion (IsItem names seen dest src))
          (sym c.in_ok-batch.ensures.batch)
          (items-of names seen dest src c.args.delivery.now.topic.fl.now c.args.items.now
          c.requires.given c.in_ok-batch.ensures.rise);
    }

pub returns-in_err-_most-clause-course : goal.returns-in_err-_most-clause-course
returns-in_err-_most-clause-course g c =
    let w = g.T.Turns.writer c.args.site.now in
    let l = g.T.Turns.layout c.args.site.now in
    let src = c.args.delivery.now.topic.collection.now in
    let s = sunk_of c.args.progress.now in
    let dest = c.args.delivery.now.dest.now in
    let batch = send_of l dest src (map (sent_item src) c.args.items.now) s in
    handed_on (IsSent w w batch s) _ _ c.from_residual.ensures.1
    (unsent-none w batch s)

pub returns-in_err-told-clause-course : goal.returns-in_err-told-clause-course
returns-in_err-told-clause-course g c =
    let w = g.T.Turns.writer c.args.site.now in
    let l = g.T.Turns.layout c.args.site.now in
    let src = c.args.delivery.now.topic.collection.now in
    let s = sunk_of c.args.progress.now in
    let now = sunk_of c.prepare.new.self in
    let dest = c.args.delivery.now.dest.now in
    let batch = send_of l dest src (map (sent_item src) c.args.items.now) s in
    handed_on (IsSent w w batch now) _ _ c.from_residual-in_err-told.ensures.1
    (unsent-none w batch now)

pub returns-in_err-sent-clause-course : goal.returns-in_err-sent-clause-course
returns-in_err-sent-clause-course g c =
    let w = g.T.Turns.writer c.args.site.now in
    let new = g.T.Turns.writer c.send_over.new.site in
    let l = g.T.Turns.layout c.args.site.now in
    let dest = c.args.delivery.now.dest.now in
    let src = c.args.delivery.now.topic.collection.now in
    let b = map (sent_item src) c.args.items.now in
    let s = sunk_of c.args.progress.now in
    let now = sunk_of c.prepare.new.self in
    handed_on (IsSent w new (send_of l dest src b s) now) _ _
    c.from_residual-in_err-sent.ensures.1
    (unsent w new l dest src b s c.in_ok-batch.batch c.in_ok-batch.ensures.batch now
    c.in_ok-told.ensures.same _ c.in_err-sent.ensures.course)

pub returns-clause-course : goal.returns-clause-course
returns-clause-course g c =
    let w = g.T.Turns.writer c.args.site.now in
    let new = g.T.Turns.writer c.send_over.new.site in
    let l = g.T.Turns.layout c.args.site.now in
    let dest = c.args.delivery.now.dest.now in
    let src = c.args.delivery.now.topic.collection.now in
    let s = sunk_of c.args.progress.now in
    let items = c.args.items.now in
    let b = map (sent_item src) items in
    let sent = c.in_ok-sent.sent in
    let size : length b ≡ length items = simp length-map in
    sent-on w new l dest src b s sent (sunk_of c.add_told.new.self)
    (c.add_told.ensures
    ∙ (ap (λ (x : Sunk). with_batch x (length items) sent.admitted) c.in_ok-told.ensures.same
    ∙ ap (λ n. with_batch s n sent.admitted) (sym size)))
    (subst (λ (x : List BatchItem). Answers w new (send_course l dest src x) (Ok sent))
    c.in_ok-batch.ensures.batch c.in_ok-sent.ensures.course)

pub returns-clause-there : goal.returns-clause-there
returns-clause-there g c =
    let w = g.T.Turns.writer c.args.site.now in
    let new = g.T.Turns.writer c.send_over.new.site in
    let l = g.T.Turns.layout c.args.site.now in
    let dest = c.args.delivery.now.dest.now in
    let src = c.args.delivery.now.topic.collection.now in
    let r = c.in_ok-sent.ensures.course in
    subst (AllByRecursion (IsThereNow l.names new.seen dest src)) c.in_ok-batch.ensures.batch
    (sent-there w.me new.seen (counts w.seen) l dest src c.in_ok-batch.batch r.accesses
    c.in_ok-sent.sent (counts new.seen) c.requires.known r.followed)

pub returns-in_err-sent-clause-fits : goal.returns-in_err-sent-clause-fits
returns-in_err-sent-clause-fits g c =
    let w = g.T.Turns.writer c.args.site.now in
    let new = g.T.Turns.writer c.send_over.new.site in
    let l = g.T.Turns.layout c.args.site.now in
    let batch = c.in_ok-batch.batch in
    let src = c.args.delivery.now.topic.collection.now in
    let few = refused-few l c.args.delivery.now.dest.now src batch c.requires.known w new _
    c.in_err-sent.ensures.course in
    let long = made-length src c.args.items.now batch c.in_ok-batch.ensures.batch in
    let most = c.in_ok-_most.ensures in
    handed_on (λ r. IfErr r (λ f. c.args.progress.now.stand + stand_in f < 2 ^ 64)) _ _
    c.from_residual-in_err-sent.ensures.1 (omega (arith, few, long, most))

pub add_told-requires-clause-told : goal.add_told-requires-clause-told
add_told-requires-clause-told g c =
    c.in_ok-told.ensures.told
    ∙ ap (λ (x : Sunk). next_summary x (length c.args.items.now)) (sym c.in_ok-told.ensures.same)

pub add_told-requires-clause-total : goal.add_told-requires-clause-total
add_told-requires-clause-total g c =
    let same = ap (λ (x : Sunk). x.total) c.in_ok-told.ensures.same in
    let fits = c.in_ok-told.ensures.fits in
    omega (arith, same, fits)

pub add_told-requires-clause-stand : goal.add_told-requires-clause-stand
add_told-requires-clause-stand g c =
    let w = g.T.Turns.writer c.args.site.now in
    let new = g.T.Turns.writer c.send_over.new.site in
    let l = g.T.Turns.layout c.args.site.now in
    let batch = c.in_ok-batch.batch in
    let src = c.args.delivery.now.topic.collection.now in
    let few = sent-few l c.args.delivery.now.dest.now src batch c.requires.known w new
    c.in_ok-sent.sent c.in_ok-sent.ensures.course in
    let long = made-length src c.args.items.now batch c.in_ok-batch.ensures.batch in
    let same = ap (λ (x : Sunk). x.stand) c.in_ok-told.ensures.same in
    let most = c.in_ok-_most.ensures in
    omega (arith, few, long, same, most)
