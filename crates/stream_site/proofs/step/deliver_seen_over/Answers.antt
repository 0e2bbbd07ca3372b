use Rattle.std.proofs.Common.{◌≡◌, [], get_or, length, ap, arith}
use Rattle.std.proofs.lemmas.List.{length-map}
use Rattle.std.specs.Prelude.{Err}
use Rattle.exchange_rules.specs.Cells.{history_in}
use Rattle.exchange_rules.specs.Deliveries.{admitted_kinds}
use Rattle.exchange_rules.specs.Steps.{kinds_of}
use Rattle.exchange_rules.proofs.DeliveryLemmas.{admitted_kinds-few, admitted_kinds-writes, deliver_refused, deliver_appended}
use Rattle.exchange_rules.proofs.StepLemmas.{nothing_done}
use Rattle.stream_site.specs.Spots.{full_there}
use Rattle.stream_site.proofs.RefusalLemmas.{broken_few, delivery_broken, unsealed_full, unsealed_memory}
use Rattle.stream_site.proofs.SendLemmas.{sent_as}
use Rattle.stream_site.proofs.step.deliver_seen_over.Goals as goal

pub returns-in-Ok-clause-course : goal.returns-in-Ok-clause-course
returns-in-Ok-clause-course g c =
    let w = g.T.Turns.writer c.args.site.now in
    let h = history_in (get_or w.seen c.args.at.now.cell []) in
    let ks = admitted_kinds h (kinds_of c.args.step) in
    sent_as w (g.T.Turns.writer c.deliver.new.self) _ c.in-Ok.admitted (length ks)
    c.in-Ok.ensures.count
    (deliver_appended w (g.T.Turns.writer c.deliver.new.self)
    (g.T.Turns.layout c.args.site.now).limit
    c.args.at.now.cell (full_there c.args.at.now) h ks c.requires.in_range.seen
    c.in-Ok.ensures.fits
    (admitted_kinds-writes h (kinds_of c.args.step)) c.in-Ok.ensures.ok)

pub returns-in-Ok-clause-few : goal.returns-in-Ok-clause-few
returns-in-Ok-clause-few g c =
    let h = history_in (get_or (g.T.Turns.writer c.args.site.now).seen c.args.at.now.cell []) in
    let few = admitted_kinds-few h (kinds_of c.args.step) in
    let size : length (kinds_of c.args.step) ≡ length c.args.step = simp length-map in
    let count = c.in-Ok.ensures.count in
    omega (arith, few, size, count)

pub returns-in-Err-ShardFull-clause-course : goal.returns-in-Err-ShardFull-clause-course
returns-in-Err-ShardFull-clause-course g c =
    let w = g.T.Turns.writer c.args.site.now in
    let h = history_in (get_or w.seen c.args.at.now.cell []) in
    deliver_refused c.args.at.now.stand w (g.T.Turns.writer c.deliver.new.self)
    (g.T.Turns.layout c.args.site.now).limit c.args.at.now.cell
    (full_there c.args.at.now) h
    (admitted_kinds h (kinds_of c.args.step)) c.full_at.result
    (c.in-Err-ShardFull.ensures.shard_full (ap Err c.in-Err-ShardFull.field-0-is))
    (unsealed_full _ _ _ _ _ _ _ c.in-Err-ShardFull.field-0-is c.in-Err-ShardFull.ensures.err)
    c.full_at.ensures

pub returns-in-Err-OutOfMemory-clause-course : goal.returns-in-Err-OutOfMemory-clause-course
returns-in-Err-OutOfMemory-clause-course g c =
    nothing_done c.args.at.now.stand (g.T.Turns.writer c.args.site.now)
    (g.T.Turns.writer c.deliver.new.self) _
    (unsealed_memory _ _ _ _ _ _ _ c.in-Err-OutOfMemory.field-0-is c.in-Err-OutOfMemory.ensures.err)

pub returns-in-Err-Broken-clause-course : goal.returns-in-Err-Broken-clause-course
returns-in-Err-Broken-clause-course g c =
    let w = g.T.Turns.writer c.args.site.now in
    let h = history_in (get_or w.seen c.args.at.now.cell []) in
    delivery_broken c.args.at.now.stand w (g.T.Turns.writer c.deliver.new.self)
    (g.T.Turns.layout c.args.site.now).limit c.args.at.now.cell
    (admitted_kinds h (kinds_of c.args.step)) (full_there c.args.at.now) c.broken_at.result h
    _ c.in-Err-Broken.writes c.requires.in_range.seen
    (admitted_kinds-writes h (kinds_of c.args.step)) c.in-Err-Broken.field-0-is
    c.in-Err-Broken.ensures.err c.broken_at.ensures

pub broken_at-requires : goal.broken_at-requires
broken_at-requires g c =
    let h = history_in (get_or (g.T.Turns.writer c.args.site.now).seen c.args.at.now.cell []) in
    let few = c.requires.few in
    let admitted = admitted_kinds-few h (kinds_of c.args.step) in
    let size : length (kinds_of c.args.step) ≡ length c.args.step = simp length-map in
    let n = broken_few _ _ _ _ _ _ _ c.in-Err-Broken.writes c.in-Err-Broken.field-0-is
    c.in-Err-Broken.ensures.err in
    omega (arith, few, admitted, size, n)
