use denote.Param.Send.{sendable}
use Rattle.std.proofs.Common.{subst, sym}
use Rattle.std.specs.Prelude.{slice_index_or}
use Rattle.std.proofs.Crossing as heap
use Rattle.running_site.proofs.SendLemmas.{site_sync}
use Rattle.site_server.specs.Doors.{doors}
use Rattle.site_server.proofs.SendLemmas.{board_sync, item_send, pass_send}
use Rattle.site_server.specs.Items.{IsItemAt, IsItemServed}
use Rattle.site_server.proofs.threads.serve_items.Goals as goal

pub for_each_mut-requires-send-T : goal.for_each_mut-requires-send-T
for_each_mut-requires-send-T g c κs within =
    search (item_send, pass_send, sendable) depth 60 fits 20000

pub for_each_mut-requires-sync-F : goal.for_each_mut-requires-sync-F
for_each_mut-requires-sync-F g c κs within =
    -- bound by names, the bounds are among the hypotheses of `search`
    let r = c.type_bounds.sync-R in
    let k = c.type_bounds.sync-C in
    let h = c.type_bounds.sync-G in
    search (site_sync, board_sync, heap.sync, heap.crosses, sendable) depth 60 fits 20000

pub for_each_mut-requires-clause-accepts : goal.for_each_mut-requires-clause-accepts
for_each_mut-requires-clause-accepts g c κs within i p lt e = (
  subst (IsItemAt c.args.site.now) (sym e) (c.requires i p.now lt),
  search sendable depth 60 fits 20000,
)

pub returns-clause-each : goal.returns-clause-each
returns-clause-each g c = λ k d lt.
    let site = c.args.site.now in
    let tells = g.C.Clock.tells c.args.clock.now in
    let kind =
    doors g.L.Door.told g.L.Door.faults g.L.Door.deaf g.L.In.Source.left g.L.In.Source.faults
    g.L.Out.Sink.written g.L.Out.Sink.faults in
    let made = (c.for_each_mut.ensures k d lt).1 in
    subst (λ x. IsItemServed kind tells site x (slice_index_or c.for_each_mut.new.s k d))
    made.argument_is
    (subst (λ y. IsItemServed kind tells site made.argument.now y) made.left made.call)
