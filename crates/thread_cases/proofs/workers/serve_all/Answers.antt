use denote.Param.Send.{sendable}
use Rattle.std.proofs.Common.{sym, subst}
use Rattle.std.proofs.Crossing as heap
use Rattle.atomic_table.proofs.shared.Seat.TheSendSync as seat
use Rattle.site_threads.specs.Workers.{IsWorkerAt}
use Rattle.running_site.proofs.SendLemmas.{cell_send, site_sync}
use Rattle.thread_cases.proofs.SendLemmas.{baton_sync}
use Rattle.thread_cases.proofs.workers.serve_all.Goals as goal

pub for_each_mut-requires-send-T : goal.for_each_mut-requires-send-T
for_each_mut-requires-send-T g c κs within =
    search (cell_send, seat.the_send, heap.crosses, sendable) depth 60 fits 20000

pub for_each_mut-requires-sync-F : goal.for_each_mut-requires-sync-F
for_each_mut-requires-sync-F g c κs within =
    search (site_sync, baton_sync, heap.sync, heap.crosses, sendable) depth 60 fits 20000

pub for_each_mut-requires-clause-accepts : goal.for_each_mut-requires-clause-accepts
for_each_mut-requires-clause-accepts g c κs within i p lt e =
    subst (λ w. IsWorkerAt c.args.site.now w) (sym e) (c.requires i p.now lt)
