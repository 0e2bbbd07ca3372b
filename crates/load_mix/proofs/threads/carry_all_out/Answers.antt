use denote.Param.Send.{sendable}
use Rattle.std.proofs.Common.{subst, sym}
use Rattle.std.specs.Prelude.{slice_index_or}
use Rattle.std.proofs.Crossing as heap
use Rattle.running_site.proofs.SendLemmas.{site_sync}
use Rattle.load_mix.specs.Workers.{IsWorked, IsWorkerAt}
use Rattle.load_mix.proofs.SendLemmas.{pass_send, plan_sync, worker_send}
use Rattle.load_mix.proofs.threads.carry_all_out.Goals as goal

pub for_each_mut-requires-send-T : goal.for_each_mut-requires-send-T
for_each_mut-requires-send-T g c κs within =
    search (worker_send, pass_send, sendable) depth 60 fits 20000

pub for_each_mut-requires-sync-F : goal.for_each_mut-requires-sync-F
for_each_mut-requires-sync-F g c κs within =
    -- bound by names, the bounds are among the hypotheses of `search`
    let r = c.type_bounds.sync-R in
    let h = c.type_bounds.sync-G in
    search (site_sync, plan_sync, heap.sync, heap.crosses, sendable) depth 60 fits 20000

pub for_each_mut-requires-clause-accepts : goal.for_each_mut-requires-clause-accepts
for_each_mut-requires-clause-accepts g c κs within i p lt e = (
  (
    subst (IsWorkerAt c.args.site.now) (sym e) (c.requires.own i p.now lt),
    c.requires.names,
    c.requires.plan,
  ),
  search sendable depth 60 fits 20000,
)

pub returns-clause-each : goal.returns-clause-each
returns-clause-each g c = λ k d lt.
    let R = IsWorked c.args.plan.now.n c.args.site.now in
    let made = (c.for_each_mut.ensures k d lt).1 in
    subst (λ x. R x (slice_index_or c.for_each_mut.new.s k d)) made.argument_is
    (subst (λ y. R made.argument.now y) made.left made.call)
