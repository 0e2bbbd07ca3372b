use Rattle.std.proofs.Common.{inr}
use Rattle.running_site.specs.Sites.{layout_at}
use Rattle.pass_calls.specs.Serving.{served_by}
use Rattle.pass_calls.proofs.ServedLemmas.{gave-one, served-none, served-one}
use Rattle.pass_calls.proofs.doors.serve_next.Goals as goal

pub returns-in-Got-clause-served : goal.returns-in-Got-clause-served
returns-in-Got-clause-served g c =
    served-one (served_by (g.C.Clock.tells c.args.clock.now) (layout_at c.args.site.now)
    g.L.In.Source.left g.L.In.Source.faults g.L.Out.Sink.written g.L.Out.Sink.faults) _ _ _ _ _ _ _
    (rw c.in-Got.is at c.next.ensures.gives)
    c.serve_given.ensures.served

pub returns-in-Closed-clause-served : goal.returns-in-Closed-clause-served
returns-in-Closed-clause-served g c =
    served-none (served_by (g.C.Clock.tells c.args.clock.now) (layout_at c.args.site.now)
    g.L.In.Source.left g.L.In.Source.faults g.L.Out.Sink.written g.L.Out.Sink.faults) _ _ _ (let
    gives = rw c.in-Closed.is at c.next.ensures.gives in gives.1)

pub returns-then-failures-eq-MOST-clause-served
    : goal.returns-then-failures-eq-MOST-clause-served
returns-then-failures-eq-MOST-clause-served g c =
    served-none (served_by (g.C.Clock.tells c.args.clock.now) (layout_at c.args.site.now)
    g.L.In.Source.left g.L.In.Source.faults g.L.Out.Sink.written g.L.Out.Sink.faults) _ _ _ (rw
    c.in-Failed.is at c.next.ensures.gives)

pub returns-else-failures-eq-MOST-clause-served
    : goal.returns-else-failures-eq-MOST-clause-served
returns-else-failures-eq-MOST-clause-served g c =
    served-none (served_by (g.C.Clock.tells c.args.clock.now) (layout_at c.args.site.now)
    g.L.In.Source.left g.L.In.Source.faults g.L.Out.Sink.written g.L.Out.Sink.faults) _ _ _ (rw
    c.in-Failed.is at c.next.ensures.gives)

pub returns-in-Got-clause-goes : goal.returns-in-Got-clause-goes
returns-in-Got-clause-goes g c =
    inr (gave-one (served_by (g.C.Clock.tells c.args.clock.now) (layout_at c.args.site.now)
    g.L.In.Source.left g.L.In.Source.faults g.L.Out.Sink.written g.L.Out.Sink.faults) _ _ _ _ _ _ _
    (rw c.in-Got.is at c.next.ensures.gives)
    c.serve_given.ensures.served)
