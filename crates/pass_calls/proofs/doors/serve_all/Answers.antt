use Rattle.std.proofs.Common.{◌∙◌, arith, refl, inl}
use Rattle.running_site.specs.Sites.{layout_at}
use Rattle.pass_calls.specs.Serving.{served_by}
use Rattle.pass_calls.proofs.ServedLemmas.{ends-all, failed-of, rises-on, rises-still, served-more, served-none}
use Rattle.pass_calls.proofs.doors.serve_all.Goals as goal

pub loop-init : goal.loop-init
loop-init g c = record {
  own = c.requires;
  number = refl;
  now = refl;
  served = served-none (served_by (g.C.Clock.tells c.args.clock.now) (layout_at c.args.site.now)
      g.L.In.Source.left g.L.In.Source.faults g.L.Out.Sink.written g.L.Out.Sink.faults) _ _ _ refl;
  few = omega arith;
  rises = rises-still _ _ _ refl;
}

pub serve_next-requires-clause-own : goal.serve_next-requires-clause-own
serve_next-requires-clause-own g c κs within = c.loop.invariant.own

pub serve_next-requires-clause-few : goal.serve_next-requires-clause-few
serve_next-requires-clause-few g c κs within = c.loop.invariant.few

pub returns-in-Some-serve_next-clause-served : goal.returns-in-Some-serve_next-clause-served
returns-in-Some-serve_next-clause-served g c =
    served-more (served_by (g.C.Clock.tells c.args.clock.now) (layout_at c.args.site.now)
    g.L.In.Source.left g.L.In.Source.faults g.L.Out.Sink.written g.L.Out.Sink.faults) _ _ _ _ _ _
    c.loop.invariant.served c.serve_next.ensures.served

pub returns-in-Some-serve_next-clause-ends : goal.returns-in-Some-serve_next-clause-ends
returns-in-Some-serve_next-clause-ends g c =
    ends-all _ _ _ _ (rises-on _ _ _ _ _ _ c.loop.invariant.rises c.serve_next.ensures.counts)
    c.in-Some-serve_next.end (rw c.in-Some-serve_next.is at c.serve_next.ensures.ends)

pub returns-in-Some-serve_next-clause-failed : goal.returns-in-Some-serve_next-clause-failed
returns-in-Some-serve_next-clause-failed g c =
    failed-of _ _ _
    (rises-on _ _ _ _ _ _ c.loop.invariant.rises c.serve_next.ensures.counts)

pub returns-in-Some-serve_next-clause-number : goal.returns-in-Some-serve_next-clause-number
returns-in-Some-serve_next-clause-number g c =
    c.serve_next.ensures.number ∙ c.loop.invariant.number

pub returns-in-Some-serve_next-clause-now : goal.returns-in-Some-serve_next-clause-now
returns-in-Some-serve_next-clause-now g c = c.serve_next.ensures.now ∙ c.loop.invariant.now

pub loop-preserved : goal.loop-preserved
loop-preserved g c = record {
  own = c.serve_next.ensures.own;
  number = c.serve_next.ensures.number ∙ c.loop.invariant.number;
  now = c.serve_next.ensures.now ∙ c.loop.invariant.now;
  served = served-more (served_by (g.C.Clock.tells c.args.clock.now) (layout_at c.args.site.now)
      g.L.In.Source.left g.L.In.Source.faults g.L.Out.Sink.written g.L.Out.Sink.faults) _ _ _ _ _ _
      c.loop.invariant.served c.serve_next.ensures.served;
  few = rw c.in-None-serve_next.is at c.serve_next.ensures.ends;
  rises = rises-on _ _ _ _ _ _ c.loop.invariant.rises c.serve_next.ensures.counts;
}
