use Rattle.running_site.specs.Sites.{layout_at}
use Rattle.pass_calls.specs.Serving.{served_by}
use Rattle.pass_calls.proofs.ServedLemmas.{served-none}
use Rattle.pass_calls.proofs.doors.run_door.Goals as goal

pub returns-in-Failed-clause-served : goal.returns-in-Failed-clause-served
returns-in-Failed-clause-served g c =
    served-none (served_by (g.C.Clock.tells c.args.clock.now) (layout_at c.args.site.now)
    g.L.In.Source.left g.L.In.Source.faults g.L.Out.Sink.written g.L.Out.Sink.faults) _ _ _
    c.listen.ensures.row
