use Rattle.running_site.specs.Sites.{layout_at}
use Rattle.pass_calls.specs.Serving.{served_by}
use Rattle.pass_calls.proofs.ServedLemmas.{came-back}
use Rattle.pass_calls.proofs.doors.serve_given.Goals as goal

pub returns-clause-served : goal.returns-clause-served
returns-clause-served g c =
    came-back (served_by (g.C.Clock.tells c.args.clock.now) (layout_at c.args.site.now)
    g.L.In.Source.left g.L.In.Source.faults g.L.Out.Sink.written g.L.Out.Sink.faults) _ _
    (c.args.input, c.args.output) _ _ _ _ _ c.back.ensures.row
    (c.serve_connection-note.ensures.session, c.serve_connection-note.ensures.recorded)
