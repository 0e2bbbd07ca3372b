use Rattle.std.proofs.Common.{◌∙◌, ap, sym}
use Rattle.disk_edge.specs.Calls.{after}
use Rattle.disk_edge.proofs.StopsLemmas.{content-more}
use Rattle.disk_edge.proofs.change.replayed.Goals as goal

pub loop-call-preserved : goal.loop-call-preserved
loop-call-preserved c =
    c.in_ok-bytes-2.ensures ∙ ap (after c.call-item.result) (c.as_slice.ensures ∙ c.loop-call.invariant) ∙ sym (content-more c.args.first.now c.args.calls.now c.loop-call.call-index c.call-item.result c.loop-call-test.true c.call-item.is)
