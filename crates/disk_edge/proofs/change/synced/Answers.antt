use Rattle.std.proofs.Common.{◌+◌, ◌∙◌, ap, cond, sym, take}
use Rattle.disk_edge.specs.Stops.{synced_count}
use Rattle.disk_edge.proofs.StopsLemmas.{synced_count-more}
use Rattle.disk_edge.proofs.change.synced.Goals as goal
use Rattle.disk_edge.proofs.change.synced.Goals.{then-is_sync, else-is_sync}

pub loop-at-preserved : goal.loop-at-preserved
loop-at-preserved c =
    let at = c.loop-at.at in
    let before = synced_count (take at c.args.calls.now) in
    let more = synced_count-more c.args.calls.now at c.index-calls-at.result c.loop-at-test.true c.index-calls-at.is in
    elim c.if-is_sync.branch [
      | then-is_sync w ↦ w.synced-is ∙ sym (more ∙ ap (λ b. cond b (at + 1) before) (sym c.is_sync.ensures ∙ w.if-is_sync.true))
      | else-is_sync w ↦ w.synced-is ∙ c.loop-at.invariant ∙ sym (more ∙ ap (λ b. cond b (at + 1) before) (sym c.is_sync.ensures ∙ w.if-is_sync.false))
    ]
