use Rattle.std.proofs.Common.{arith, string_bytes, sym, ◌∙◌}
use Rattle.daemon_board.proofs.LoopLemmas.{due-taken, due-left, due-ends, no-some}
use Rattle.daemon_board.proofs.finding.least_due.Goals as goal
use Rattle.daemon_board.proofs.finding.least_due.Goals.{in-Some+then-is_due, in-Some+else-is_due, in_default}

pub loop-place-preserved : goal.loop-place-preserved
loop-place-preserved c =
    c.loop-place.invariant
    ∙ elim c.match-get_index.branch [
      | in-Some+then-is_due w ↦
          due-taken string_bytes c.args.now c.loop-place.least c.args.daemons.now.entries c.loop-place.place _
          c.match-get_index.least w.in-Some.ensures.entry (sym w.is_due.ensures ∙ w.if-is_due.true)
          (w.least-is ∙ w.min-least.ensures)
      | in-Some+else-is_due w ↦
          due-left string_bytes c.args.now c.loop-place.least c.args.daemons.now.entries c.loop-place.place _
          c.match-get_index.least w.in-Some.ensures.entry (sym w.is_due.ensures ∙ w.if-is_due.false) w.least-is
      | in_default w ↦
          absurd (no-some c.get_index.result w.in_default.not-Some
          (c.get_index.ensures.found.1 (omega (arith, c.loop-place-test.true, c.len-place-end.ensures.len))))
    ]

pub returns : goal.returns
returns c =
    sym (c.loop-place.invariant ∙ due-ends string_bytes c.args.now c.loop-place.least c.args.daemons.now.entries
    c.loop-place.place (omega (arith, c.loop-place-test.false, c.len-place-end.ensures.len)))
