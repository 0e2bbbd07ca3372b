use Rattle.std.proofs.Common.{arith, string_bytes, sym, ◌∙◌}
use Rattle.daemon_board.specs.Finding.{wanted_in}
use Rattle.daemon_board.proofs.LoopLemmas.{more-fail, first-passes, all-fail, no-some}
use Rattle.daemon_board.proofs.finding.place_of.Goals as goal
use Rattle.daemon_board.proofs.finding.place_of.Goals.{in-Some+else-passes, in_default}

pub returns-then-passes : goal.returns-then-passes
returns-then-passes c =
    first-passes string_bytes (wanted_in c.args.wanted) c.args.daemons.now.entries c.loop-place.place _
    c.in-Some.ensures.entry (sym c.passes.ensures ∙ c.if-passes.true) c.loop-place.invariant

pub loop-place-preserved : goal.loop-place-preserved
loop-place-preserved c =
    elim c.match-get_index.branch [
      | in-Some+else-passes w ↦
          more-fail string_bytes (wanted_in c.args.wanted) c.args.daemons.now.entries c.loop-place.place _
          w.in-Some.ensures.entry (sym w.passes.ensures ∙ w.if-passes.false) c.loop-place.invariant
      | in_default w ↦
          absurd (no-some c.get_index.result w.in_default.not-Some
          (c.get_index.ensures.found.1 (omega (arith, c.loop-place-test.true, c.len-place-end.ensures.len))))
    ]

pub returns : goal.returns
returns c =
    all-fail string_bytes (wanted_in c.args.wanted) c.args.daemons.now.entries c.loop-place.place
    (omega (arith, c.loop-place-test.false, c.len-place-end.ensures.len)) c.loop-place.invariant
