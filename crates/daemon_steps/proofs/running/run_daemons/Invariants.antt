use Rattle.std.proofs.Common.{◌≡◌, ◌-◌}
use Rattle.root_runs.specs.Stays.{Stays}
use Rattle.daemon_steps.proofs.StepLemmas.{HasCome}
use Rattle.daemon_steps.proofs.running.run_daemons.Given as goal

-- the daemons up to the number were run, and nothing else changed
abbrev pub invariant-loop-number : goal.invariant-loop-number
invariant-loop-number g l = record {
  come : HasCome (g.T.Turns.layout l.fn.site) (g.T.Turns.writer l.fn.site)
      (g.T.Turns.writer l.site) l.fn.board.shown l.board.shown l.after;
  answers : l.board.answers ≡ l.fn.board.answers;
  stays : Stays g.T.Turns.layout g.T.Turns.home g.T.Turns.free l.fn.site l.site;
  free : g.T.Turns.free l.site;
}

-- how many numbers there are above it
abbrev pub decreases-loop-number : goal.decreases-loop-number
decreases-loop-number g l = l.board.shown.put - l.after
