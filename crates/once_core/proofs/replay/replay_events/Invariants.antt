use Rattle.once_core.specs.Replays.{IsRun}
use Rattle.once_core.proofs.replay.replay_events.Given as goal

-- the events so far are allowed and lead to this world
abbrev pub invariant-loop-i : goal.invariant-loop-i
invariant-loop-i l = IsRun l.fn.names l.fn.events l.i l.world
