use Rattle.std.proofs.Common.{◌-◌, length}
use Rattle.commit_log.specs.Files.{IsReadTo}
use Rattle.commit_log.proofs.frames.read_steps.Given as goal

-- the steps so far stand at the front of the file
abbrev pub invariant-loop-steps : goal.invariant-loop-steps
invariant-loop-steps l = IsReadTo l.bytes l.rest l.steps (length l.bytes - length l.rest)

abbrev pub decreases-loop-steps : goal.decreases-loop-steps
decreases-loop-steps l = length l.rest
