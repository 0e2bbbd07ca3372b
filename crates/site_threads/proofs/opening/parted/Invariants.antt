use Rattle.std.proofs.Common.{◌≡◌, map}
use Rattle.site_threads.specs.Workers.{pass_in}
use Rattle.site_threads.proofs.opening.parted.Given as goal

-- the passes of the workers so far
abbrev pub invariant-loop-worker : goal.invariant-loop-worker
invariant-loop-worker l = l.passes ≡ map pass_in l.yielded
