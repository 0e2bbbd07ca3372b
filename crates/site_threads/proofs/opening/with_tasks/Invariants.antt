use Rattle.std.proofs.Common.{◌≡◌, map}
use Rattle.site_threads.specs.Workers.{pass_in}
use Rattle.site_threads.proofs.opening.with_tasks.Given as goal

-- the passes so far have workers
abbrev pub invariant-loop-pass : goal.invariant-loop-pass
invariant-loop-pass l = map pass_in l.made.items ≡ l.yielded
