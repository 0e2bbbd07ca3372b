-- The workers so far have ended with the passes so far.
use Rattle.std.specs.List.{AllZip}
use Rattle.load_mix.specs.Workers.{IsEnded}
use Rattle.load_mix.proofs.ending.end_all.Given as goal

abbrev pub invariant-loop-worker : goal.invariant-loop-worker
invariant-loop-worker g l = AllZip (IsEnded l.fn.site) l.yielded l.passes
