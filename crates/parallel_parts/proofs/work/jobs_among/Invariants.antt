use Rattle.std.proofs.Common.{◌≡◌, map}
use Rattle.std.specs.List.{range_with_len}
use Rattle.parallel_parts.proofs.work.jobs_among.Given as goal

-- the jobs so far
abbrev pub invariant-loop-index : goal.invariant-loop-index
invariant-loop-index l = map (λ j. j.index) l.jobs.items ≡ range_with_len 0 l.index
