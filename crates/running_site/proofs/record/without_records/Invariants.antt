use Rattle.std.proofs.Common.{◌≡◌}
use Rattle.running_site.specs.Records.{passes_in}
use Rattle.running_site.proofs.record.without_records.Given as goal

-- the passes so far
abbrev pub invariant-loop-one : goal.invariant-loop-one
invariant-loop-one g l = l.made ≡ passes_in l.yielded
