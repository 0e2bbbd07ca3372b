use Rattle.std.proofs.Common.{◌≡◌, map}
use Rattle.running_site.specs.Records.{content, recorded}
use Rattle.running_site.proofs.record.with_records.Given as goal

-- each pass so far has an empty record
abbrev pub invariant-loop-pass : goal.invariant-loop-pass
invariant-loop-pass g l = map content l.made ≡ map recorded l.yielded
