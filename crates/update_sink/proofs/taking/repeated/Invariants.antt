-- So many of them.
use Rattle.std.proofs.Common.{◌≡◌}
use Rattle.std.specs.Prelude.{replicate}
use Rattle.update_sink.proofs.taking.repeated.Given as goal

abbrev pub invariant-loop : goal.invariant-loop
invariant-loop l = l.versions.items ≡ replicate l.counter l.version
