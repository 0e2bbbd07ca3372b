use Rattle.std.specs.List.{flat_map}
use Rattle.log_codec.specs.Codes.{AreSoMany, IsAtFront}
use Rattle.log_codec.specs.Steps.{spelled_log, IsSpellable}
use Rattle.log_codec.proofs.steps.take_logs.Given as goal

-- so many entries were read
abbrev pub invariant-loop : goal.invariant-loop
invariant-loop l = IsAtFront (AreSoMany IsSpellable l.counter) (flat_map spelled_log) l.bytes l.step l.rest
