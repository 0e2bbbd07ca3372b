use Rattle.std.proofs.Common.{◌≡◌, map, take}
use Rattle.law_checks.specs.Written.{writes_in}
use Rattle.law_checks.proofs.written.Written.of.Given as goal

-- the writes so far
abbrev pub invariant-loop-entry : goal.invariant-loop-entry
invariant-loop-entry l = map (λ e. e.now) l.writes.items ≡ writes_in (take l.entry-index l.history)
