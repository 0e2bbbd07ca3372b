use Rattle.std.proofs.Common.{◌≡◌, ◌++◌, [], replicate}
use Rattle.once_core.proofs.turn.push_empty.Given as goal

-- so many were added
abbrev pub invariant-loop : goal.invariant-loop
invariant-loop l = l.cells ≡ l.initial.cells ++ replicate l.counter []
