use Rattle.std.proofs.Common.{◌≡◌, ◌++◌, take}
use Rattle.once_core.proofs.apply.extend.Given as goal

-- the entries so far follow
abbrev pub invariant-loop-entry : goal.invariant-loop-entry
invariant-loop-entry l = l.history ≡ l.initial.history ++ take l.entry-index l.entries
