use Rattle.std.proofs.Common.{take}
use Rattle.sort_spec.proofs.NameSetLemmas.{IsOnceOf}
use Rattle.sort_spec.proofs.names.once.Given as goal

-- the names so far, each once
abbrev pub invariant-loop-name : goal.invariant-loop-name
invariant-loop-name l = IsOnceOf (take l.name-index l.fn.names) l.list l.seen
