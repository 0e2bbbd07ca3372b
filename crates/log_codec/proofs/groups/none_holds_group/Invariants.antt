use Rattle.std.proofs.Common.{take}
use Rattle.std.specs.List.{AllByRecursion}
use Rattle.log_codec.specs.Entries.{HasNoGroup}
use Rattle.log_codec.proofs.groups.none_holds_group.Given as goal

-- no document of the entries so far holds a group
abbrev pub invariant-loop-entry : goal.invariant-loop-entry
invariant-loop-entry l = AllByRecursion HasNoGroup (take l.entry-index l.step)
