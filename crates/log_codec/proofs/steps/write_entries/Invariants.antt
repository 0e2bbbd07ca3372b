use Rattle.std.proofs.Common.{◌++◌, length}
use Rattle.log_codec.specs.Codes.{spelled_number}
use Rattle.log_codec.specs.Entries.{spelled_entry, IsSpellableEntry}
use Rattle.log_codec.proofs.WriteLemmas.{AreWritten}
use Rattle.log_codec.proofs.steps.write_entries.Given as goal

-- so many entries are written behind their number
abbrev pub invariant-loop-entry : goal.invariant-loop-entry
invariant-loop-entry l =
    AreWritten IsSpellableEntry spelled_entry (l.fn.out.items ++ spelled_number (length l.step)) l.step l.entry-index l.out.items
