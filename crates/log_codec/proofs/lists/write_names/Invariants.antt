use Rattle.std.proofs.Common.{◌++◌, length}
use Rattle.log_codec.specs.Codes.{spelled_number, spelled_text, IsText}
use Rattle.log_codec.proofs.WriteLemmas.{AreWritten}
use Rattle.log_codec.proofs.lists.write_names.Given as goal

-- so many names are written behind their number
abbrev pub invariant-loop-name : goal.invariant-loop-name
invariant-loop-name l =
    AreWritten IsText spelled_text (l.fn.out.items ++ spelled_number (length l.names)) l.names l.name-index l.out.items
