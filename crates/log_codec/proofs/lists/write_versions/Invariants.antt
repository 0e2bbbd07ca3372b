use Rattle.std.proofs.Common.{◌++◌, length}
use Rattle.log_codec.specs.Codes.{spelled_number, IsNumber}
use Rattle.log_codec.proofs.WriteLemmas.{AreWritten}
use Rattle.log_codec.proofs.lists.write_versions.Given as goal

-- so many versions are written behind their number
abbrev pub invariant-loop-version : goal.invariant-loop-version
invariant-loop-version l =
    AreWritten IsNumber spelled_number (l.fn.out.items ++ spelled_number (length l.versions)) l.versions l.version-index l.out.items
