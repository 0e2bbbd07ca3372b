use Rattle.std.proofs.Common.{◌++◌, length}
use Rattle.log_codec.specs.Codes.{spelled_number}
use Rattle.log_codec.specs.Documents.{spelled_field, IsSpellableField}
use Rattle.log_codec.proofs.WriteLemmas.{AreWritten}
use Rattle.log_codec.proofs.documents.write_document.Given as goal

-- so many fields are written behind their number
abbrev pub invariant-loop-k : goal.invariant-loop-k
invariant-loop-k l =
    AreWritten IsSpellableField spelled_field (l.fn.out.items ++ spelled_number (length l.document)) l.document l.k l.out.items
