use Rattle.std.specs.List.{flat_map}
use Rattle.log_codec.specs.Codes.{IsAtFront}
use Rattle.log_codec.specs.Documents.{spelled_field, AreFields}
use Rattle.log_codec.proofs.documents.read_fields.Given as goal

-- so many fields were read
abbrev pub invariant-loop : goal.invariant-loop
invariant-loop l = IsAtFront (AreFields l.counter) (flat_map spelled_field) l.bytes l.document l.rest
