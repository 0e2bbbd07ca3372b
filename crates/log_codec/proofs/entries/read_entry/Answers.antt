use Rattle.std.proofs.Common.{subst, sym}
use Rattle.tuple_values.specs.Document.{ByteList}
use Rattle.log_codec.specs.Codes.{IsAtFront}
use Rattle.log_codec.specs.Entries.{spelled_entry, IsSpellableEntry}
use Rattle.log_codec.proofs.ReadLemmas.{rest-left}
use Rattle.log_codec.proofs.entries.read_entry.Goals as goal

pub returns-in-Some-clause-some : goal.returns-in-Some-clause-some
returns-in-Some-clause-some c =
    let found = rw c.in-Some.is at c.in_ok-entry.ensures.some in
    subst (λ (rest : ByteList). IsAtFront IsSpellableEntry spelled_entry c.args.bytes.now c.in-Some.entry rest)
    (sym (rest-left c.args.bytes.now (spelled_entry c.in-Some.entry) c.in-Some.rest.now found.is)) found
