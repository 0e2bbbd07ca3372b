use Rattle.std.proofs.Common.{subst, sym}
use Rattle.tuple_values.specs.Document.{ByteList}
use Rattle.log_codec.specs.Codes.{IsAtFront}
use Rattle.log_codec.specs.BookEntries.{spelled_book, IsSpellableBook}
use Rattle.log_codec.proofs.ReadLemmas.{rest-left}
use Rattle.log_codec.proofs.book_entries.read_book.Goals as goal

pub returns-in-Some-clause-some : goal.returns-in-Some-clause-some
returns-in-Some-clause-some c =
    let found = rw c.in-Some.is at c.in_ok-entry.ensures.some in
    subst (λ (rest : ByteList). IsAtFront IsSpellableBook spelled_book c.args.bytes.now c.in-Some.entry rest)
    (sym (rest-left c.args.bytes.now (spelled_book c.in-Some.entry) c.in-Some.rest.now found.is)) found
