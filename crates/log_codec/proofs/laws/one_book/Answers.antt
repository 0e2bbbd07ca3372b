use Rattle.log_codec.proofs.BookLemmas.{book-one}
use Rattle.log_codec.proofs.laws.one_book.Goals as goal

pub returns : goal.returns
returns c = book-one
