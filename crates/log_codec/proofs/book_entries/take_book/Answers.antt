use Rattle.log_codec.proofs.BookLemmas.{book-no_head, book-no_parts}
use Rattle.log_codec.proofs.book_entries.take_book.Goals as goal

pub returns-in-None-clause-none : goal.returns-in-None-clause-none
returns-in-None-clause-none c = book-no_head _ c.in-None.ensures.none

pub returns-in-None-2-clause-none : goal.returns-in-None-2-clause-none
returns-in-None-2-clause-none c =
    let none = rw c.in-None-2.is at c.in_ok-entry-in-Some.ensures.none in
    book-no_parts _ _ _ c.in-Some.ensures.some none
