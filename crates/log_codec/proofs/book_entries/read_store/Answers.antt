use Rattle.log_codec.proofs.BookLemmas.{store-no_versions, store-no_key}
use Rattle.log_codec.proofs.book_entries.read_store.Goals as goal

pub returns-in-None-2-clause-none : goal.returns-in-None-2-clause-none
returns-in-None-2-clause-none c =
    let none = rw c.in-None-2.is at c.in_ok-upto-in-Some.ensures.none in
    store-no_versions _ _ c.args.by _ c.in-Some.ensures.some none

pub returns-in-None-clause-none : goal.returns-in-None-clause-none
returns-in-None-clause-none c = store-no_key _ c.args.by c.in-None.ensures.none
