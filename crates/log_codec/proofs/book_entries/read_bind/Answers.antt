use Rattle.log_codec.proofs.BookLemmas.{bind-no_binding, bind-no_key}
use Rattle.log_codec.proofs.book_entries.read_bind.Goals as goal

pub returns-in-None-2-clause-none : goal.returns-in-None-2-clause-none
returns-in-None-2-clause-none c =
    let none = rw c.in-None-2.is at c.in_ok-binding-in-Some.ensures.none in
    bind-no_binding _ _ c.args.by _ c.in-Some.ensures.some none

pub returns-in-None-clause-none : goal.returns-in-None-clause-none
returns-in-None-clause-none c = bind-no_key _ c.args.by c.in-None.ensures.none
