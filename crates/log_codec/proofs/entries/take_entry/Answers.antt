use Rattle.log_codec.proofs.EntryLemmas.{entry-no_head, entry-no_kind}
use Rattle.log_codec.proofs.entries.take_entry.Goals as goal

pub returns-in-None-clause-none : goal.returns-in-None-clause-none
returns-in-None-clause-none c = entry-no_head _ c.in-None.ensures.none

pub returns-in-None-2-clause-none : goal.returns-in-None-2-clause-none
returns-in-None-2-clause-none c =
    let none = rw c.in-None-2.is at c.in_ok-kind-in-Some.ensures.none in
    entry-no_kind _ _ _ c.in-Some.ensures.some none
