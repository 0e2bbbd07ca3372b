use Rattle.log_codec.specs.Codes.{spelled_list, spelled_text, AreCounted, IsText}
use Rattle.log_codec.specs.BookEntries.{spelled_ends, AreEnds}
use Rattle.log_codec.proofs.BindingLemmas.{names-one}
use Rattle.log_codec.proofs.PairLemmas.{pair-no_second}
use Rattle.log_codec.proofs.bindings.read_tail.Goals as goal

pub returns-in-None-2-clause-none : goal.returns-in-None-2-clause-none
returns-in-None-2-clause-none c =
    let names = rw c.in-Some.is at c.in_ok-fields.ensures.some in
    let none = rw c.in-None-2.is at c.in_ok-dest-in-Some.ensures.none in
    pair-no_second (AreCounted IsText) AreEnds (spelled_list spelled_text) spelled_ends names-one _ _ _ names none
