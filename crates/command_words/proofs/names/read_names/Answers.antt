use Rattle.std.proofs.Common.{◌≡◌, true, is_some}
use Rattle.command_words.specs.Names.{names_of}
use Rattle.command_words.proofs.AnswerLemmas.{names_answered, names_fit}
use Rattle.command_words.proofs.names.read_names.Goals as goal

pub returns-clause-fit : goal.returns-clause-fit
returns-clause-fit c =
    let some : true ≡ is_some (names_of c.args.words.now) = cc in
    names_fit c.args.words.now c.read_each.result
    (names_answered c.args.words.now c.read_each.result some c.read_each.ensures.computed)
