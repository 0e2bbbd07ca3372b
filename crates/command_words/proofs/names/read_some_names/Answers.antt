use Rattle.command_words.proofs.AnswerLemmas.{some_word, some_answered, some_there}
use Rattle.command_words.proofs.names.read_some_names.Goals as goal

pub returns-clause-computed : goal.returns-clause-computed
returns-clause-computed c =
    some_answered c.args.words.now c.read_names.result
    (some_word c.args.words.now c.if-is_empty.ensures) c.read_names.ensures.computed

pub returns-clause-memory : goal.returns-clause-memory
returns-clause-memory c =
    λ wanting. some_there c.args.words.now (some_word c.args.words.now c.if-is_empty.ensures)
    (c.read_names.ensures.memory wanting)
