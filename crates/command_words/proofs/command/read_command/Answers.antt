use Rattle.command_words.proofs.AnswerLemmas.{answers_ok, answers_fit, answers_ranged}
use Rattle.command_words.proofs.AnswerLemmas.{answers_refused, answers_told, answers_memory}
use Rattle.command_words.proofs.command.read_command.Goals as goal

pub returns-clause-ok : goal.returns-clause-ok
returns-clause-ok c =
    answers_ok c.args.words.now c.told_or_read.result c.told_or_read.ensures.computed

pub returns-clause-fit : goal.returns-clause-fit
returns-clause-fit c =
    answers_fit c.args.words.now c.told_or_read.result c.told_or_read.ensures.computed

pub returns-clause-ranged : goal.returns-clause-ranged
returns-clause-ranged c =
    answers_ranged c.args.words.now c.told_or_read.result c.told_or_read.ensures.computed

pub returns-clause-refused : goal.returns-clause-refused
returns-clause-refused c =
    answers_refused c.args.words.now c.told_or_read.result c.told_or_read.ensures.computed

pub returns-clause-memory : goal.returns-clause-memory
returns-clause-memory c =
    answers_memory c.args.words.now c.told_or_read.result c.told_or_read.ensures.memory

pub returns-clause-told : goal.returns-clause-told
returns-clause-told c =
    answers_told c.args.words.now c.told_or_read.result c.told_or_read.ensures.computed
