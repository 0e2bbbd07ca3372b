use Rattle.command_words.proofs.CommandLemmas.{word_other}
use Rattle.command_words.proofs.command.command_by.Goals as goal

pub returns-in_default-clause-computed : goal.returns-in_default-clause-computed
returns-in_default-clause-computed c =
    word_other c.args.word.now c.args.rest.now c.in_default.not-eval c.in_default.not-script
    c.in_default.not-serve c.in_default.not-load
