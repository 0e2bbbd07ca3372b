use Rattle.clap.specs.Words.{new_app}
use Rattle.command_words.specs.Program.{words_rule}
use Rattle.command_words.proofs.MakeLemmas.{ruled}
use Rattle.command_words.proofs.program.words_command.Goals as goal

pub returns : goal.returns
returns c = λ name app local rule plain.
    ruled c.with_arg.result (new_app name) _ words_rule rule
    (c.with_arg.ensures (new_app name) (app, local) plain)
