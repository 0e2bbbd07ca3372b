use Rattle.std.specs.Prelude.{codes}
use Rattle.command_words.proofs.program.eval_command.Goals as goal

pub returns : goal.returns
returns c =
    c.words_command.ensures (codes "eval") c.described-command.ensures.app
    c.described-command.ensures.local c.words_arg.ensures.rule c.words_arg.ensures.local
