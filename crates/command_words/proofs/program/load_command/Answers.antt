use Rattle.std.specs.Prelude.{codes}
use Rattle.clap.specs.Simple.{new_app}
use Rattle.command_words.specs.Program.{number_rule}
use Rattle.command_words.proofs.MakeLemmas.{ruled}
use Rattle.command_words.proofs.program.load_command.Goals as goal

pub returns : goal.returns
returns c =
    ruled c.with_arg.result (new_app (codes "load")) _ number_rule c.number_arg.ensures.rule
    (c.with_arg.ensures (new_app (codes "load"))
    (c.described-command.ensures.app, c.described-command.ensures.local)
    c.number_arg.ensures.local)
