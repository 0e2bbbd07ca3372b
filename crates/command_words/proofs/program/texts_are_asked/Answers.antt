use Rattle.std.proofs.Common.{refl}
use Rattle.clap.proofs.OnLiterals.{clap_on_literals}
use Rattle.command_words.proofs.program.texts_are_asked.Goals as goal

pub returns : goal.returns
unfolding clap_on_literals
returns c = record { help = refl; version = refl; command = refl; topic = refl }
