use Rattle.std.proofs.Common.{arith}
use Rattle.command_words.proofs.NameLemmas.{well-is}
use Rattle.command_words.proofs.names.are_names.Goals as goal

pub loop-place-init : goal.loop-place-init
loop-place-init c = (well-is c.args.words.now, omega arith)
