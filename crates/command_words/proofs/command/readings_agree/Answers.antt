use Rattle.command_words.proofs.GrammarLemmas.{word_read, word_looks}
use Rattle.command_words.proofs.CommandLemmas.{names_read, names_looks, command_read, command_looks}
use Rattle.command_words.proofs.ProgramLemmas.{command_taken}
use Rattle.command_words.proofs.command.readings_agree.Goals as goal

pub returns : goal.returns
returns c = record {
  word = λ word n. (word_looks word n, word_read word n);
  names = λ words names. (names_looks words names, names_read words names);
  commands = λ words command. (command_looks words command, command_read words command);
  taken = command_taken;
}
