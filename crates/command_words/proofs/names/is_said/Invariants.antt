use Rattle.std.proofs.Common.{◌≡◌, drop}
use Rattle.command_words.specs.Names.{is_said}
use Rattle.command_words.proofs.names.is_said.Given as goal

-- one of the words says the name where one of those to come does
abbrev pub invariant-loop-word : goal.invariant-loop-word
invariant-loop-word l = is_said l.name l.words ≡ is_said l.name (drop l.word-index l.words)
