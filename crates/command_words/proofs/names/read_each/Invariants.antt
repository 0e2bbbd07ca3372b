use Rattle.std.proofs.Common.{◌≡◌, drop}
use Rattle.command_words.specs.Names.{each_of}
use Rattle.command_words.proofs.NameLemmas.{before}
use Rattle.command_words.proofs.names.read_each.Given as goal

-- the collections are those that were read, and then those of the words to come
abbrev pub invariant-loop-word : goal.invariant-loop-word
invariant-loop-word l = each_of l.words ≡ before l.names (each_of (drop l.word-index l.words))
