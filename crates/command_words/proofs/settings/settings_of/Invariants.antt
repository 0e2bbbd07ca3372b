use Rattle.std.proofs.Common.{◌≡◌, length}
use Rattle.command_words.specs.Settings.{settings_behind, settings_of}
use Rattle.command_words.proofs.settings.settings_of.Given as goal

-- the words say what those to come do, behind what is said
abbrev pub invariant-loop-word : goal.invariant-loop-word
invariant-loop-word l = settings_of l.words ≡ settings_behind l.said l.rest

-- the words to come
abbrev pub decreases-loop-word : goal.decreases-loop-word
decreases-loop-word l = length l.rest
