use Rattle.std.proofs.Common.{◌≤◌}
use Rattle.command_words.proofs.NameLemmas.{IsWellTo}
use Rattle.command_words.proofs.names.are_names.Given as goal

-- the words are well where those to come are, behind so many shards
abbrev pub invariant-loop-place : goal.invariant-loop-place
invariant-loop-place l = IsWellTo l.words l.place l.together × (l.together ≤ 16)
