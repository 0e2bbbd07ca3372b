use Rattle.std.proofs.Common.{◌≡◌, ◌++◌}
use Rattle.load_rules.specs.Documents.{again_of}
use Rattle.load_rules.proofs.DocumentsLemmas.{puts}
use Rattle.load_rules.proofs.documents.write_again.Given as goal

-- what the numbers so far give is written
abbrev pub invariant-loop-i : goal.invariant-loop-i
invariant-loop-i l = l.writes ≡ l.initial.writes ++ puts 1 (again_of l.i l.indexer)
