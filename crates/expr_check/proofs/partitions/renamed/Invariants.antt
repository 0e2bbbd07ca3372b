use Rattle.std.proofs.Common.{◌≡◌, drop}
use Rattle.expr_check.specs.Partitions.{renamed}
use Rattle.expr_check.proofs.PartitionLemmas.{with_all}
use Rattle.expr_check.proofs.partitions.renamed.Given as goal

-- the names so far, and then those of the keys to come, where each has one
abbrev pub invariant-loop-key : goal.invariant-loop-key
invariant-loop-key l =
    renamed l.items l.keys ≡ with_all l.names (renamed l.items (drop l.key-index l.key-items))
