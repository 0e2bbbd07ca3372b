use Rattle.running_site.proofs.EmptyLemmas.{AreCells}
use Rattle.running_site.proofs.empty.empty_cells.Given as goal

-- the cells so far hold the shards so far
abbrev pub invariant-loop-shard : goal.invariant-loop-shard
invariant-loop-shard g l = AreCells l.names l.cells l.yielded
