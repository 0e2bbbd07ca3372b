-- The fields so far are made.
use Rattle.update_sink.proofs.PutLemmas.{IsMade}
use Rattle.update_sink.proofs.put.in_kinds.Given as goal

abbrev pub invariant-loop-k : goal.invariant-loop-k
invariant-loop-k l = IsMade l.tuple l.made l.k
