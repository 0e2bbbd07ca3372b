use Rattle.std.proofs.Common.{◌≡◌, ◌++◌, length}
use Rattle.stream_engine.proofs.stream.read_all.Given as goal

-- the tuples so far and those to come are all
abbrev pub invariant-loop-tuples : goal.invariant-loop-tuples
invariant-loop-tuples l = l.tuples ++ l.stream.0 ≡ l.initial.stream.0

abbrev pub decreases-loop-tuples : goal.decreases-loop-tuples
decreases-loop-tuples l = length l.stream.0
