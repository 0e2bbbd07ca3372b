use Rattle.std.proofs.Common.{◌≡◌}
use Rattle.stream_engine.specs.Flows.{rests_of}
use Rattle.stream_engine.proofs.opening.fed_streams.Given as goal

-- the streams so far give the lists so far
abbrev pub invariant-loop-tuples : goal.invariant-loop-tuples
invariant-loop-tuples l = rests_of l.streams.items ≡ l.yielded
