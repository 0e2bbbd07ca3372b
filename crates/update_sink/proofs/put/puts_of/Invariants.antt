-- The writes so far stand before those of the tuples that are left.
use Rattle.std.proofs.Common.{◌≡◌, ◌+◌, drop}
use Rattle.exchange_rules.specs.Puts.{puts_of}
use Rattle.update_sink.proofs.PutLemmas.{writes_before}
use Rattle.update_sink.proofs.put.puts_of.Given as goal

abbrev pub invariant-loop-k : goal.invariant-loop-k
invariant-loop-k l =
    puts_of l.at l.tuples ≡ writes_before l.writes (puts_of (l.at + l.k) (drop l.k l.tuples))
