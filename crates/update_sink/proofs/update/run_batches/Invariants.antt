-- The batches so far are taken.
use Rattle.std.proofs.Common.{◌≡◌, length}
use Rattle.exchange_rules.specs.Batches.{batches_of}
use Rattle.exchange_rules.specs.Following.{Reaches}
use Rattle.exchange_rules.specs.Updates.{batches_course, tuples_course}
use Rattle.update_sink.specs.Progresses.{sunk_of}
use Rattle.update_sink.proofs.update.run_batches.Given as goal

abbrev pub invariant-loop-rest : goal.invariant-loop-rest
invariant-loop-rest g l =
    let layout = g.T.Turns.layout l.fn.site in
    record {
      same : g.T.Turns.layout l.site ≡ layout;
      home : g.T.Turns.home l.site ≡ g.T.Turns.home l.fn.site;
      reached : Reaches (g.T.Turns.writer l.fn.site) (g.T.Turns.writer l.site)
          (tuples_course layout l.dest l.batch_size l.tuples)
          (batches_course layout l.dest (sunk_of l.progress) (batches_of l.batch_size l.rest));
    }

abbrev pub decreases-loop-rest : goal.decreases-loop-rest
decreases-loop-rest g l = length l.rest
