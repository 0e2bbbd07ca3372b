-- The commits of the tuples so far are made.
use Rattle.std.proofs.Common.{◌≡◌, drop}
use Rattle.exchange_rules.specs.Following.{Reaches}
use Rattle.exchange_rules.specs.Updates.{commit_round_course}
use Rattle.update_sink.proofs.CommitLemmas.{left_over}
use Rattle.update_sink.proofs.commit.commit_each.Given as goal

abbrev pub invariant-loop-k : goal.invariant-loop-k
invariant-loop-k g l =
    let layout = g.T.Turns.layout l.fn.site in
    record {
      same : g.T.Turns.layout l.site ≡ layout;
      home : g.T.Turns.home l.site ≡ g.T.Turns.home l.fn.site;
      reached : Reaches (g.T.Turns.writer l.fn.site) (g.T.Turns.writer l.site)
          (commit_round_course layout l.dest l.batch_size l.summaries l.tuples)
          (left_over layout l.dest l.batch_size l.summaries l.count (drop l.k l.tuples));
    }
