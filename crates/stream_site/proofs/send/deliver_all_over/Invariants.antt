-- The steps so far are delivered, and the others are as they were.
use Rattle.std.proofs.Common.{◌≡◌, ◌-◌, ◌≤◌}
use Rattle.topic_book.specs.Fitness.{shards_of}
use Rattle.exchange_rules.specs.Calls.{HasAppended}
use Rattle.exchange_rules.specs.Deliveries.{send_shards}
use Rattle.exchange_rules.specs.Rows.{length_below}
use Rattle.stream_site.specs.Shares.{AreLeft, share_in}
use Rattle.stream_site.proofs.send.deliver_all_over.Given as goal

abbrev pub invariant-loop-shard : goal.invariant-loop-shard
invariant-loop-shard g l =
    let layout = g.T.Turns.layout l.fn.site in
    let share = share_in l.fn.steps.items in
    let n = shards_of layout.names l.dest in
    record {
      same : g.T.Turns.layout l.site ≡ layout;
      home : g.T.Turns.home l.site ≡ g.T.Turns.home l.fn.site;
      left : AreLeft l.fn.steps.items l.steps.items l.shard;
      few : l.admitted ≤ length_below share l.shard;
      reached : HasAppended (g.T.Turns.writer l.fn.site) (g.T.Turns.writer l.site)
          (send_shards layout l.dest share 0 0 n)
          (send_shards layout l.dest share l.admitted l.shard (n - l.shard)) l.admitted;
    }
