-- The batches so far are delivered: their items are there, and the others may be delivered.
use Rattle.std.proofs.Common.{◌≡◌, ◌++◌, List, length, map}
use Rattle.exchange_rules.specs.Batches.{batches_of, none_sunk}
use Rattle.exchange_rules.specs.Following.{Reaches}
use Rattle.exchange_rules.specs.Topics.{sends_course}
use Rattle.source_streams.specs.declared.batch.TopicItem.{TopicItem}
use Rattle.update_sink.specs.Given.{AreGiven, AreThereNow}
use Rattle.update_sink.specs.Progresses.{sunk_of}
use Rattle.update_sink.specs.Topics.{sent_item}
use Rattle.update_sink.proofs.delivering.deliver_all.Given as goal

abbrev pub invariant-loop-rest : goal.invariant-loop-rest
invariant-loop-rest g l =
    let layout = g.T.Turns.layout l.fn.site in
    let w = g.T.Turns.writer l.fn.site in
    let now = g.T.Turns.writer l.site in
    let dest = l.delivery.dest.now in
    let src = l.delivery.topic.collection.now in
    record {
      same : g.T.Turns.layout l.site ≡ layout;
      home : g.T.Turns.home l.site ≡ g.T.Turns.home l.fn.site;
      reached : Reaches w now
          (sends_course layout dest src none_sunk
          (batches_of l.delivery.batch_size (map (sent_item src) l.items)))
          (sends_course layout dest src (sunk_of l.progress)
          (batches_of l.delivery.batch_size (map (sent_item src) l.rest)));
      given : AreGiven layout.names now.seen src l.delivery.topic.fl.now l.rest;
      front : List TopicItem;
      whole : l.items ≡ front ++ l.rest;
      there : AreThereNow layout.names now.seen dest src front;
    }

abbrev pub decreases-loop-rest : goal.decreases-loop-rest
decreases-loop-rest g l = length l.rest
