-- The items so far are made.
use Rattle.std.proofs.Common.{◌≡◌, map, take}
use Rattle.std.specs.List.{AllByRecursion}
use Rattle.tuple_values.specs.Document.{Rises}
use Rattle.source_streams.specs.declared.batch.TopicItem.{TopicItem}
use Rattle.update_sink.specs.Topics.{sent_item}
use Rattle.update_sink.proofs.delivering.batch_of.Given as goal

abbrev pub invariant-loop-item : goal.invariant-loop-item
invariant-loop-item l = record {
  made : l.batch ≡ map (sent_item l.src) (take l.item-index l.items);
  rise : AllByRecursion (λ (i : TopicItem). Rises i.document) (take l.item-index l.items);
}
