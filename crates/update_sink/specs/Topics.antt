-- The topics that are read and delivered: what they ask for, what is delivered of their documents, and
-- what is told of them (Solr Reference Guide, "Stream Source Reference", topic, and "Stream Decorator
-- Reference", update; how a delivered document tells its origin is own).
use Rattle.std.specs.Prelude.{ℕ, ◌≢◌, ◌<◌, List, map, pos, Option}
use Rattle.tuple_values.specs.Document.{ByteList, Doc, long, text, put, without}
use Rattle.tuple_values.specs.declared.names.NameShards.{NameShards}
use Rattle.shard_versions.specs.Documents.{source_name, source_version_name, version_name}
use Rattle.shard_versions.specs.declared.cut.CutPart.{CutPart}
use Rattle.topic_book.specs.Fitness.{shards_of}
use Rattle.topic_book.specs.declared.topic.TopicKey.{TopicKey}
use Rattle.expr_types.specs.ExprTree.{TopicParts}
use Rattle.expr_check.specs.Roots.{topic_parts, IsTopicOf}
use Rattle.expr_check.specs.Views.{tree_of}
use Rattle.source_streams.specs.Batches.{topic_items}
use Rattle.source_streams.specs.declared.batch.TopicItem.{TopicItem}
use Rattle.exchange_rules.specs.Batches.{Sunk, batches_of}
use Rattle.exchange_rules.specs.Topics.{Asked, tops_of}
use Rattle.exchange_rules.specs.declared.batch.BatchItem.{BatchItem}
use Rattle.exchange_rules.specs.declared.run.TopicRead.{TopicRead}
use Rattle.exchange_rules.specs.declared.run.TopicRun.{TopicRun}
use Rattle.update_sink.specs.declared.delivering.Delivery.{Delivery}

-- an update of a topic: the topic, its destination, and how many documents are in a batch
pub record Sink : Type 0 where
  pub topic : TopicParts
  pub dest : ByteList
  pub size : ℕ

-- the update that a delivery is
abbrev pub sink_of : Delivery → Sink
sink_of d = record { topic = topic_parts d.topic; dest = d.dest.now; size = d.batch_size }

-- it is of a checked topic of another collection than its destination, and its batches aren't empty
pub record IsCheckedDelivery (d : Delivery) : Type 0 where
  pub topic : IsTopicOf (tree_of d.input.now) d.topic
  pub elsewhere : d.topic.collection.now ≢ d.dest.now
  pub filled : 0 < d.batch_size

-- the key of a topic
abbrev pub key_of : TopicParts → TopicKey
key_of p = record { checkpoints = p.checkpoints; id = p.id }

-- what a topic asks for under this key, with this destination, if any
abbrev pub asked_by : TopicKey → TopicParts → Option ByteList → Asked
asked_by key p dest = record {
  key = key;
  src = p.collection;
  q = p.q_text;
  fields = p.fl;
  dest = dest;
  init = p.init;
}

-- and under its own
abbrev pub asked_of : TopicParts → Option ByteList → Asked
asked_of p dest = asked_by (key_of p) p dest

-- the collections of a topic have shards
pub record IsThere (names : List NameShards) (p : TopicParts) : Type 0 where
  pub checkpoints : 0 < shards_of names p.checkpoints
  pub src : 0 < shards_of names p.collection

-- so have those of an update of a topic
pub record IsSinkThere (names : List NameShards) (s : Sink) : Type 0 where
  pub topic : IsThere names s.topic
  pub dest : 0 < shards_of names s.dest

-- what is told of a topic that gives its tuples
abbrev pub read_of : TopicParts → List ℕ → List CutPart → TopicRead
read_of p before cut = record {
  cut = cut;
  before = before;
  stored = tops_of cut;
  tuples = map (λ (i : TopicItem). i.document) (topic_items p cut before);
}

-- what is delivered of a document that a topic gives: all but its version, with its source and the
-- version that it has there
abbrev pub sent_document : ByteList → ℕ → Doc → Doc
sent_document src version doc =
    put source_version_name (long (pos version))
    (put source_name (text src) (without version_name doc))

-- the item of a batch that it is
abbrev pub sent_item : ByteList → TopicItem → BatchItem
sent_item src i =
    record { version = i.version; document = sent_document src i.version i.document }

-- the batches that an update makes of a topic's cut above a checkpoint
abbrev pub batches_over : Sink → List ℕ → List CutPart → List (List BatchItem)
batches_over s before cut =
    batches_of s.size (map (sent_item s.topic.collection) (topic_items s.topic cut before))

-- what is told of a topic that was delivered, when these versions were stored
abbrev pub run_at : List ℕ → List CutPart → List ℕ → Sunk → TopicRun
run_at before cut stored s = record {
  cut = cut;
  before = before;
  stored = stored;
  summaries = s.summaries;
  read = s.total;
  stand = s.stand;
}

-- and when those of the cut's tops were
abbrev pub run_of : List ℕ → List CutPart → Sunk → TopicRun
run_of before cut s = run_at before cut (tops_of cut) s
