-- The update that a load's topic feeds (own).
use Rattle.std.specs.Prelude.{◌≡◌}
use Rattle.update_sink.specs.Topics.{Sink, sink_of, IsCheckedDelivery}
use Rattle.update_sink.specs.declared.delivering.Delivery.{Delivery}
use Rattle.load_rules.specs.Topic.{dest_name}
use Rattle.load_mix.specs.Topic.{load_parts, load_size}

-- the topic, its destination, and how many documents are in a batch
abbrev pub load_sink : Sink
load_sink = record { topic = load_parts; dest = dest_name; size = load_size }

-- the delivery is that of a load's topic
pub record IsLoadDelivery (d : Delivery) : Type 0 where
  pub checked : IsCheckedDelivery d
  pub is : sink_of d ≡ load_sink
