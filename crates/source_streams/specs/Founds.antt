-- The items among what was found (own).
use Rattle.source_streams.specs.declared.batch.Found.{Found}
use Rattle.source_streams.specs.declared.batch.TopicItem.{TopicItem}

-- the item that was found
abbrev pub item_found : Found → TopicItem
item_found f = record { shard = f.shard; version = f.version; document = f.document.now }
