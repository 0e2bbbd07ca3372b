-- What is told of the faults of updates, commits and topics (own).
use Rattle.std.specs.Prelude.{ℕ, ◌++◌, codes}
use Rattle.std.specs.Fmt.{decimal}
use Rattle.tuple_values.specs.Document.{ByteList}
use Rattle.topic_book.specs.Kept.{kept_text}
use Rattle.topic_book.specs.declared.topic.TopicKey.{TopicKey}
use Rattle.topic_book.specs.declared.topic.Binding.{Binding}
use Rattle.exchange_rules.specs.declared.fault.SiteFault.{SiteFault}
use Rattle.exchange_rules.specs.declared.fault.SiteFault.TheVariants.{ShardFull, TopicBound, BookFull, LogFault, CellClosed, OutOfMemory}
use Rattle.exchange_rules.specs.declared.run.RunFault.{RunFault}
use Rattle.exchange_rules.specs.declared.run.RunFault.TheVariants.{BadTuple, TupleTooLarge, Site}

-- the refusal is neither want of memory nor a log's fault, and this holds of it
abbrev pub Told : SiteFault → Type 0 → Type 0
Told (ShardFull collection shard stand) P = P
Told (TopicBound kept) P = P
Told (BookFull topics) P = P
Told (LogFault cell stand) P = ⊥
Told (CellClosed cell stand) P = ⊥
Told (OutOfMemory stand) P = ⊥

-- what is told of a shard that is full, when so many writes of the request stand
abbrev pub full_text : ByteList → ℕ → ℕ → ByteList
full_text collection shard stand =
    codes "ShardFull " ++ collection ++ codes " " ++ decimal shard ++ codes " after "
    ++ decimal stand ++ codes " writes"

-- what is told of a refusal of the site, when so many writes of the request stand; no topic is bound
-- by an update or a commit, and neither want of memory nor a log's fault is told
abbrev pub site_told : ℕ → SiteFault → ByteList
site_told stand (ShardFull collection shard n) = full_text collection shard stand
site_told stand (TopicBound kept) = codes "TopicBound"
site_told stand (BookFull topics) = codes "BookFull 1000"
site_told stand (LogFault cell n) = codes "out of memory"
site_told stand (CellClosed cell n) = codes "out of memory"
site_told stand (OutOfMemory n) = codes "out of memory"

-- what is told of the fault of an update
abbrev pub run_told : ℕ → RunFault → ByteList
run_told stand (BadTuple at field) = codes "BadTuple " ++ decimal at ++ codes " " ++ field
run_told stand (TupleTooLarge at) = codes "TupleTooLarge " ++ decimal at
run_told stand (Site fault) = site_told stand fault

-- what is told of a topic that is bound to other values
abbrev pub bound_text : TopicKey → Binding → ByteList
bound_text key kept =
    codes "TopicBound " ++ key.checkpoints ++ codes " " ++ key.id ++ codes " kept " ++ kept_text kept

-- what is told of a refusal of the site in the run of a topic, when so many writes of the request
-- stand
abbrev pub topic_told : TopicKey → ℕ → SiteFault → ByteList
topic_told key stand (ShardFull collection shard n) = full_text collection shard stand
topic_told key stand (TopicBound kept) = bound_text key kept
topic_told key stand (BookFull topics) = codes "BookFull 1000"
topic_told key stand (LogFault cell n) = codes "out of memory"
topic_told key stand (CellClosed cell n) = codes "out of memory"
topic_told key stand (OutOfMemory n) = codes "out of memory"
