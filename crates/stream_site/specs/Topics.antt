-- The refusals of the book, as those of a call, and what a refused Store leaves (own).
use Rattle.std.specs.Prelude.{ℕ, ◌≡◌}
use Rattle.topic_book.specs.declared.fault.BookFault.{BookFault}
use Rattle.topic_book.specs.declared.fault.BookFault.TheVariants as book
use Rattle.exchange_rules.specs.Following.{Writer}
use Rattle.exchange_rules.specs.declared.fault.SiteFault.{SiteFault}
use Rattle.exchange_rules.specs.declared.fault.SiteFault.TheVariants.{ShardFull, TopicBound, BookFull, LogFault, CellClosed, OutOfMemory}

-- the book's refusal, as a call's that appended no write
abbrev pub fault_of : BookFault → SiteFault
fault_of (book.TopicBound kept) = TopicBound kept
fault_of (book.BookFull topics) = BookFull topics
fault_of book.OutOfMemory = OutOfMemory 0

-- nothing was appended, unless the book's log failed, which has this cell: then the own marks tell
abbrev pub HasStoredNone : ℕ → Writer → Writer → SiteFault → Type 0
HasStoredNone book old new (ShardFull collection shard stand) = new.own ≡ old.own
HasStoredNone book old new (TopicBound kept) = new.own ≡ old.own
HasStoredNone book old new (BookFull topics) = new.own ≡ old.own
HasStoredNone book old new (LogFault cell stand) = cell ≡ book
HasStoredNone book old new (CellClosed cell stand) = new.own ≡ old.own
HasStoredNone book old new (OutOfMemory stand) = new.own ≡ old.own
