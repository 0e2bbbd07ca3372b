-- The entries of a cell, a shard's or the book's; and what a writer appends there (own).
use Rattle.std.specs.Prelude.{ℕ, List, [], ◌∷◌, ◌++◌, map}
use Rattle.shard_versions.specs.Histories.{History}
use Rattle.shard_versions.specs.declared.entry.Kind.{Kind}
use Rattle.shard_versions.specs.declared.entry.Entry.{Entry}
use Rattle.topic_book.specs.Books.{Book}
use Rattle.topic_book.specs.declared.topic.TopicKey.{TopicKey}
use Rattle.topic_book.specs.declared.topic.Binding.{Binding}
use Rattle.topic_book.specs.declared.topic.BookEntry.{BookEntry}
use Rattle.topic_book.specs.declared.topic.BookEntry.TheVariants.{Bind, Store}
use Rattle.exchange_rules.specs.declared.log_entry.LogEntry.TheVariants as logged
use Rattle.exchange_rules.specs.declared.log_entry.LogEntry.{LogEntry}

-- the log of a cell: its entries, in order
abbrev pub Log : Type 0
Log = List LogEntry

-- the number of the entry's writer
abbrev pub author_of : LogEntry → ℕ
author_of (logged.Shard e) = e.by
author_of (logged.Book (Bind by key b)) = by
author_of (logged.Book (Store by key upto)) = by

-- the payload of a log entry, which is all but its writer's number: a shard's entry, a Bind or a
-- Store
pub data Payload : Type 0 where
  write : Kind → Payload
  bind : TopicKey → Binding → Payload
  store : TopicKey → List ℕ → Payload

-- the entry that it is under the writer's number
abbrev pub signed_by : ℕ → Payload → LogEntry
signed_by me (write kind) = logged.Shard (record { by = me; kind = kind })
signed_by me (bind key b) = logged.Book (Bind me key b)
signed_by me (store key upto) = logged.Book (Store me key upto)

-- the payload of an entry of the book
abbrev pub payload_of : BookEntry → Payload
payload_of (Bind by key b) = bind key b
payload_of (Store by key upto) = store key upto

-- a step as the writer's entries
abbrev pub signed : ℕ → List Payload → Log
signed me step = map (signed_by me) step

-- the entries that a writer's step appends to this log
abbrev pub signed_behind : ℕ → Log → List Payload → Log
signed_behind me log step = signed me step

-- the log of a shard's cell
abbrev pub log_of : History → Log
log_of h = map logged.Shard h

-- the shard's entry that it is, where it is one
abbrev pub entry_in : LogEntry → History
entry_in (logged.Shard e) = e ∷ []
entry_in (logged.Book e) = []

-- the shard's history in a cell's log, and the empty one in the book's cell
abbrev pub history_in : Log → History
history_in [] = []
history_in (n ∷ log) = entry_in n ++ history_in log

-- the book's entry that it is, where it is one
abbrev pub book_entry_in : LogEntry → Book
book_entry_in (logged.Shard e) = []
book_entry_in (logged.Book e) = e ∷ []

-- the book in a cell's log, and the empty one in a shard's cell
abbrev pub book_in : Log → Book
book_in [] = []
book_in (n ∷ log) = book_entry_in n ++ book_in log

-- the log of the book's cell
abbrev pub log_of_book : Book → Log
log_of_book book = map logged.Book book
