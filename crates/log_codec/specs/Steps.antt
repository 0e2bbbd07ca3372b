-- How a step of a log is spelled (own).
use Rattle.std.specs.Prelude.{Bool, false, ◌≡◌, List, [], ◌∷◌, map}
use Rattle.std.specs.List.{AllByRecursion}
use Rattle.tuple_values.specs.Document.{ByteList}
use Rattle.log_codec.specs.Codes.{spelled_list, AreCounted}
use Rattle.log_codec.specs.Entries.{holds_group, spelled_entry, IsSpellableEntry}
use Rattle.log_codec.specs.BookEntries.{spelled_book, IsSpellableBook}
use Rattle.exchange_rules.specs.declared.log_entry.LogEntry.{LogEntry}
use Rattle.exchange_rules.specs.declared.log_entry.LogEntry.TheVariants.{Shard, Book}
use Rattle.log_codec.specs.declared.step.StepRef.{StepRef}
use Rattle.log_codec.specs.declared.step.StepRef.TheVariants as lent

-- the list that a lent step stands for: the entries of a shard, or the one entry of the book
abbrev pub entries_in : StepRef → List LogEntry
entries_in (lent.Shard step) = map Shard step.now
entries_in (lent.Book entry) = Book entry.now ∷ []

-- whether the entry's document holds a group
abbrev pub has_group_in : LogEntry → Bool
has_group_in (Shard entry) = holds_group entry.kind
has_group_in (Book entry) = false

-- no document of the step holds a group
abbrev pub HoldsNoGroup : List LogEntry → Type 0
HoldsNoGroup step = AllByRecursion (λ entry. has_group_in entry ≡ false) step

-- an entry of a shard's history, or of the book
abbrev pub spelled_log : LogEntry → ByteList
spelled_log (Shard entry) = spelled_entry entry
spelled_log (Book entry) = spelled_book entry

-- the entry has a spelling
abbrev pub IsSpellable : LogEntry → Type 0
IsSpellable (Shard entry) = IsSpellableEntry entry
IsSpellable (Book entry) = IsSpellableBook entry

-- the body of a step: its entries behind their number
abbrev pub body_of : List LogEntry → ByteList
body_of step = spelled_list spelled_log step

-- each entry of the step has a spelling
abbrev pub AreSpellable : List LogEntry → Type 0
AreSpellable step = AreCounted IsSpellable step
