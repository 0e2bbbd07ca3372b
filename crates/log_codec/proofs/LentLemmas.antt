-- What a lent step stands for, from its entries.
use Rattle.std.proofs.Common.{◌≡◌, List, [], ◌∷◌, ◌++◌, length, map, ◌∙◌, ap, arith}
use Rattle.std.specs.List.{flat_map, AllByRecursion}
use Rattle.std.proofs.lemmas.List.{append-nil, length-map}
use Rattle.std.proofs.lemmas.List.Folds.{flat_map-map}
use Rattle.tuple_values.specs.Document.{ByteList}
use Rattle.shard_versions.specs.declared.entry.Entry.{Entry}
use Rattle.topic_book.specs.declared.topic.BookEntry.{BookEntry}
use Rattle.exchange_rules.specs.declared.log_entry.LogEntry.TheVariants.{Shard, Book}
use Rattle.log_codec.specs.Codes.{spelled_list, spelled_number, AreCounted}
use Rattle.log_codec.specs.Entries.{spelled_entry, HasNoGroup, IsSpellableEntry}
use Rattle.log_codec.specs.BookEntries.{spelled_book, IsSpellableBook}
use Rattle.log_codec.specs.Steps.{body_of, spelled_log, AreSpellable, HoldsNoGroup, IsSpellable}

-- the body of a shard's entries
pub body-shard : (entries : List Entry) → body_of (map Shard entries) ≡ spelled_list spelled_entry entries
body-shard entries = ap (λ n. spelled_number n ++ flat_map spelled_log (map Shard entries)) (length-map entries Shard)
    ∙ ap (λ (l : ByteList). spelled_number (length entries) ++ l) (flat_map-map spelled_log Shard entries)

-- the body of one entry of the book
pub body-book : (entry : BookEntry) → body_of (Book entry ∷ []) ≡ spelled_number 1 ++ spelled_book entry
body-book entry = ap (λ (l : ByteList). spelled_number 1 ++ l) (append-nil (spelled_book entry))

spellable-each : (entries : List Entry) → AllByRecursion IsSpellableEntry entries → AllByRecursion IsSpellable (map Shard entries)
spellable-each [] all = tt
spellable-each (entry ∷ entries) all = (all.0, spellable-each entries all.1)

-- entries of a shard that have a spelling are a step that has one
pub spellable-shard : (entries : List Entry) → AreCounted IsSpellableEntry entries → AreSpellable (map Shard entries)
spellable-shard entries counted = record {
  counted = omega (arith, counted.counted, length-map entries Shard);
  each = spellable-each entries counted.each;
}

-- and so is an entry of the book
pub spellable-book : (entry : BookEntry) → IsSpellableBook entry → AreSpellable (Book entry ∷ [])
spellable-book entry fits = record { counted = omega arith; each = (fits, tt) }

-- of a step of a shard no entry's document holds a group where each holds none
pub no_group-shard : (entries : List Entry) → AllByRecursion HasNoGroup entries → HoldsNoGroup (map Shard entries)
no_group-shard [] all = tt
no_group-shard (entry ∷ entries) all = (all.0, no_group-shard entries all.1)

-- and the other way
pub no_group-entries : (entries : List Entry) → HoldsNoGroup (map Shard entries) → AllByRecursion HasNoGroup entries
no_group-entries [] all = tt
no_group-entries (entry ∷ entries) all = (all.0, no_group-entries entries all.1)

-- what is written of a lent step
pub ruleset lent_steps = (body-shard, body-book, spellable-shard, spellable-book, no_group-shard, no_group-entries)
