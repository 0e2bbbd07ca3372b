-- Bodies of steps are read in one way.
use Rattle.std.proofs.Common.{◌≡◌, ◌≢◌, ◌≤◌, List, [], sym, ◌∙◌, ap, arith}
use Rattle.std.proofs.lemmas.List.{append-nil}
use Rattle.tuple_values.specs.Document.{ByteList}
use Rattle.shard_versions.specs.declared.entry.Kind.{Kind}
use Rattle.shard_versions.specs.declared.entry.Kind.TheVariants.{Put, Del, Sent, Mark}
use Rattle.topic_book.specs.declared.topic.BookEntry.{BookEntry}
use Rattle.topic_book.specs.declared.topic.BookEntry.TheVariants.{Bind, Store}
use Rattle.log_codec.specs.Codes.{HasNone, IsAtFront, IsReadInOneWay}
use Rattle.log_codec.specs.Entries.{kind_byte}
use Rattle.log_codec.specs.BookEntries.{book_byte}
use Rattle.log_codec.specs.Steps.{body_of, spelled_log, AreSpellable, IsSpellable}
use Rattle.exchange_rules.specs.declared.log_entry.LogEntry.{LogEntry}
use Rattle.exchange_rules.specs.declared.log_entry.LogEntry.TheVariants.{Shard, Book}
use Rattle.log_codec.proofs.BookLemmas.{book-one}
use Rattle.log_codec.proofs.CodeLemmas.{list-one}
use Rattle.log_codec.proofs.EntryLemmas.{entry-one}
use Rattle.log_codec.proofs.PairLemmas.{head_of}

-- the byte of an entry of a shard
kind-low : (kind : Kind) → kind_byte kind ≤ 4
kind-low (Put document) = omega arith
kind-low (Del id) = omega arith
kind-low (Sent src version document) = omega arith
kind-low Mark = omega arith

-- the byte of an entry of the book
book-high : (entry : BookEntry) → 5 ≤ book_byte entry
book-high (Bind by key binding) = omega arith
book-high (Store by key upto) = omega arith

-- entries of either kind of log are read in one way
pub log-one : IsReadInOneWay IsSpellable spelled_log
log-one (Shard a) (Shard b) x y fa fb same = let one = entry-one a b x y fa fb same in (ap Shard one.0, one.1)
log-one (Shard a) (Book b) x y fa fb same =
    let bytes : kind_byte a.kind ≡ book_byte b = ap head_of same in absurd (omega (arith, kind-low a.kind, book-high b, bytes))
log-one (Book a) (Shard b) x y fa fb same =
    let bytes : book_byte a ≡ kind_byte b.kind = ap head_of same in absurd (omega (arith, kind-low b.kind, book-high a, bytes))
log-one (Book a) (Book b) x y fa fb same = let one = book-one a b x y fa fb same in (ap Book one.0, one.1)

-- bodies are read in one way
pub step-one : IsReadInOneWay AreSpellable body_of
step-one = list-one IsSpellable spelled_log log-one

-- steps with one body are one
pub body-one : (s t : List LogEntry) → AreSpellable s → AreSpellable t → body_of s ≡ body_of t → s ≡ t
body-one s t fs ft same = (step-one s t [] [] fs ft (append-nil (body_of s) ∙ same ∙ sym (append-nil (body_of t)))).0

-- where something follows a body, the whole is no body
pub body-longer : (bytes rest : ByteList) (read : List LogEntry) → IsAtFront AreSpellable body_of bytes read rest → rest ≢ []
    → (step : List LogEntry) → AreSpellable step → bytes ≢ body_of step
body-longer bytes rest read front more step fits same =
    more (step-one read step rest [] front.fits fits (sym front.is ∙ same ∙ sym (append-nil (body_of step)))).1

-- where no body is at the front, the whole is none
pub body-none : (bytes : ByteList) → HasNone AreSpellable body_of bytes → (step : List LogEntry) → AreSpellable step → bytes ≢ body_of step
body-none bytes none step fits same = none step [] fits (same ∙ sym (append-nil (body_of step)))
