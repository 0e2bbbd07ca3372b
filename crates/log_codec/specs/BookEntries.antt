-- How the entries of the book of topics are spelled (own).
use Rattle.std.specs.Prelude.{ℕ, ◌≡◌, List, [], ◌∷◌, ◌++◌, Option, Some, None}
use Rattle.tuple_values.specs.Document.{ByteList}
use Rattle.topic_book.specs.declared.topic.TopicKey.{TopicKey}
use Rattle.topic_book.specs.declared.topic.Binding.{Binding}
use Rattle.topic_book.specs.declared.topic.BookEntry.{BookEntry}
use Rattle.topic_book.specs.declared.topic.BookEntry.TheVariants.{Bind, Store}
use Rattle.log_codec.specs.Codes.{spelled_list, spelled_number, spelled_text, AreCounted, IsNumber, IsText}

-- two texts
abbrev pub spelled_texts : ByteList × ByteList → ByteList
spelled_texts texts = spelled_text texts.0 ++ spelled_text texts.1

-- both are texts
abbrev pub AreTexts : ByteList × ByteList → Type 0
AreTexts texts = IsText texts.0 × IsText texts.1

-- the collection of a topic's checkpoints, and its id
abbrev pub spelled_key : TopicKey → ByteList
spelled_key key = spelled_texts (key.checkpoints, key.id)

-- both are texts
abbrev pub IsSpellableKey : TopicKey → Type 0
IsSpellableKey key = AreTexts (key.checkpoints, key.id)

-- 0, or 1 and a destination
abbrev pub spelled_destination : Option ByteList → ByteList
spelled_destination None = 0 ∷ []
spelled_destination (Some name) = 1 ∷ spelled_text name

-- a destination is a text
abbrev pub IsSpellableDestination : Option ByteList → Type 0
IsSpellableDestination None = Unit {0}
IsSpellableDestination (Some name) = IsText name

-- versions behind their number
abbrev pub spelled_versions : List ℕ → ByteList
spelled_versions versions = spelled_list spelled_number versions

-- each version is a number
abbrev pub AreSpellableVersions : List ℕ → Type 0
AreSpellableVersions versions = AreCounted IsNumber versions

-- a destination, and the first versions
abbrev pub spelled_ends : Option ByteList × List ℕ → ByteList
spelled_ends ends = spelled_destination ends.0 ++ spelled_versions ends.1

-- both have a spelling
abbrev pub AreEnds : Option ByteList × List ℕ → Type 0
AreEnds ends = IsSpellableDestination ends.0 × AreSpellableVersions ends.1

-- fields, a destination, and the first versions
abbrev pub spelled_tail : List ByteList × (Option ByteList × List ℕ) → ByteList
spelled_tail tail = spelled_list spelled_text tail.0 ++ spelled_ends tail.1

-- each has a spelling
abbrev pub IsTail : List ByteList × (Option ByteList × List ℕ) → Type 0
IsTail tail = AreCounted IsText tail.0 × AreEnds tail.1

-- the source and the query, and then the fields, the destination and the first versions
abbrev pub spelled_binding : Binding → ByteList
spelled_binding binding =
    spelled_texts (binding.src, binding.q)
    ++ spelled_tail (binding.fields, (binding.dest, binding.init))

-- each part has a spelling
pub record IsSpellableBinding (binding : Binding) : Type 0 where
  pub src : IsText binding.src
  pub q : IsText binding.q
  pub fields : AreCounted IsText binding.fields
  pub dest : IsSpellableDestination binding.dest
  pub init : AreSpellableVersions binding.init

-- the byte that tells what an entry does
abbrev pub book_byte : BookEntry → ℕ
book_byte (Bind by key binding) = 5
book_byte (Store by key upto) = 6

-- the number of the entry's writer
abbrev pub writer_of : BookEntry → ℕ
writer_of (Bind by key binding) = by
writer_of (Store by key upto) = by

-- what follows the writer's number
abbrev pub spelled_parts : BookEntry → ByteList
spelled_parts (Bind by key binding) = spelled_key key ++ spelled_binding binding
spelled_parts (Store by key upto) = spelled_key key ++ spelled_versions upto

-- each part has a spelling
abbrev pub AreSpellableParts : BookEntry → Type 0
AreSpellableParts (Bind by key binding) = IsSpellableKey key × IsSpellableBinding binding
AreSpellableParts (Store by key upto) = IsSpellableKey key × AreSpellableVersions upto

-- its byte, the number of its writer, and its parts
abbrev pub spelled_book : BookEntry → ByteList
spelled_book entry =
    book_byte entry ∷ (spelled_number (writer_of entry) ++ spelled_parts entry)

-- the writer's number and each part have a spelling
pub record IsSpellableBook (entry : BookEntry) : Type 0 where
  pub by : IsNumber (writer_of entry)
  pub parts : AreSpellableParts entry

-- an entry of this byte and this writer, where its parts have a spelling
pub record IsBookOf (kind writer : ℕ) (entry : BookEntry) : Type 0 where
  pub byte : book_byte entry ≡ kind
  pub by : writer_of entry ≡ writer
  pub parts : AreSpellableParts entry
