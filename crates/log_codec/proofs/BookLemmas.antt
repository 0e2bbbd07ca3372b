-- Entries of the book of topics are read in one way.
use Rattle.std.proofs.Common.{ℕ, List, ◌∷◌, ◌++◌, refl, sym, ◌∙◌, ap, arith, append_assoc}
use Rattle.tuple_values.specs.Document.{ByteList}
use Rattle.topic_book.specs.declared.topic.TopicKey.{TopicKey}
use Rattle.topic_book.specs.declared.topic.Binding.{Binding}
use Rattle.topic_book.specs.declared.topic.BookEntry.TheVariants.{Bind, Store}
use Rattle.log_codec.specs.Codes.{spelled_number, HasNone, IsAtFront, IsReadInOneWay}
use Rattle.log_codec.specs.Heads.{spelled_head, IsHead}
use Rattle.log_codec.specs.BookEntries.{book_byte, spelled_binding, spelled_book, spelled_key, spelled_parts, spelled_texts, spelled_versions, writer_of, AreSpellableVersions, AreTexts, IsBookOf, IsSpellableBinding, IsSpellableBook, IsSpellableKey}
use Rattle.log_codec.specs.declared.head.Head.{Head}
use Rattle.log_codec.proofs.BindingLemmas.{binding-one, key-one, versions-one}
use Rattle.log_codec.proofs.HeadLemmas.{headed-one, headed-same}
use Rattle.log_codec.proofs.PairLemmas.{both, pair-no_first, pair-no_second, pair-one, BothFit}

-- a topic and its binding are read in one way
bind-one : IsReadInOneWay (BothFit IsSpellableKey IsSpellableBinding spelled_key spelled_binding) (both IsSpellableKey IsSpellableBinding spelled_key spelled_binding)
bind-one = pair-one IsSpellableKey IsSpellableBinding spelled_key spelled_binding key-one binding-one

-- a topic and versions are read in one way
store-one : IsReadInOneWay (BothFit IsSpellableKey AreSpellableVersions spelled_key spelled_versions) (both IsSpellableKey AreSpellableVersions spelled_key spelled_versions)
store-one = pair-one IsSpellableKey AreSpellableVersions spelled_key spelled_versions key-one versions-one

-- the parts of entries of one byte and one writer are read in one way
pub parts-one : (kind by : ℕ) → IsReadInOneWay (IsBookOf kind by) spelled_parts
parts-one kind by (Bind m k a) (Bind n l b) x y fa fb same =
    let one = bind-one (k, a) (l, b) x y fa.parts fb.parts same in
    (ap (λ (p : TopicKey × Binding). Bind m p.0 p.1) one.0 ∙ ap (λ (w : ℕ). Bind w l b) (fa.by ∙ sym fb.by), one.1)
parts-one kind by (Bind m k a) (Store n l b) x y fa fb same = absurd (omega (arith, fa.byte, fb.byte))
parts-one kind by (Store m k a) (Bind n l b) x y fa fb same = absurd (omega (arith, fa.byte, fb.byte))
parts-one kind by (Store m k a) (Store n l b) x y fa fb same =
    let one = store-one (k, a) (l, b) x y fa.parts fb.parts same in
    (ap (λ (p : TopicKey × List ℕ). Store m p.0 p.1) one.0 ∙ ap (λ (w : ℕ). Store w l b) (fa.by ∙ sym fb.by), one.1)

-- entries are read in one way
pub book-one : IsReadInOneWay IsSpellableBook spelled_book
book-one a b x y fa fb same =
    let found = headed-one book_byte writer_of spelled_parts a b x y fa.by fb.by same in
    parts-one (book_byte b) (writer_of b) a b x y (record { byte = found.0; by = found.1; parts = fa.parts }) (record { byte = refl; by = refl; parts = fb.parts }) found.2

-- where no front is there, there is no entry
pub book-no_head : (bytes : ByteList) → HasNone IsHead spelled_head bytes → HasNone IsSpellableBook spelled_book bytes
book-no_head bytes none = λ e after fits same.
    let front : Head = record { kind = book_byte e; by = writer_of e } in
    none front (spelled_parts e ++ after) fits.by (same ∙ ap (λ (l : ByteList). book_byte e ∷ l) (append_assoc (spelled_number (writer_of e)) (spelled_parts e) after))

-- where the parts that the front asks for aren't there, there is no entry
pub book-no_parts : (bytes tail : ByteList) (head : Head) → IsAtFront IsHead spelled_head bytes head tail
    → HasNone (IsBookOf head.kind head.by) spelled_parts tail → HasNone IsSpellableBook spelled_book bytes
book-no_parts bytes tail head front none = λ e after fits same.
    let found = headed-same book_byte writer_of spelled_parts tail after head e front.fits fits.by (sym front.is ∙ same) in
    none e after (record { byte = found.0; by = found.1; parts = fits.parts }) found.2

-- where no two texts are there, there is no topic
key-none : (bytes : ByteList) → HasNone AreTexts spelled_texts bytes → HasNone IsSpellableKey spelled_key bytes
key-none bytes none = λ key after fits same. none (key.checkpoints, key.id) after fits same

-- where not both a topic and a binding are there, there is no Bind
bind-by : (bytes : ByteList) (by : ℕ) → HasNone (BothFit IsSpellableKey IsSpellableBinding spelled_key spelled_binding) (both IsSpellableKey IsSpellableBinding spelled_key spelled_binding) bytes
    → HasNone (IsBookOf 5 by) spelled_parts bytes
bind-by bytes by none = go
  where
    go : HasNone (IsBookOf 5 by) spelled_parts bytes
    go (Bind m k b) after fits same = none (k, b) after fits.parts same
    go (Store m k b) after fits same = omega (arith, fits.byte)

-- where no texts are there, there is no Bind
pub bind-no_key : (bytes : ByteList) (by : ℕ) → HasNone AreTexts spelled_texts bytes → HasNone (IsBookOf 5 by) spelled_parts bytes
bind-no_key bytes by none = bind-by bytes by (pair-no_first IsSpellableKey IsSpellableBinding spelled_key spelled_binding bytes (key-none bytes none))

-- where no binding follows the texts, there is no Bind
pub bind-no_binding : (bytes tail : ByteList) (by : ℕ) (texts : ByteList × ByteList) → IsAtFront AreTexts spelled_texts bytes texts tail
    → HasNone IsSpellableBinding spelled_binding tail → HasNone (IsBookOf 5 by) spelled_parts bytes
bind-no_binding bytes tail by texts front none =
    let key : TopicKey = record { checkpoints = texts.0; id = texts.1 } in
    bind-by bytes by (pair-no_second IsSpellableKey IsSpellableBinding spelled_key spelled_binding key-one bytes tail key (record { is = front.is; fits = front.fits }) none)

-- where not both a topic and versions are there, there is no Store
store-by : (bytes : ByteList) (by : ℕ) → HasNone (BothFit IsSpellableKey AreSpellableVersions spelled_key spelled_versions) (both IsSpellableKey AreSpellableVersions spelled_key spelled_versions) bytes
    → HasNone (IsBookOf 6 by) spelled_parts bytes
store-by bytes by none = go
  where
    go : HasNone (IsBookOf 6 by) spelled_parts bytes
    go (Bind m k b) after fits same = omega (arith, fits.byte)
    go (Store m k b) after fits same = none (k, b) after fits.parts same

-- where no texts are there, there is no Store
pub store-no_key : (bytes : ByteList) (by : ℕ) → HasNone AreTexts spelled_texts bytes → HasNone (IsBookOf 6 by) spelled_parts bytes
store-no_key bytes by none = store-by bytes by (pair-no_first IsSpellableKey AreSpellableVersions spelled_key spelled_versions bytes (key-none bytes none))

-- where no versions follow the texts, there is no Store
pub store-no_versions : (bytes tail : ByteList) (by : ℕ) (texts : ByteList × ByteList) → IsAtFront AreTexts spelled_texts bytes texts tail
    → HasNone AreSpellableVersions spelled_versions tail → HasNone (IsBookOf 6 by) spelled_parts bytes
store-no_versions bytes tail by texts front none =
    let key : TopicKey = record { checkpoints = texts.0; id = texts.1 } in
    store-by bytes by (pair-no_second IsSpellableKey AreSpellableVersions spelled_key spelled_versions key-one bytes tail key (record { is = front.is; fits = front.fits }) none)
