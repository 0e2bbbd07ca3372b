-- Topics and bindings are read in one way.
use Rattle.std.proofs.Common.{◌≡◌, ℕ, List, Option, Some, None, refl, ap, arith}
use Rattle.tuple_values.specs.Document.{ByteList}
use Rattle.topic_book.specs.declared.topic.Binding.{Binding}
use Rattle.log_codec.specs.Codes.{spelled_list, spelled_number, spelled_text, AreCounted, HasNone, IsAtFront, IsNumber, IsReadInOneWay, IsText}
use Rattle.log_codec.specs.BookEntries.{spelled_binding, spelled_destination, spelled_ends, spelled_key, spelled_tail, spelled_texts, spelled_versions, AreEnds, AreSpellableVersions, AreTexts, IsSpellableBinding, IsSpellableDestination, IsSpellableKey, IsTail}
use Rattle.log_codec.proofs.CodeLemmas.{list-one, number-one, text-one}
use Rattle.log_codec.proofs.PairLemmas.{both, head_of, pair-no_first, pair-no_second, pair-one, tail_of, BothFit}

-- two texts are read in one way
pub texts-one : IsReadInOneWay AreTexts spelled_texts
texts-one = pair-one IsText IsText spelled_text spelled_text text-one text-one

-- topics are read in one way
pub key-one : IsReadInOneWay IsSpellableKey spelled_key
key-one a b x y fa fb same =
    let one = texts-one (a.checkpoints, a.id) (b.checkpoints, b.id) x y fa fb same in
    (ap (λ (p : ByteList × ByteList). record { checkpoints = p.0; id = p.1 }) one.0, one.1)

-- names are read in one way
pub names-one : IsReadInOneWay (AreCounted IsText) (spelled_list spelled_text)
names-one = list-one IsText spelled_text text-one

-- versions are read in one way
pub versions-one : IsReadInOneWay AreSpellableVersions spelled_versions
versions-one = list-one IsNumber spelled_number number-one

-- destinations are read in one way
pub destination-one : IsReadInOneWay IsSpellableDestination spelled_destination
destination-one None None x y fa fb same = (refl, ap tail_of same)
destination-one None (Some b) x y fa fb same =
    let none : 0 ≡ 1 = ap head_of same in absurd (omega (arith, none))
destination-one (Some a) None x y fa fb same =
    let none : 1 ≡ 0 = ap head_of same in absurd (omega (arith, none))
destination-one (Some a) (Some b) x y fa fb same =
    let one = text-one a b x y fa fb (ap tail_of same) in (ap (λ (n : ByteList). Some n) one.0, one.1)

-- a destination and versions are read in one way
ends-one : IsReadInOneWay AreEnds spelled_ends
ends-one = pair-one IsSpellableDestination AreSpellableVersions spelled_destination spelled_versions destination-one versions-one

-- what follows the texts of a binding is read in one way
tail-one : IsReadInOneWay IsTail spelled_tail
tail-one = pair-one (AreCounted IsText) AreEnds (spelled_list spelled_text) spelled_ends names-one ends-one

-- what a binding holds, as pairs
abbrev pub parts_of : Binding → (ByteList × ByteList) × (List ByteList × (Option ByteList × List ℕ))
parts_of b = ((b.src, b.q), (b.fields, (b.dest, b.init)))

-- each part of a binding has a spelling
parts-fit : (b : Binding) → IsSpellableBinding b → BothFit AreTexts IsTail spelled_texts spelled_tail (parts_of b)
parts-fit b fits = ((fits.src, fits.q), (fits.fields, (fits.dest, fits.init)))

-- bindings are read in one way
pub binding-one : IsReadInOneWay IsSpellableBinding spelled_binding
binding-one a b x y fa fb same =
    let one = pair-one AreTexts IsTail spelled_texts spelled_tail texts-one tail-one (parts_of a) (parts_of b) x y (parts-fit a fa) (parts-fit b fb) same in
    (ap (λ (p : (ByteList × ByteList) × (List ByteList × (Option ByteList × List ℕ))). record { src = p.0.0; q = p.0.1; fields = p.1.0; dest = p.1.1.0; init = p.1.1.1 }) one.0, one.1)

-- where not both are there, there is no binding
binding-by : (bytes : ByteList) → HasNone (BothFit AreTexts IsTail spelled_texts spelled_tail) (both AreTexts IsTail spelled_texts spelled_tail) bytes
    → HasNone IsSpellableBinding spelled_binding bytes
binding-by bytes none = λ b after fits same. none (parts_of b) after (parts-fit b fits) same

-- where no texts are there, there is no binding
pub binding-no_texts : (bytes : ByteList) → HasNone AreTexts spelled_texts bytes → HasNone IsSpellableBinding spelled_binding bytes
binding-no_texts bytes none = binding-by bytes (pair-no_first AreTexts IsTail spelled_texts spelled_tail bytes none)

-- where the rest doesn't follow the texts, there is no binding
pub binding-no_tail : (bytes tail : ByteList) (texts : ByteList × ByteList) → IsAtFront AreTexts spelled_texts bytes texts tail
    → HasNone IsTail spelled_tail tail → HasNone IsSpellableBinding spelled_binding bytes
binding-no_tail bytes tail texts front none =
    binding-by bytes (pair-no_second AreTexts IsTail spelled_texts spelled_tail texts-one bytes tail texts front none)
