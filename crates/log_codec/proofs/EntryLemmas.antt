-- Entries of a shard's history are read in one way.
use Rattle.std.proofs.Common.{ℕ, ◌∷◌, ◌++◌, refl, sym, ◌∙◌, ap, arith, append_assoc}
use Rattle.tuple_values.specs.Document.{ByteList, Doc}
use Rattle.shard_versions.specs.declared.entry.Kind.{Kind}
use Rattle.shard_versions.specs.declared.entry.Kind.TheVariants.{Put, Del, Sent, Mark}
use Rattle.shard_versions.specs.declared.entry.Entry.{Entry}
use Rattle.log_codec.specs.Codes.{spelled_number, spelled_text, HasNone, IsAtFront, IsNumber, IsReadInOneWay, IsText}
use Rattle.log_codec.specs.Documents.{spelled_document, IsSpellableDocument}
use Rattle.log_codec.specs.Heads.{spelled_head, IsHead}
use Rattle.log_codec.specs.Entries.{kind_byte, spelled_entry, spelled_kind, spelled_origin, IsKindOf, IsOrigin, IsSpellableEntry}
use Rattle.log_codec.specs.declared.head.Head.{Head}
use Rattle.log_codec.proofs.CodeLemmas.{number-one, text-one}
use Rattle.log_codec.proofs.FieldLemmas.{document-one}
use Rattle.log_codec.proofs.HeadLemmas.{headed-one, headed-same}
use Rattle.log_codec.proofs.PairLemmas.{both, pair-no_first, pair-no_second, pair-one, pair-read, BothFit}

-- origins are read in one way
pub origin-one : IsReadInOneWay IsOrigin spelled_origin
origin-one = pair-one IsText IsNumber spelled_text spelled_number text-one number-one

-- what deliveries hold is read in one way
sent-one : IsReadInOneWay (BothFit IsOrigin IsSpellableDocument spelled_origin spelled_document) (both IsOrigin IsSpellableDocument spelled_origin spelled_document)
sent-one = pair-one IsOrigin IsSpellableDocument spelled_origin spelled_document origin-one document-one

-- what entries of one byte do is read in one way
pub kind-one : (byte : ℕ) → IsReadInOneWay (IsKindOf byte) spelled_kind
kind-one byte (Put a) (Put b) x y fa fb same = let one = document-one a b x y fa.1 fb.1 same in (ap Put one.0, one.1)
kind-one byte (Put a) (Del b) x y fa fb same = absurd (omega (arith, fa.0, fb.0))
kind-one byte (Put a) (Sent s v b) x y fa fb same = absurd (omega (arith, fa.0, fb.0))
kind-one byte (Put a) Mark x y fa fb same = absurd (omega (arith, fa.0, fb.0))
kind-one byte (Del a) (Put b) x y fa fb same = absurd (omega (arith, fa.0, fb.0))
kind-one byte (Del a) (Del b) x y fa fb same = let one = text-one a b x y fa.1 fb.1 same in (ap Del one.0, one.1)
kind-one byte (Del a) (Sent s v b) x y fa fb same = absurd (omega (arith, fa.0, fb.0))
kind-one byte (Del a) Mark x y fa fb same = absurd (omega (arith, fa.0, fb.0))
kind-one byte (Sent r u a) (Put b) x y fa fb same = absurd (omega (arith, fa.0, fb.0))
kind-one byte (Sent r u a) (Del b) x y fa fb same = absurd (omega (arith, fa.0, fb.0))
kind-one byte (Sent r u a) (Sent s v b) x y fa fb same =
    let one = sent-one ((r, u), a) ((s, v), b) x y fa.1 fb.1 same in
    (ap (λ (p : (ByteList × ℕ) × Doc). Sent p.0.0 p.0.1 p.1) one.0, one.1)
kind-one byte (Sent r u a) Mark x y fa fb same = absurd (omega (arith, fa.0, fb.0))
kind-one byte Mark (Put b) x y fa fb same = absurd (omega (arith, fa.0, fb.0))
kind-one byte Mark (Del b) x y fa fb same = absurd (omega (arith, fa.0, fb.0))
kind-one byte Mark (Sent s v b) x y fa fb same = absurd (omega (arith, fa.0, fb.0))
kind-one byte Mark Mark x y fa fb same = (refl, same)

-- entries are read in one way
pub entry-one : IsReadInOneWay IsSpellableEntry spelled_entry
entry-one a b x y fa fb same =
    let found = headed-one (λ (e : Entry). kind_byte e.kind) (λ (e : Entry). e.by) (λ (e : Entry). spelled_kind e.kind) a b x y fa.by fb.by same in
    let kinds = kind-one (kind_byte b.kind) a.kind b.kind x y (found.0, fa.kind) (refl, fb.kind) found.2 in
    (ap (λ (n : ℕ). record { by = n; kind = a.kind }) found.1 ∙ ap (λ (k : Kind). record { by = b.by; kind = k }) kinds.0, kinds.1)

-- where what the front says isn't there, there is no entry
pub entry-no_kind : (bytes tail : ByteList) (head : Head) → IsAtFront IsHead spelled_head bytes head tail
    → HasNone (IsKindOf head.kind) spelled_kind tail → HasNone IsSpellableEntry spelled_entry bytes
entry-no_kind bytes tail head front none = λ e after fits same.
    let found = headed-same (λ (e : Entry). kind_byte e.kind) (λ (e : Entry). e.by) (λ (e : Entry). spelled_kind e.kind) tail after head e front.fits fits.by (sym front.is ∙ same) in
    none e.kind after (found.0, fits.kind) found.2

-- where no front is there, there is no entry
pub entry-no_head : (bytes : ByteList) → HasNone IsHead spelled_head bytes → HasNone IsSpellableEntry spelled_entry bytes
entry-no_head bytes none = λ e after fits same.
    let front : Head = record { kind = kind_byte e.kind; by = e.by } in
    none front (spelled_kind e.kind ++ after) fits.by (same ∙ ap (λ (l : ByteList). kind_byte e.kind ∷ l) (append_assoc (spelled_number e.by) (spelled_kind e.kind) after))

-- where no origin and document are there, there is no delivery
sent-by : (bytes : ByteList) → HasNone (BothFit IsOrigin IsSpellableDocument spelled_origin spelled_document) (both IsOrigin IsSpellableDocument spelled_origin spelled_document) bytes
    → HasNone (IsKindOf 3) spelled_kind bytes
sent-by bytes none = go
  where
    go : HasNone (IsKindOf 3) spelled_kind bytes
    go (Put a) after fits same = omega (arith, fits.0)
    go (Del a) after fits same = omega (arith, fits.0)
    go (Sent s v a) after fits same = none ((s, v), a) after fits.1 same
    go Mark after fits same = omega (arith, fits.0)

-- where a delivery's origin isn't there, there is no delivery
pub sent-no_origin : (bytes : ByteList) → HasNone IsOrigin spelled_origin bytes → HasNone (IsKindOf 3) spelled_kind bytes
sent-no_origin bytes none = sent-by bytes (pair-no_first IsOrigin IsSpellableDocument spelled_origin spelled_document bytes none)

-- where no document follows a delivery's origin, there is no delivery
pub sent-no_document : (bytes tail : ByteList) (origin : ByteList × ℕ) → IsAtFront IsOrigin spelled_origin bytes origin tail
    → HasNone IsSpellableDocument spelled_document tail → HasNone (IsKindOf 3) spelled_kind bytes
sent-no_document bytes tail origin front none =
    sent-by bytes (pair-no_second IsOrigin IsSpellableDocument spelled_origin spelled_document origin-one bytes tail origin front none)

-- an origin and a document are a delivery
pub sent-read : (bytes tail rest src : ByteList) (version : ℕ) (document : Doc) → IsAtFront IsOrigin spelled_origin bytes (src, version) tail
    → IsAtFront IsSpellableDocument spelled_document tail document rest → IsAtFront (IsKindOf 3) spelled_kind bytes (Sent src version document) rest
sent-read bytes tail rest src version document front read =
    let found = pair-read IsOrigin IsSpellableDocument spelled_origin spelled_document bytes tail rest (src, version) document front read in
    record { is = found.is; fits = (refl, found.fits) }
