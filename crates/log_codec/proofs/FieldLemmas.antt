-- Fields are read one after another, and a document is read in one way.
use Rattle.std.proofs.Common.{ℕ, ◌+◌, ◌<◌, ◌++◌, sym, ◌∙◌, subst, arith}
use Rattle.std.specs.List.{flat_map}
use Rattle.tuple_values.specs.Document.{ByteList, Doc, Rises}
use Rattle.log_codec.specs.Codes.{spelled_text, AreSoMany, HasNone, IsAtFront, IsReadInOneWay}
use Rattle.log_codec.specs.Documents.{spelled_document, spelled_field, AreFields, IsNextField, IsNextName, IsSpellableDocument, IsSpellableField, TakesField}
use Rattle.log_codec.proofs.CodeLemmas.{items-rest, list-one, text-one}
use Rattle.log_codec.proofs.ReadLemmas.{items-next}
use Rattle.log_codec.proofs.RiseLemmas.{below-front, rises-push}
use Rattle.log_codec.proofs.ValueLemmas.{field-one}

-- one more field was read
pub fields-next : (bytes rest after : ByteList) (old new : Doc) (k : ℕ) → IsAtFront (AreFields k) (flat_map spelled_field) bytes old rest
    → TakesField old new rest after → IsAtFront (AreFields (k + 1)) (flat_map spelled_field) bytes new after
fields-next bytes rest after old new k read takes =
    let before : IsAtFront (AreSoMany IsSpellableField k) (flat_map spelled_field) bytes old rest = record { is = read.is; fits = read.fits.fields } in
    let here : IsAtFront IsSpellableField spelled_field rest takes.field after = record { is = takes.front.is; fits = (takes.front.fits.0.0, takes.front.fits.1) } in
    let longer = items-next IsSpellableField spelled_field bytes rest after old takes.field k before here in
    subst (λ (document : Doc). IsAtFront (AreFields (k + 1)) (flat_map spelled_field) bytes document after) (sym takes.added)
    (record { is = longer.is; fits = record { fields = longer.fits; rises = rises-push old takes.field read.fits.rises takes.front.fits.0.1 } })

-- where no field may follow, there are not so many
pub fields-none : (bytes rest : ByteList) (document : Doc) (k count : ℕ) → IsAtFront (AreFields k) (flat_map spelled_field) bytes document rest → k < count
    → HasNone (IsNextField document) spelled_field rest → HasNone (AreFields count) (flat_map spelled_field) bytes
fields-none bytes rest document k count read less none = λ all after fits same.
    let found = items-rest IsSpellableField spelled_field field-one document all rest after read.fits.fields.each fits.fields.each
    (omega (arith, read.fits.fields.many, fits.fields.many, less)) (sym read.is ∙ same) in
    let below = below-front document found.1 found.0 (subst Rises found.2 fits.rises) in
    none found.0 (flat_map spelled_field found.1 ++ after) ((found.3.0, below), found.3.1) found.4

-- documents are read in one way
pub document-one : IsReadInOneWay IsSpellableDocument spelled_document
document-one a b x y fa fb same = list-one IsSpellableField spelled_field field-one a b x y fa.fields fb.fields same

-- names are read in one way, whatever document they may follow
pub name-one : (document : Doc) → IsReadInOneWay (IsNextName document) spelled_text
name-one document a b x y fa fb same = text-one a b x y fa.0 fb.0 same
