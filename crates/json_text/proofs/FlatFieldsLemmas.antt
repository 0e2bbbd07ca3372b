-- Members that all become fields, beside the document of the fields.
use Rattle.std.proofs.Common.{◌≡◌, ℕ, [], ◌∷◌, Bool, true, false, cond, ◌&&◌, Option, Some, None}
use Rattle.std.proofs.Common.{option_map, is_none, find, filter_map, Ok, Err, refl, sym, ap, ◌∙◌}
use Rattle.std.proofs.Common.{subst}
use Rattle.std.specs.declared.cmp.Ordering.{Ordering}
use Rattle.std.specs.declared.cmp.Ordering.TheVariants.{Less, Equal, Greater}
use Rattle.std.specs.Ordering.{match_ordering}
use Rattle.serde_json.specs.Data.{Data, object, Members, no_members, member}
use Rattle.serde_json.specs.Data as json
use Rattle.tuple_values.specs.Document.{ByteList, bytes_cmp, Datum, Doc, Rises, put, over}
use Rattle.tuple_values.specs.Document.{value_at}
use Rattle.tuple_values.specs.declared.write.Write.TheVariants.{Put}
use Rattle.tuple_values.proofs.BytesLemmas.{less_back, greater_back, equal_back}
use Rattle.tuple_values.proofs.DocumentLemmas.{put_rises}
use Rattle.tuple_values.proofs.MapLemmas.{bytes_same, same_doc, value_over}
use Rattle.json_text.specs.declared.fault.JsonFault.TheVariants.{NoId, DocTooLarge}
use Rattle.json_text.specs.Documents.{Member, member_list, is_field, field_value, is_unfit}
use Rattle.json_text.specs.Documents.{field_of, allowed}
use Rattle.json_text.specs.Writes.{put_of}
use Rattle.json_text.proofs.LawsLemmas.{or_none}

-- each member becomes the field at its place
abbrev pub AreFields : Members → Doc → Type 0
AreFields no_members [] = Unit {0}
AreFields no_members (f ∷ doc) = ⊥
AreFields (member name value others) [] = ⊥
AreFields (member name value others) (f ∷ doc) =
    (field_of (name, value) ≡ Some f) × AreFields others doc

-- a field has the name of its member
named_by : (m : Member) (f : ByteList × Datum) (b : Bool) (o : Option Datum)
    → cond b (option_map (λ value. (m.0, value)) o) None ≡ Some f → f.0 ≡ m.0
named_by m f false o is = absurd (cc)
named_by m f true None is = absurd (cc)
named_by m f true (Some value) is =
    let same : f ≡ (m.0, value) = cc in ap (λ p. p.0) same

-- a member that becomes a field is fit
fit_by : (m : Member) (f : ByteList × Datum) (b : Bool) (o : Option Datum)
    → cond b (option_map (λ value. (m.0, value)) o) None ≡ Some f → (b && is_none o) ≡ false
fit_by m f false o is = refl
fit_by m f true None is = absurd (cc)
fit_by m f true (Some value) is = refl

-- a put among members and among the fields, by how the names compare
fields_put_by : (o : Ordering) (name other : ByteList) (data_there data_here : Data)
    (value : Datum) (f : ByteList × Datum) (others : Members) (doc : Doc)
    → bytes_cmp name other ≡ o → f.0 ≡ other
    → field_of (name, data_here) ≡ Some (name, value)
    → field_of (other, data_there) ≡ Some f → AreFields others doc
    → AreFields (json.put name data_here others) (put name value doc)
    → AreFields (match_ordering o (member name data_here (member other data_there others))
    (member other data_here others) (member other data_there (json.put name data_here others)))
    (put name value (f ∷ doc))
fields_put_by Less name other there here value f others doc is named new old rest later =
    let back : bytes_cmp f.0 name ≡ Greater = rw named (less_back name other is) in
    rw back (new, (old, rest))
fields_put_by Equal name other there here value f others doc is named new old rest later =
    let back : bytes_cmp f.0 name ≡ Equal = rw named (equal_back name other is) in
    let same : field_of (other, here) ≡ Some (name, value) =
    subst (λ n. field_of (n, here) ≡ Some (name, value)) (bytes_same name other is) new in
    rw back (same, rest)
fields_put_by Greater name other there here value f others doc is named new old rest later =
    let back : bytes_cmp f.0 name ≡ Less = rw named (greater_back name other is) in
    rw back (old, later)

-- a member that is put becomes the field that is put
pub fields_put : (name : ByteList) (here : Data) (value : Datum) (others : Members) (doc : Doc)
    → field_of (name, here) ≡ Some (name, value) → AreFields others doc
    → AreFields (json.put name here others) (put name value doc)
fields_put name here value no_members [] new fields = (new, tt)
fields_put name here value no_members (f ∷ doc) new fields = absurd fields
fields_put name here value (member other there others) [] new fields = absurd fields
fields_put name here value (member other there others) (f ∷ doc) new fields =
    fields_put_by _ name other there here value f others doc refl
    (named_by (other, there) f _ _ fields.0) new fields.0 fields.1
    (fields_put name here value others doc new fields.1)

-- the same, by the field that the member becomes
pub fields_named : (name : ByteList) (here : Data) (f : ByteList × Datum) (others : Members)
    (doc : Doc) → field_of (name, here) ≡ Some f → AreFields others doc
    → AreFields (json.put name here others) (put f.0 f.1 doc)
fields_named name here f others doc new fields =
    let named : f.0 ≡ name = named_by (name, here) f _ _ new in
    let P : ByteList → Type 0 = λ n. AreFields (json.put name here others) (put n f.1 doc) in
    subst P (sym named) (fields_put name here f.1 others doc
    (new ∙ ap (λ n. Some (n, f.1)) named) fields)

-- none of the members is unfit
pub fields_fit : (others : Members) (doc : Doc) → AreFields others doc
    → find is_unfit (member_list others) ≡ None
fields_fit no_members doc fields = refl
fields_fit (member name value others) [] fields = absurd fields
fields_fit (member name value others) (f ∷ doc) fields =
    let fit : is_unfit (name, value) ≡ false =
    fit_by (name, value) f (is_field (name, value)) (field_value (name, value)) fields.0 in
    rw fit (fields_fit others doc fields.1)

-- the fields of the members are the document
pub fields_list : (others : Members) (doc : Doc) → AreFields others doc
    → filter_map field_of (member_list others) ≡ doc
fields_list no_members [] fields = refl
fields_list no_members (f ∷ doc) fields = absurd fields
fields_list (member name value others) [] fields = absurd fields
fields_list (member name value others) (f ∷ doc) fields =
    rw fields.0 (ap (λ (rest : Doc). f ∷ rest) (fields_list others doc fields.1))

-- fields laid over those in order are in order
over_rises : (left right : Doc) → Rises left → Rises (over left right)
over_rises left [] rises = rises
over_rises left (f ∷ right) rises =
    over_rises (put f.0 f.1 left) right (put_rises f.0 f.1 left rises)

-- fields in order, over none, are these fields
pub over_none : (doc : Doc) → Rises doc → over [] doc ≡ doc
over_none doc rises =
    same_doc (over [] doc) doc (over_rises [] doc tt) rises
    (λ name. value_over name [] doc rises ∙ or_none (value_at name doc))

-- a document that is allowed at one place is so at each, by its tests
allowed_by : (has_id too_large : Bool) (at : ℕ) (doc final : Doc)
    → cond has_id (cond too_large (Err (DocTooLarge 0)) (Ok doc)) (Err (NoId 0)) ≡ Ok final
    → cond has_id (cond too_large (Err (DocTooLarge at)) (Ok doc)) (Err (NoId at)) ≡ Ok final
allowed_by true true at doc final is = absurd (cc)
allowed_by true false at doc final is = is
allowed_by false too_large at doc final is = absurd (cc)

-- the members of a document that is allowed ask for its write
pub fields_ask : (others : Members) (doc final : Doc) (at : ℕ) → AreFields others doc
    → Rises doc → allowed 0 doc ≡ Ok final → put_of at (object others) ≡ Ok (Put final)
fields_ask others doc final at fields rises is =
    let here : allowed at doc ≡ Ok final = allowed_by _ _ at doc final is in
    rw (fields_fit others doc fields, fields_list others doc fields, over_none doc rises, here)
