use Rattle.std.proofs.Common.{◌≡◌, List, [], ◌∷◌, Bool, true, false, cond, Option, Some, None}
use Rattle.std.proofs.Common.{option_map, option_and_then, find, filter_map, bytes_eq, refl, ◌∙◌}
use Rattle.std.proofs.lemmas.Slice.Eq.{bytes_eq-Decides}
use Rattle.std.specs.declared.cmp.Ordering.{Ordering}
use Rattle.std.specs.declared.cmp.Ordering.TheVariants.{Less, Equal, Greater}
use Rattle.std.specs.List.{cons_option}
use Rattle.std.specs.Option.{option_or}
use Rattle.std.specs.Ordering.{match_ordering}
use Rattle.serde_json.specs.Data.{Data, Members, no_members, member, put}
use Rattle.tuple_values.specs.Document.{ByteList, bytes_cmp, Datum, Doc, IsBelow, Rises, value_at}
use Rattle.tuple_values.proofs.BytesLemmas.{less_trans, greater_back}
use Rattle.tuple_values.proofs.DocumentLemmas.{below_absent}
use Rattle.tuple_values.proofs.MapLemmas.{value_over}
use Rattle.json_text.specs.Documents.{Member, member_list, is_field, field_value, field_of}
use Rattle.json_text.specs.Documents.{fields_in}
use Rattle.json_text.specs.Laws.{IsUnder, Ascend, field_at}

-- ---- members that are put one after another ascend

-- a name below another is below all that the other is below
under_more : (low high : ByteList) (members : List Member) → bytes_cmp low high ≡ Less
    → IsUnder high members → IsUnder low members
under_more low high [] less under = tt
under_more low high (m ∷ members) less under =
    (less_trans low high m.0 less under.0, under_more low high members less under.1)

-- what is below a name and all members is below them after a put, by how the names compare
under_put_by : (o : Ordering) (low name other : ByteList) (value old : Data) (members : Members)
    → bytes_cmp low name ≡ Less → IsUnder low (member_list (member other old members))
    → IsUnder low (member_list (put name value members))
    → IsUnder low (member_list (match_ordering o (member name value (member other old members))
    (member other value members) (member other old (put name value members))))
under_put_by Less low name other value old _ less under later = (less, under)
under_put_by Equal low name other value old _ less under later = under
under_put_by Greater low name other value old _ less under later = (under.0, later)

-- what is below a name and all members is below them after a put of that name
under_put : (low name : ByteList) (value : Data) (members : Members) → bytes_cmp low name ≡ Less
    → IsUnder low (member_list members) → IsUnder low (member_list (put name value members))
under_put low name value no_members less under = (less, tt)
under_put low name value (member other old members) less under =
    under_put_by (bytes_cmp name other) low name other value old members less under
    (under_put low name value members less under.1)

-- the same of the order of the members, by how the names compare
ascend_put_by : (o : Ordering) (name other : ByteList) (value old : Data) (members : Members)
    → bytes_cmp name other ≡ o → Ascend (member_list (member other old members))
    → Ascend (member_list (put name value members))
    → Ascend (member_list (match_ordering o (member name value (member other old members))
    (member other value members) (member other old (put name value members))))
ascend_put_by Less name other value old members is ascend later =
    ((is, under_more name other (member_list members) is ascend.0), ascend)
ascend_put_by Equal name other value old _ is ascend later = ascend
ascend_put_by Greater name other value old members is ascend later =
    (under_put other name value members (greater_back name other is) ascend.0, later)

-- a member put among others in order leaves them in order
pub ascend_put : (name : ByteList) (value : Data) (members : Members)
    → Ascend (member_list members) → Ascend (member_list (put name value members))
ascend_put name value no_members ascend = (tt, tt)
ascend_put name value (member other old members) ascend =
    ascend_put_by _ name other value old members refl ascend
    (ascend_put name value members ascend.1)

-- ---- what a document has of its members

-- the field of a member, by whether it is to be one and by its value
abbrev field_by : Member → Bool → Option Datum → Option (ByteList × Datum)
field_by m b o = cond b (option_map (λ value. (m.0, value)) o) None

-- a name below a member and all fields is below the field that the member becomes, too
below_by : (name : ByteList) (m : Member) (fields : Doc) (b : Bool) (o : Option Datum)
    → bytes_cmp name m.0 ≡ Less → IsBelow name fields
    → IsBelow name (cons_option (field_by m b o) fields)
below_by name m fields false o less below = below
below_by name m fields true None less below = below
below_by name m fields true (Some value) less below = (less, below)

-- a name below all members is below their fields
below_fields : (name : ByteList) (members : List Member) → IsUnder name members
    → IsBelow name (filter_map field_of members)
below_fields name [] under = tt
below_fields name (m ∷ members) under =
    below_by name m (filter_map field_of members) (is_field m) (field_value m) under.0
    (below_fields name members under.1)

-- the field of a member that is below all fields goes before them
rises_by : (m : Member) (fields : Doc) (b : Bool) (o : Option Datum) → IsBelow m.0 fields
    → Rises fields → Rises (cons_option (field_by m b o) fields)
rises_by m fields false o below rises = rises
rises_by m fields true None below rises = rises
rises_by m fields true (Some value) below rises = (below, rises)

-- the fields of members in order are in order
rises_fields : (members : List Member) → Ascend members → Rises (filter_map field_of members)
rises_fields [] ascend = tt
rises_fields (m ∷ members) ascend =
    rises_by m (filter_map field_of members) (is_field m) (field_value m)
    (below_fields m.0 members ascend.0) (rises_fields members ascend.1)

-- where a member has the name, the look-up finds its field alone
found_by : (name : ByteList) (m : Member) (fields : Doc) (b : Bool) (o : Option Datum)
    → bytes_eq m.0 name ≡ true → value_at name fields ≡ None
    → value_at name (cons_option (field_by m b o) fields) ≡ option_map (λ f. f.1) (field_by m b o)
found_by name m fields false o is absent = absent
found_by name m fields true None is absent = absent
found_by name m fields true (Some value) is absent = rw is

-- where a member has another name, the look-up passes it
passed_by : (name : ByteList) (m : Member) (fields : Doc) (b : Bool) (o : Option Datum)
    → bytes_eq m.0 name ≡ false
    → value_at name (cons_option (field_by m b o) fields) ≡ value_at name fields
passed_by name m fields false o is = refl
passed_by name m fields true None is = refl
passed_by name m fields true (Some value) is = rw is

-- the look-up at the first member, by whether it has the name
field_found : (name : ByteList) (m : Member) (members : List Member) (b : Bool)
    → bytes_eq m.0 name ≡ b → Ascend (m ∷ members)
    → value_at name (filter_map field_of members) ≡ field_at name members
    → value_at name (filter_map field_of (m ∷ members))
    ≡ option_map (λ f. f.1) (option_and_then field_of
    (cond b (Some m) (find (λ m. bytes_eq m.0 name) members)))
field_found name m members true is ascend later =
    let same = (bytes_eq-Decides m.0 name).0 is in
    found_by name m _ (is_field m) (field_value m) is
    (below_absent name _ (rw same at (below_fields m.0 members ascend.0)))
field_found name m members false is ascend later =
    passed_by name m _ (is_field m) (field_value m) is ∙ later

-- a look-up among the fields finds what the member of the name becomes
field_is : (name : ByteList) (members : List Member) → Ascend members
    → value_at name (filter_map field_of members) ≡ field_at name members
field_is name [] ascend = refl
field_is name (m ∷ members) ascend =
    field_found name m members _ refl ascend (field_is name members ascend.1)

-- no value beside a value changes nothing
pub or_none : (o : Option Datum) → option_or o None ≡ o
or_none None = refl
or_none (Some value) = refl

-- a document has under each name what the member of the name becomes
pub document_has : (name : ByteList) (members : List Member) → Ascend members
    → value_at name (fields_in members) ≡ field_at name members
document_has name members ascend =
    value_over name [] _ (rises_fields members ascend) ∙ or_none _ ∙ field_is name members ascend
