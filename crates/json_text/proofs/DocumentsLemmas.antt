use Rattle.std.proofs.Common.{◌≡◌, List, [], ◌∷◌, false, Option, Some, None, find, filter_map, refl}
use Rattle.std.specs.List.{cons_option}
use Rattle.std.specs.Option.{option_map_or}
use Rattle.tuple_values.specs.Document.{ByteList, Datum, Doc, over}
use Rattle.json_text.specs.Documents.{Member, is_unfit, field_of}

-- a fit member isn't the first unfit one
pub find-fit : (m : Member) (members : List Member) → is_unfit m ≡ false
    → find is_unfit members ≡ find is_unfit (m ∷ members)
find-fit m members fit = rw fit

-- a field that is put, or none, and then the others
over-cons_option : (doc fields : Doc) (f : Option (ByteList × Datum))
    → over (option_map_or (λ f. over doc (f ∷ [])) f doc) fields ≡ over doc (cons_option f fields)
over-cons_option doc fields None = refl
over-cons_option doc fields (Some f) = refl

-- the field of the first member, and then those of the others
pub over-fields : (doc after : Doc) (m : Member) (members : List Member)
    → after ≡ option_map_or (λ f. over doc (f ∷ [])) (field_of m) doc
    → over after (filter_map field_of members) ≡ over doc (filter_map field_of (m ∷ members))
over-fields doc after m members is = rw is (over-cons_option doc _ (field_of m))
