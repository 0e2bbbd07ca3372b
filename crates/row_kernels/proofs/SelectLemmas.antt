-- Fields put into a document one by one.
use Rattle.std.proofs.Common.{◌≡◌, [], Option, Some, None, refl}
use Rattle.std.specs.List.{cons_option}
use Rattle.tuple_values.specs.Document.{ByteList, Datum, Doc, over}

-- a field that may be there is put first, and then the others
pub over-cons_option : (doc : Doc) (f : Option (ByteList × Datum)) (fields : Doc)
    → over doc (cons_option f fields) ≡ over (over doc (cons_option f [])) fields
over-cons_option doc None fields = refl
over-cons_option doc (Some f) fields = refl

-- what choosing field by field needs
pub ruleset select_steps = (over-cons_option)
