-- What a value holds is smaller: the measures of recursions over values.
use Rattle.std.proofs.Common.{◌≡◌, ℕ, zero, suc, ◌<◌, List, [], ◌∷◌, length, get_or, arith}
use Rattle.tuple_values.specs.Document.{Doc, rows_of, fields_of, rows_depth, fields_depth, datum_depth}
use Rattle.tuple_values.specs.Views.{datum_of, doc_of}
use Rattle.tuple_values.specs.declared.value.Field.{Field}

-- a field's value is smaller than the fields
pub field_smaller : (fs : List Field) (k : ℕ) (f : Field) → k < length fs → f ≡ get_or fs k f → datum_depth (datum_of f.value) < fields_depth (fields_of (doc_of fs))
field_smaller [] k f lt is = absurd (omega arith)
field_smaller (g ∷ fs) zero f lt is = rw is (omega arith)
field_smaller (g ∷ fs) (suc k) f lt is = omega (arith, field_smaller fs k f (omega arith) is)

-- a row is smaller than the rows
pub row_smaller : (ds : List Doc) (k : ℕ) (d : Doc) → k < length ds → d ≡ get_or ds k d → fields_depth (fields_of d) < rows_depth (rows_of ds)
row_smaller [] k d lt is = absurd (omega arith)
row_smaller (e ∷ ds) zero d lt is = rw is (omega arith)
row_smaller (e ∷ ds) (suc k) d lt is = omega (arith, row_smaller ds k d (omega arith) is)
