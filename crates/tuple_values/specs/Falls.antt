-- Each tuple is smaller than the one that holds it, which recursions over values rest on (own).
use Rattle.std.specs.Prelude.{◌+◌, ◌≤◌, max, List, [], ◌∷◌}
use Rattle.std.proofs.Common.{arith}
use denote.Param.Weighed.{most}
use Rattle.tuple_values.specs.Document.{Doc, rows_of, datum_depth, doc_depth, rows_depth}
use Rattle.tuple_values.specs.Views.{datum_of, doc_of}
use Rattle.tuple_values.specs.declared.value.Value.{Value}
use Rattle.tuple_values.specs.declared.value.Value.TheVariants.{Long, Text, Group}
use Rattle.tuple_values.specs.declared.value.Field.{Field}
use Rattle.tuple_values.specs.declared.value.Tuple.TheDeep.{deep-Value, deep-Field}

-- the depth of a value that the toolchain counts is at most that of its datum
pub datum_falls : (v : Value) → deep-Value v ≤ datum_depth (datum_of v)
datum_falls (Long n) = omega arith
datum_falls (Text t) = omega arith
datum_falls (Group rs) = omega arith

-- the same for the fields of a tuple
pub doc_falls : (fs : List Field) → max (most (λ f. deep-Field f) fs) 0 ≤ doc_depth (doc_of fs)
doc_falls [] = omega arith
doc_falls (f ∷ fs) = omega (arith, datum_falls f.value, doc_falls fs)

-- the same for the tuples of a group
pub rows_fall : (ds : List Doc) → max (most (λ d. doc_depth d + 1) ds) 0 ≤ rows_depth (rows_of ds)
rows_fall [] = omega arith
rows_fall (d ∷ ds) = omega (arith, rows_fall ds)
