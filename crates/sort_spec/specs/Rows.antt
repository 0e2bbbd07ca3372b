-- What lends tuples as rows of a sort (own).
use Rattle.std.specs.Prelude.{List}
use Rattle.tuple_values.specs.Document.{Doc}
use Rattle.sort_spec.specs.Fronts.{Row, front_in, front_of}
use Rattle.sort_spec.specs.declared.rows.Fronted.{Fronted}
use Rattle.sort_spec.specs.declared.term.SortTerm.{SortTerm}

-- the row of what lends a tuple, with its values
abbrev pub row_in : {T : Type 0} → (T → Doc) → Fronted T → Row
row_in doc row = (front_in (doc row.item) row.front, doc row.item)

-- the row that is made for a document
abbrev pub row_for : List SortTerm → Doc → Row
row_for terms doc = (front_of terms doc, doc)
