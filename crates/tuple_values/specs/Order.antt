-- How values compare: numbers, then texts by bytes, then groups item by item (own).
use Rattle.std.specs.Ordering.{int_cmp, ordering_then}
use Rattle.std.specs.declared.cmp.Ordering.{Ordering}
use Rattle.std.specs.declared.cmp.Ordering.TheVariants.{Less, Equal, Greater}
use Rattle.tuple_values.specs.Document.{bytes_cmp, Datum, long, text, group, Rows, no_rows, row, Fields, no_fields, field}

abbrev mutual
  pub datum_cmp : Datum → Datum → Ordering
  datum_cmp (long a) (long b) = int_cmp a b
  datum_cmp (long a) (text b) = Less
  datum_cmp (long a) (group b) = Less
  datum_cmp (text a) (long b) = Greater
  datum_cmp (text a) (text b) = bytes_cmp a b
  datum_cmp (text a) (group b) = Less
  datum_cmp (group a) (long b) = Greater
  datum_cmp (group a) (text b) = Greater
  datum_cmp (group a) (group b) = rows_cmp a b

  -- a proper prefix comes first
  pub rows_cmp : Rows → Rows → Ordering
  rows_cmp no_rows no_rows = Equal
  rows_cmp no_rows (row g bs) = Less
  rows_cmp (row f as_) no_rows = Greater
  rows_cmp (row f as_) (row g bs) = ordering_then (fields_cmp f g) (rows_cmp as_ bs)

  -- by name and then by value
  pub fields_cmp : Fields → Fields → Ordering
  fields_cmp no_fields no_fields = Equal
  fields_cmp no_fields (field m w gs) = Less
  fields_cmp (field n v fs) no_fields = Greater
  fields_cmp (field n v fs) (field m w gs) = ordering_then (bytes_cmp n m) (ordering_then (datum_cmp v w) (fields_cmp fs gs))
