-- What a held value of a document is (own).
use Rattle.std.specs.Prelude.{Option, Some, None, option_map, slice_get}
use Rattle.tuple_values.specs.Document.{Datum, long, text, Doc}
use Rattle.sort_spec.specs.declared.held.Held.{Held}
use Rattle.sort_spec.specs.declared.held.Held.TheVariants.{Absent, Long, Near, At}

-- the value, absent past the last field
abbrev pub held : Doc → Held → Option Datum
held doc Absent = None
held doc (Long n) = Some (long n)
held doc (Near near) = Some (text near.bytes)
held doc (At place) = option_map (λ f. f.1) (slice_get doc place)
