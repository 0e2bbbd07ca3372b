-- What a condition says of a document (Solr Reference Guide, "Stream Decorator Reference", having;
-- how a literal is compared with a value of another kind is own).
use Rattle.std.specs.Prelude.{ℤ, List, Bool, true, false, not, ◌&&◌, ◌||◌, Option, Some, None}
use Rattle.std.specs.Prelude.{filter, if◌then◌else◌}
use Rattle.std.specs.Fmt.{signed_decimal}
use Rattle.std.specs.Option.{option_map_or}
use Rattle.std.specs.Ordering.{int_cmp, is_eq, is_lt, is_gt, is_le, is_ge}
use Rattle.std.specs.declared.cmp.Ordering.{Ordering}
use Rattle.tuple_values.specs.Document.{ByteList, bytes_cmp, Datum, long, text, group, Doc}
use Rattle.tuple_values.specs.Document.{value_at}
use Rattle.tuple_values.specs.Whole.{whole_of}
use Rattle.expr_types.specs.ConditionTree.{ConditionTree, compares, all_of, any_of, one_of, not_so}
use Rattle.expr_types.specs.ConditionTree.{ConditionTrees, no_conditions, a_condition}
use Rattle.expr_types.specs.declared.condition.Comparison.{Comparison}
use Rattle.expr_types.specs.declared.condition.Comparison.TheVariants.{Eq, Gt, Lt, Gteq, Lteq}

-- the text of a text or of a number, which is its decimal
abbrev pub datum_text : Datum → Option ByteList
datum_text (long n) = Some (signed_decimal n)
datum_text (text bytes) = Some bytes
datum_text (group rows) = None

-- the number of a number or of a whole text
abbrev pub datum_number : Datum → Option ℤ
datum_number (long n) = Some n
datum_number (text bytes) = whole_of bytes
datum_number (group rows) = None

-- whether values that compare so pass
abbrev pub passes : Comparison → Ordering → Bool
passes Eq order = is_eq order
passes Gt order = is_gt order
passes Lt order = is_lt order
passes Gteq order = is_ge order
passes Lteq order = is_le order

-- whether a value passes beside a literal: a number beside its number, a text beside its text
abbrev pub passes_beside : Comparison → Datum → Datum → Bool
passes_beside test literal (long n) =
    option_map_or (λ m. passes test (int_cmp n m)) (datum_number literal) false
passes_beside test literal (text bytes) =
    option_map_or (λ other. passes test (bytes_cmp bytes other)) (datum_text literal) false
passes_beside test literal (group rows) = false

-- whether a document meets a condition; one without the field meets no comparison
abbrev mutual
  pub holds : ConditionTree → Doc → Bool
  holds (compares test field literal) doc =
      option_map_or (λ value. passes_beside test literal value) (value_at field doc) false
  holds (all_of conditions) doc = all_hold conditions doc
  holds (any_of conditions) doc = any_holds conditions doc
  holds (one_of left right) doc = if holds left doc then not (holds right doc) else holds right doc
  holds (not_so condition) doc = not (holds condition doc)

  -- each of several
  pub all_hold : ConditionTrees → Doc → Bool
  all_hold no_conditions doc = true
  all_hold (a_condition c conditions) doc = holds c doc && all_hold conditions doc

  -- one of several at least
  pub any_holds : ConditionTrees → Doc → Bool
  any_holds no_conditions doc = false
  any_holds (a_condition c conditions) doc = holds c doc || any_holds conditions doc

-- the documents that meet the condition
abbrev pub having_list : ConditionTree → List Doc → List Doc
having_list condition docs = filter (holds condition) docs
