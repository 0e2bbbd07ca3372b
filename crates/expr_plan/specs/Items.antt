-- What the metrics and items say that stand among arguments (Solr Reference Guide, "Stream
-- Decorator Reference", select and rollup).
use Rattle.std.specs.Prelude.{◌==◌, nat_lt, List, length, take, drop, Bool, ◌&&◌}
use Rattle.std.specs.Prelude.{Option, Some, None, option_map, bytes_eq, codes, if◌then◌else◌}
use Rattle.std.specs.List.{prefix_len, filter_map}
use Rattle.std.specs.Option.{option_and_then}
use Rattle.tuple_values.specs.Document.{ByteList}
use Rattle.sort_spec.specs.Grammar.{is_blank, is_field_byte}
use Rattle.sort_spec.specs.Reading.{Reading, said, stuck, names_of}
use Rattle.expr_reader.specs.Tree.{CallTree, call, ArgTree, plain, named, named_call, sub, renamed}
use Rattle.expr_reader.specs.declared.call.Word.{Word}
use Rattle.expr_types.specs.Groups.{metric_name}
use Rattle.expr_plan.specs.Literals.{literal_or_null}
use Rattle.expr_plan.specs.Words.{is_field, arg_list, plain_at, word_under}
use Rattle.expr_types.specs.declared.item.Item.{Item}
use Rattle.expr_types.specs.declared.item.Item.TheVariants.{Field, Replace, Concat}
use Rattle.expr_types.specs.declared.item.Metric.{Metric}
use Rattle.expr_types.specs.declared.item.Metric.TheVariants.{Sum, Min, Max, Count}

-- the metric of a name over a field, if there is one
abbrev pub metric_of_field : ByteList → ByteList → Option Metric
metric_of_field name field =
    if bytes_eq name (codes "sum") then Some (Sum field)
    else (if bytes_eq name (codes "min") then Some (Min field)
    else (if bytes_eq name (codes "max") then Some (Max field) else None))

-- the metric of a name over a text: `count` is of `*` alone, and the others are of a field
abbrev pub metric_over : ByteList → ByteList → Option Metric
metric_over name text =
    if bytes_eq name (codes "count")
    then (if bytes_eq text (codes "*") then Some Count else None)
    else (if is_field text then metric_of_field name text else None)

-- the metric of a name with arguments: one, which is a plain word
abbrev pub metric_called : ByteList → List ArgTree → Option Metric
metric_called name args =
    if length args == 1
    then option_and_then (λ w. metric_over name w.text) (plain_at 0 args) else None

-- the metric that a call is
abbrev pub metric_of_call : CallTree → Option Metric
metric_of_call (call name args) = metric_called name (arg_list args)

-- the metric that an argument is
abbrev pub metric_of_arg : ArgTree → Option Metric
metric_of_arg (plain text quoted) = None
metric_of_arg (named key text quoted) = None
metric_of_arg (named_call key c) = None
metric_of_arg (sub c) = metric_of_call c
metric_of_arg (renamed c to) = None

-- the names of the metrics among arguments
abbrev pub metric_names : List ArgTree → List ByteList
metric_names args = filter_map (λ a. option_map metric_name (metric_of_arg a)) args

-- the bytes behind the blanks that they begin with
abbrev pub unblanked : ByteList → ByteList
unblanked bytes = drop (prefix_len is_blank bytes) bytes

-- whether the bytes begin with a blank
abbrev pub begins_blank : ByteList → Bool
begins_blank bytes = nat_lt 0 (prefix_len is_blank bytes)

-- the field behind `as`, which stands between blanks
abbrev pub behind_as : ByteList → Option ByteList
behind_as bytes =
    let word = unblanked bytes in
    let name = unblanked (drop 2 word) in
    if begins_blank bytes && bytes_eq (take 2 word) (codes "as") && begins_blank (drop 2 word)
    && is_field name
    then Some name else None

-- the first field of a text, and the one behind `as`
abbrev pub renamed_field : ByteList → Option Item
renamed_field text =
    let name = take (prefix_len is_field_byte text) text in
    let rest = drop (prefix_len is_field_byte text) text in
    if is_field name then option_map (Field name) (behind_as rest) else None

-- the item that a text is: a field, or a field, `as` and its new name
abbrev pub field_item : ByteList → Option Item
field_item text = if is_field text then Some (Field text text) else renamed_field text

-- a replace of a field's value by another, each given by a word
abbrev pub replaced : Option Word → Option Word → Option Word → Option Item
replaced (Some field) (Some old) (Some new) =
    if is_field field.text
    then Some (Replace field.text (literal_or_null old) (literal_or_null new)) else None
replaced _ _ _ = None

-- the replace of three arguments: two plain words, and one under `withValue`
abbrev pub replace_called : List ArgTree → Option Item
replace_called args =
    if length args == 3
    then replaced (plain_at 0 args) (plain_at 1 args) (word_under (codes "withValue") args)
    else None

-- a concat of names that were read
abbrev pub concat_of : Reading (List ByteList) → ByteList → ByteList → Option Item
concat_of (stuck at) into delim = None
concat_of (said names) into delim = Some (Concat names into delim)

-- a concat of fields, given by words
abbrev pub concatenated : Option Word → Option Word → Option Word → Option Item
concatenated (Some fields) (Some into) (Some delim) =
    if is_field into.text then concat_of (names_of fields.text) into.text delim.text else None
concatenated _ _ _ = None

-- the concat of three arguments, one under each of its keys
abbrev pub concat_called : List ArgTree → Option Item
concat_called args =
    if length args == 3
    then concatenated (word_under (codes "fields") args) (word_under (codes "as") args)
    (word_under (codes "delim") args)
    else None

-- a metric under its own name
abbrev pub metric_item : Metric → Item
metric_item m = Field (metric_name m) (metric_name m)

-- the item of a name with arguments
abbrev pub item_called : ByteList → List ArgTree → Option Item
item_called name args =
    if bytes_eq name (codes "replace") then replace_called args
    else (if bytes_eq name (codes "concat") then concat_called args
    else option_map metric_item (metric_called name args))

-- the item that a call is
abbrev pub item_of_call : CallTree → Option Item
item_of_call (call name args) = item_called name (arg_list args)

-- the item that a call with a new name is: a metric
abbrev pub renamed_item : CallTree → ByteList → Option Item
renamed_item c to = option_map (λ m. Field (metric_name m) to) (metric_of_call c)
