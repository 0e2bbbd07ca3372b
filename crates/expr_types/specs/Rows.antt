-- What select makes of documents (Solr Reference Guide, "Stream Decorator Reference", select; that
-- fields are chosen first, and that concat skips what is absent, is own).
use Rattle.std.specs.Prelude.{List, [], ◌∷◌, Option, Some, None, map, fold, option_map}
use Rattle.std.specs.Prelude.{option_and_then, if◌then◌else◌}
use Rattle.std.specs.List.{filter_map, join_by}
use Rattle.std.specs.Option.{option_cmp}
use Rattle.std.specs.Ordering.{is_eq}
use Rattle.tuple_values.specs.Document.{ByteList, Datum, text, Doc, value_at, put, without, over}
use Rattle.tuple_values.specs.Order.{datum_cmp}
use Rattle.tuple_values.specs.Views.{datum_of}
use Rattle.expr_types.specs.Conditions.{datum_text}
use Rattle.expr_types.specs.declared.item.Item.{Item}
use Rattle.expr_types.specs.declared.item.Item.TheVariants.{Field, Replace, Concat}

-- a chosen field under its new name with its value, where the document has it
abbrev pub chosen : Doc → Item → Option (ByteList × Datum)
chosen doc (Field name to) = option_map (λ value. (to, value)) (value_at name doc)
chosen doc (Replace field old new) = None
chosen doc (Concat fields into delim) = None

-- the document with the value under the name, or without the field where there is no value
abbrev pub with_value : ByteList → Option Datum → Doc → Doc
with_value name None doc = without name doc
with_value name (Some value) doc = put name value doc

-- the texts with a delimiter between each and the next; none of no text
abbrev pub joined_texts : ByteList → List ByteList → Option ByteList
joined_texts delim [] = None
joined_texts delim (t ∷ texts) = Some (join_by (λ bytes. bytes) delim (t ∷ texts))

-- the texts of the fields that have one
abbrev pub texts_of : Doc → List ByteList → List ByteList
texts_of doc names = filter_map (λ name. option_and_then datum_text (value_at name doc)) names

-- the document with the text under the name, where there is one
abbrev pub with_text : ByteList → Option ByteList → Doc → Doc
with_text name None doc = doc
with_text name (Some bytes) doc = put name (text bytes) doc

-- a document after a replace or a concat
abbrev pub changed : Doc → Item → Doc
changed doc (Field name to) = doc
changed doc (Replace field old new) =
    if is_eq (option_cmp datum_cmp (value_at field doc) (option_map datum_of old))
    then with_value field (option_map datum_of new) doc else doc
changed doc (Concat fields into delim) =
    with_text into (joined_texts delim (texts_of doc fields)) doc

-- the chosen fields, a later one in place of an earlier one of its name, after all changes in order
abbrev pub selected : List Item → Doc → Doc
selected items doc = fold changed (over [] (filter_map (chosen doc) items)) items

-- each document after that
abbrev pub select_list : List Item → List Doc → List Doc
select_list items docs = map (selected items) docs
