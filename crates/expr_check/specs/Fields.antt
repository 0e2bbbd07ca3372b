-- Which fields tuples have (own, after Solr Reference Guide, "Stream Source Reference" and "Stream
-- Decorator Reference": each function's fields follow from those of its inputs).
use Rattle.std.specs.Prelude.{◌≡◌, List, [], ◌∷◌, ◌++◌, map, flat_map, false, None, codes}
use Rattle.std.specs.List.{AllByRecursion}
use Rattle.tuple_values.specs.Document.{ByteList, Doc, is_named, value_at}
use Rattle.sort_spec.specs.Texts.{once}
use Rattle.expr_types.specs.Groups.{metric_name}
use Rattle.expr_types.specs.declared.item.Item.{Item}
use Rattle.expr_types.specs.declared.item.Item.TheVariants.{Field, Replace, Concat}
use Rattle.expr_types.specs.declared.item.Metric.{Metric}

-- the document has no field outside the names
abbrev pub HasOnly : List ByteList → Doc → Type 0
HasOnly names doc = (name : ByteList) → is_named name names ≡ false → value_at name doc ≡ None

-- none of the documents has one
abbrev pub HaveOnly : List ByteList → List Doc → Type 0
HaveOnly names docs = AllByRecursion (HasOnly names) docs

-- the names of a document's fields, in their order
abbrev pub keys_of : Doc → List ByteList
keys_of doc = map (λ f. f.0) doc

-- the name to which an item gives a value
abbrev pub given_name : Item → ByteList
given_name (Field name to) = to
given_name (Replace field old new) = field
given_name (Concat fields into delim) = into

-- those of several items, each once
abbrev pub all_given : List Item → List ByteList
all_given items = once (map given_name items)

-- the names of a key and of metrics, each once
abbrev pub rolled_names : List ByteList → List Metric → List ByteList
rolled_names over metrics = once (over ++ map metric_name metrics)

-- the names of several lists, each once
abbrev pub all_names : List (List ByteList) → List ByteList
all_names lists = once (flat_map (λ names. names) lists)

-- the names of a topic's fields, each once: those that it is cut to, and what a version has
abbrev pub topic_names : List ByteList → List ByteList
topic_names fl = once (fl ++ codes "id" ∷ codes "_version_" ∷ [])
