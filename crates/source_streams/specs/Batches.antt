-- What a topic gives of a cut above a checkpoint (Solr Reference Guide, "Stream Source Reference",
-- topic; the order is own).
use Rattle.std.specs.Prelude.{ℕ, ◌++◌, ◌&&◌, Bool, List, [], ◌∷◌, bytes_eq, codes, filter, map, nat_lt, slice_index, if◌then◌else◌}
use Rattle.std.specs.Option.{option_map_or}
use Rattle.std.specs.Ordering.{nat_cmp, ordering_then, is_lt}
use Rattle.std.specs.declared.cmp.Ordering.{Ordering}
use Rattle.tuple_values.specs.Document.{ByteList, Doc}
use Rattle.query_syntax.specs.Matching.{matches}
use Rattle.query_syntax.specs.Tree.{ClauseTree}
use Rattle.sort_spec.specs.Sorting.{ins_sort}
use Rattle.shard_versions.specs.declared.cut.CutPart.{CutPart}
use Rattle.expr_types.specs.ExprTree.{TopicParts}
use Rattle.expr_types.specs.Parts.{topic_parts}
use Rattle.expr_types.specs.Sources.{cut_to}
use Rattle.expr_types.specs.declared.expr.Expr.{Expr}
use Rattle.source_streams.specs.declared.batch.TopicItem.{TopicItem}

-- whether the query takes a document whose version is above this number
abbrev pub is_new : List ClauseTree → ℕ → ℕ × Doc → Bool
is_new q low d = nat_lt low d.0 && matches q d.1

-- a document of a shard, with its version
abbrev pub item_of : ℕ → ℕ × Doc → TopicItem
item_of shard d = record { shard = shard; version = d.0; document = d.1 }

-- those of a shard's documents that the query takes above this number, by version
abbrev pub new_items : List ClauseTree → (low shard : ℕ) → List (ℕ × Doc) → List TopicItem
new_items q low shard documents = map (item_of shard) (filter (is_new q low) documents)

-- the same of a part of a cut, where it is of the collection, above the number of its shard
abbrev pub items_in : List ClauseTree → ByteList → List ℕ → CutPart → List TopicItem
items_in q collection above part =
    if bytes_eq part.collection collection
    then new_items q (slice_index above part.shard) part.shard part.snapshot.documents
    else []

-- the same of the parts of a cut, in their order
abbrev pub items_of : List ClauseTree → ByteList → List ℕ → List CutPart → List TopicItem
items_of q collection above [] = []
items_of q collection above (part ∷ parts) =
    items_in q collection above part ++ items_of q collection above parts

-- the order of items: by version, and then by shard
abbrev pub item_cmp : TopicItem → TopicItem → Ordering
item_cmp a b = ordering_then (nat_cmp a.version b.version) (nat_cmp a.shard b.shard)

-- whether an item comes before another
abbrev pub is_before : TopicItem → TopicItem → Bool
is_before a b = is_lt (item_cmp a b)

-- the batch of a query over a cut above a checkpoint, whose documents are whole
abbrev pub whole_batch : List ClauseTree → ByteList → List ℕ → List CutPart → List TopicItem
whole_batch q collection above cut = ins_sort is_before (items_of q collection above cut)

-- the fields of a topic's documents: those of its list, the id and the version
abbrev pub given_names : List ByteList → List ByteList
given_names fl = fl ++ codes "id" ∷ codes "_version_" ∷ []

-- the item with the named fields alone
abbrev pub cut_item : List ByteList → TopicItem → TopicItem
cut_item names i = record i { document = cut_to names i.document }

-- what a topic gives of a cut above a checkpoint
abbrev pub topic_items : TopicParts → List CutPart → List ℕ → List TopicItem
topic_items p cut above =
    map (cut_item (given_names p.fl)) (whole_batch p.q p.collection above cut)

-- the same of an expression, which is a topic
abbrev pub batch_over : Expr → List CutPart → List ℕ → List TopicItem
batch_over e cut above = option_map_or (λ p. topic_items p cut above) (topic_parts e) []
