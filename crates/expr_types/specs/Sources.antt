-- What the sources give, over lists of documents (Solr Reference Guide, "Stream Source Reference";
-- that no `rows` gives all documents is own).
use Rattle.std.specs.Prelude.{ℕ, List, [], ◌∷◌, ◌++◌, false, Option, Some, None, map, filter}
use Rattle.std.specs.Prelude.{take, codes}
use Rattle.tuple_values.specs.Document.{ByteList, Doc, is_named}
use Rattle.query_syntax.specs.Matching.{matches}
use Rattle.sort_spec.specs.Sorting.{ins_sort}
use Rattle.sort_spec.specs.Terms.{less}
use Rattle.sort_spec.specs.declared.term.SortTerm.{SortTerm}
use Rattle.expr_types.specs.ExprTree.{SearchParts}

-- the document with the named fields alone
abbrev pub cut_to : List ByteList → Doc → Doc
cut_to names doc = filter (λ f. is_named f.0 names) doc

-- the first so many documents, or all
abbrev pub first_rows : Option ℕ → List Doc → List Doc
first_rows None docs = docs
first_rows (Some n) docs = take n docs

-- a sort, and then by id, the least first
abbrev pub then_by_id : List SortTerm → List SortTerm
then_by_id terms = terms ++ record { field = codes "id"; descending = false } ∷ []

-- the first rows of the matching documents in order, before they are cut
abbrev pub found_rows : SearchParts → List Doc → List Doc
found_rows p docs =
    first_rows p.rows (ins_sort (less (then_by_id p.sort)) (filter (matches p.q) docs))

-- what a search gives of the current documents of its collection
unfoldable pub search_list : SearchParts → List Doc → List Doc
search_list p docs = map (cut_to p.fl) (found_rows p docs)
