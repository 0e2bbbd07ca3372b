-- What the functions give that order tuples, over lists of documents (Solr Reference Guide, "Stream
-- Decorator Reference", sort, top and merge).
use Rattle.std.specs.Prelude.{◌≡◌, ℕ, List, [], ◌∷◌, map, take, ◌++◌, Bool, false}
use Rattle.std.specs.List.{flat_map}
use Rattle.tuple_values.specs.Document.{ByteList, Doc}
use Rattle.sort_spec.specs.Sorting.{ins_sort, IsAscending}
use Rattle.sort_spec.specs.Terms.{less}
use Rattle.sort_spec.specs.declared.term.SortTerm.{SortTerm}

-- the documents in order; those that tie keep theirs
abbrev pub sort_list : List SortTerm → List Doc → List Doc
sort_list terms docs = ins_sort (less terms) docs

-- the first so many of them
abbrev pub top_list : ℕ → List SortTerm → List Doc → List Doc
top_list n terms docs = take n (ins_sort (less terms) docs)

-- the documents of all inputs in order; of those that tie, the earlier input's first
abbrev pub merge_list : List SortTerm → List (List Doc) → List Doc
merge_list terms inputs = ins_sort (less terms) (flat_map (λ docs. docs) inputs)

-- the documents are in the order of a sort of which the first fields are these
pub record IsSortedOver (names : List ByteList) (docs : List Doc) : Type 0 where
  pub terms : List SortTerm
  pub more : List SortTerm
  pub named : map (λ term. term.field) terms ≡ names
  pub ascends : IsAscending (less (terms ++ more)) docs

-- names as a sort, each in the direction at its place, ascending where there is none
abbrev pub sort_over : List ByteList → List Bool → List SortTerm
sort_over [] directions = []
sort_over (name ∷ names) [] = record { field = name; descending = false } ∷ sort_over names []
sort_over (name ∷ names) (descending ∷ directions) =
    record { field = name; descending = descending } ∷ sort_over names directions
