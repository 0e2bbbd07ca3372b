-- Runs of rows, each in order (own).
use Rattle.std.specs.Prelude.{◌≡◌, ℕ, zero, suc, List, [], ◌∷◌, Bool, true, false, map}
use Rattle.std.specs.List.{AllByRecursion, flat_map}
use Rattle.tuple_values.specs.Document.{Doc}
use Rattle.sort_spec.specs.Rows.{row_in, row_for}
use Rattle.sort_spec.specs.Sorting.{ins_sort, IsAscending}
use Rattle.sort_spec.specs.Terms.{less}
use Rattle.sort_spec.specs.declared.rows.Fronted.{Fronted}
use Rattle.sort_spec.specs.declared.runs.Run.{Run}
use Rattle.sort_spec.specs.declared.term.SortTerm.{SortTerm}

-- what comes first in a list, and the others
abbrev pub Parts : Type 0 → Type 0
Parts X = X × List X

-- those of a run's documents, by the document of what lends a tuple and those still to come of others
abbrev pub parts_in : {T S : Type 0} → (T → Doc) → (S → List Doc) → Run T S → Parts Doc
parts_in doc to_come run = (doc run.first.item, to_come run.others)

-- a list of its parts
abbrev pub whole : {X : Type 0} → Parts X → List X
whole parts = parts.0 ∷ parts.1

-- several lists, one after another
abbrev pub joined : {X : Type 0} → List (Parts X) → List X
joined lists = flat_map whole lists

-- the documents of runs, one run after another
abbrev pub docs_in : {T S : Type 0} → (T → Doc) → (S → List Doc) → List (Run T S) → List Doc
docs_in doc to_come runs = joined (map (parts_in doc to_come) runs)

-- what is still to come of runs that are merged
abbrev pub merged_of : {T S : Type 0} → (T → Doc) → (S → List Doc) → List SortTerm
    → List (Run T S) → List Doc
merged_of doc to_come terms runs = ins_sort (less terms) (docs_in doc to_come runs)

-- each list is in order
abbrev pub AreAscending : {X : Type 0} → (X → X → Bool) → List (Parts X) → Type 0
AreAscending lt lists = AllByRecursion (λ l. IsAscending lt (whole l)) lists

-- a row has the values of its document
abbrev pub IsRow : {T : Type 0} → (T → Doc) → List SortTerm → Fronted T → Type 0
IsRow doc terms row = row_in doc row ≡ row_for terms (doc row.item)

-- each run has its first row's values, goes on with others that are sound, and is in order
pub record AreRuns {T S : Type 0} (doc : T → Doc) (to_come : S → List Doc) (Sound : S → Type 0)
    (terms : List SortTerm) (runs : List (Run T S)) : Type 0 where
  pub rows : AllByRecursion (λ run. IsRow doc terms run.first) runs
  pub sound : AllByRecursion (λ run. Sound run.others) runs
  pub ascending : AreAscending (less terms) (map (parts_in doc to_come) runs)

-- x comes first in the list at a place; it is below all that come first in the lists before it, and
-- none that comes first in one behind it is below x
abbrev pub IsLeast : {X : Type 0} → (X → X → Bool) → X → ℕ → List (Parts X) → Type 0
IsLeast lt x place [] = ⊥
IsLeast lt x zero (l ∷ lists) = (l.0 ≡ x) × AllByRecursion (λ m. lt m.0 x ≡ false) lists
IsLeast lt x (suc place) (l ∷ lists) = (lt x l.0 ≡ true) × IsLeast lt x place lists

-- the place is that of the first list that begins with the least
abbrev pub IsForemost : {X : Type 0} → (X → X → Bool) → ℕ → List (Parts X) → Type 0
IsForemost lt place lists = (x : _) × IsLeast lt x place lists

-- what is left of a list before others, where anything is
abbrev pub rest_before : {X : Type 0} → List X → List (Parts X) → List (Parts X)
rest_before [] lists = lists
rest_before (x ∷ xs) lists = (x, xs) ∷ lists

-- the lists without what comes first in that at a place
abbrev pub taken : {X : Type 0} → ℕ → List (Parts X) → List (Parts X)
taken place [] = []
taken zero (l ∷ lists) = rest_before l.1 lists
taken (suc place) (l ∷ lists) = l ∷ taken place lists
