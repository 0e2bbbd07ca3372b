-- What is still to come of what is given in the order of a sort (own).
use Rattle.std.specs.Prelude.{List, map}
use Rattle.tuple_values.specs.Document.{Doc}
use Rattle.sort_spec.specs.Runs.{merged_of, AreRuns}
use Rattle.sort_spec.specs.declared.sorted.Rows.{Rows}
use Rattle.sort_spec.specs.declared.sorted.Rows.TheVariants.{Whole, Merged}

-- the documents still to come, by the document of what lends a tuple
abbrev pub rows_left : {T : Type 0} → (T → Doc) → Rows T → List Doc
rows_left doc (Whole items) = map doc items.items
rows_left doc (Merged by groups) =
    merged_of doc (λ runs. merged_of doc (λ others. map doc others.items) by runs.items) by
    groups.items

-- each run, and each group of runs, has its first row's values and is in order
abbrev pub AreSound : {T : Type 0} → (T → Doc) → Rows T → Type 0
AreSound doc (Whole items) = Unit {0}
AreSound doc (Merged by groups) =
    AreRuns doc (λ runs. merged_of doc (λ others. map doc others.items) by runs.items)
    (λ runs. AreRuns doc (λ others. map doc others.items) (λ others. Unit {0}) by runs.items)
    by groups.items
