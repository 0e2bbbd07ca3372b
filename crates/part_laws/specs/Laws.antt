-- What is so of the parts of expressions' lists (own).
use Rattle.std.specs.Prelude.{◌≡◌, ℕ, ◌<◌, List, Some, None, true}
use Rattle.std.specs.List.{AllByRecursion}
use Rattle.tuple_values.specs.Document.{ByteList, Doc}
use Rattle.sort_spec.specs.Sorting.{IsAscending}
use Rattle.sort_spec.specs.Terms.{less}
use Rattle.sort_spec.specs.declared.term.SortTerm.{SortTerm}
use Rattle.expr_types.specs.ExprTree.{ExprTree}
use Rattle.expr_types.specs.Rules.{Collections}
use Rattle.expr_types.specs.Lists.{list_of}
use Rattle.expr_types.specs.Orders.{merge_list}
use Rattle.expr_types.specs.Plain.{IsPlain}
use Rattle.expr_types.specs.Planned.{AreWell}
use Rattle.expr_check.specs.Partitions.{holds_keys}
use Rattle.expr_check.specs.Parts.{parallels_of}
use Rattle.expr_check.specs.Walk.{keys_of, own_fault}
use Rattle.source_streams.specs.Parts.{part_of}
use Rattle.part_laws.specs.Parted.{list_in_part, all_parts}
use Rattle.part_laws.specs.Splits.{IsSplit}

-- where each search gives one part by its own keys, an expression gives that part of its list by
-- the expression's keys
abbrev pub FilteringCommutes : Type 0
FilteringCommutes =
    (t : ExprTree) (keys : List ByteList) → AreWell t → keys_of t ≡ Some keys
    → (docs : Collections) (index parts : ℕ)
    → list_in_part docs index parts t ≡ part_of index parts keys (list_of docs t)

-- of one part it gives its whole list
abbrev pub OnePartIsWhole : Type 0
OnePartIsWhole = (t : ExprTree) (docs : Collections) → list_in_part docs 0 1 t ≡ list_of docs t

-- a list in the order of a sort that has a term of each key is the merge of its parts
abbrev pub MergedPartsAreWhole : Type 0
MergedPartsAreWhole =
    (by : List SortTerm) (keys : List ByteList) (parts : ℕ) (docs : List Doc) → 0 < parts
    → holds_keys by (Some keys) ≡ true → IsAscending (less by) docs
    → merge_list by (all_parts parts keys docs) ≡ docs

-- the work of each outermost parallel may be split, where an expression only reads and no function
-- of it has a fault over its inputs
abbrev pub WorkMayBeSplit : Type 0
WorkMayBeSplit =
    (t : ExprTree) → IsPlain t → AreWell t → own_fault t ≡ None
    → AllByRecursion IsSplit (parallels_of t)
