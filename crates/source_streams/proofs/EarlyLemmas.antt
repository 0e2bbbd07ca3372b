-- A part that is taken before the sort, where no rows are counted, is the part of what is given.
use Rattle.std.proofs.Common.{◌≡◌, ℕ, List, Bool, Option, Some, None, filter, map, sym, ◌∙◌, ap}
use Rattle.tuple_values.specs.Document.{ByteList, Doc}
use Rattle.query_syntax.specs.Matching.{matches}
use Rattle.query_syntax.specs.Tree.{ClauseTree}
use Rattle.sort_spec.specs.Sorting.{ins_sort}
use Rattle.sort_spec.specs.Terms.{less}
use Rattle.sort_spec.specs.declared.term.SortTerm.{SortTerm}
use Rattle.sort_spec.proofs.TermLemmas.{less_is_weak}
use Rattle.expr_types.specs.Sources.{cut_to, first_rows}
use Rattle.source_streams.specs.Parts.{is_of_part, part_of}
use Rattle.source_streams.specs.Wants.{is_wanted, early_part, late_part}
use Rattle.source_streams.specs.declared.part.Part.{Part}
use Rattle.source_streams.proofs.KeptLemmas.{filter-ins, filter-made, filter-both, filter_true}
use Rattle.source_streams.proofs.PartLemmas.{is_of_whole, part_of-whole}

module _ (q : List ClauseTree) (fl keys : List ByteList) (by : List SortTerm) (part : Part)
    (docs : List Doc) where
  -- what is wanted of a part before the sort, and then all of it, is the part of all
  pub early_found : (rows : Option ℕ)
      → part_of (late_part rows part).index (late_part rows part).of keys
      (map (cut_to fl) (first_rows rows
      (ins_sort (less by) (filter (is_wanted q fl keys (early_part rows part)) docs))))
      ≡ part_of part.index part.of keys
      (map (cut_to fl) (first_rows rows (ins_sort (less by) (filter (matches q) docs))))
  early_found None =
      let test : Doc → Bool = λ doc. is_of_part part.index part.of keys (cut_to fl doc) in
      part_of-whole keys (map (cut_to fl)
      (ins_sort (less by) (filter (is_wanted q fl keys part) docs)))
      ∙ ap (λ found. map (cut_to fl) (ins_sort (less by) found)) (filter-both (matches q) test docs)
      ∙ ap (map (cut_to fl))
      (sym (filter-ins (less by) (less_is_weak by) test (filter (matches q) docs)))
      ∙ sym (filter-made (cut_to fl) (is_of_part part.index part.of keys)
      (ins_sort (less by) (filter (matches q) docs)))
  early_found (Some rows) =
      let test : Doc → Bool = λ doc. is_of_part 0 1 keys (cut_to fl doc) in
      ap (λ found. part_of part.index part.of keys
      (map (cut_to fl) (first_rows (Some rows) (ins_sort (less by) found))))
      (filter-both (matches q) test docs
      ∙ filter_true test (λ doc. is_of_whole keys (cut_to fl doc)) (filter (matches q) docs))
