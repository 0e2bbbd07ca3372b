-- Where each search gives one part, an expression gives that part of its list.
use Rattle.std.proofs.Common.{◌≡◌, ℕ, ◌==◌, List, [], ◌∷◌, Bool, true, false, not, ◌&&◌, Option, Some, None}
use Rattle.std.proofs.Common.{length, refl, ◌∙◌, ap, codes}
use Rattle.std.specs.List.{AllByRecursion, list_all}
use Rattle.tuple_values.specs.Document.{ByteList, Doc, is_named}
use Rattle.sort_spec.specs.declared.pair.OnPair.{OnPair}
use Rattle.expr_types.specs.Conditions.{holds, having_list}
use Rattle.expr_types.specs.ExprTree.{Operator, search, tuple, select, having, sort, top, unique}
use Rattle.expr_types.specs.ExprTree.{merge, reduce, rollup, inner_join, left_outer_join, intersect}
use Rattle.expr_types.specs.ExprTree.{complement, hash_join, outer_hash_join, in_parallel, topic}
use Rattle.expr_types.specs.ExprTree.{update, commit, daemon, first_or, second_or}
use Rattle.expr_types.specs.ExprTree.{ExprTree, node, ExprTrees, no_exprs, an_expr, expr_list}
use Rattle.expr_types.specs.Groups.{unique_list, reduce_list, rollup_list, metric_name}
use Rattle.expr_types.specs.Joins.{matches, joined, pairs, exist_list}
use Rattle.expr_types.specs.Limits.{is_between, count_limit}
use Rattle.expr_types.specs.Orders.{sort_list, merge_list}
use Rattle.expr_types.specs.Planned.{AreWell, AreAllWell}
use Rattle.expr_types.specs.Rows.{select_list}
use Rattle.expr_types.specs.Rules.{Collections, given, rule_of, is_well, Source, searched, literal}
use Rattle.expr_types.specs.Rules.{followed, no_source}
use Rattle.expr_types.specs.Lists.{list_of, lists_of}
use Rattle.expr_types.specs.Sources.{search_list}
use Rattle.expr_types.proofs.GroupLemmas.{filter-swap}
use Rattle.expr_check.specs.Partitions.{is_pair, is_kept_pair, paired_keys}
use Rattle.expr_check.specs.Rules.{keys_given}
use Rattle.expr_check.specs.Walk.{keys_of, all_keys, all_fields}
use Rattle.expr_check.proofs.FieldLemmas.{AreWithin, all_within, second_within}
use Rattle.expr_check.proofs.NeedLemmas.{and_second, is_false}
use Rattle.source_streams.specs.Parts.{is_of_part, part_of}
use Rattle.source_streams.proofs.PartLemmas.{part_of-whole}
use Rattle.part_laws.specs.Parted.{part_from, given_in_part, list_in_part, lists_in_part}
use Rattle.part_laws.proofs.RowLemmas.{kept_same, search_same, IsPart, AreParts, first_part}
use Rattle.part_laws.proofs.RowLemmas.{second_part, part_at, sort_part, select_part, unique_part}
use Rattle.part_laws.proofs.RowLemmas.{reduce_part, rollup_part, joined_part, exist_part}
use Rattle.part_laws.proofs.RowLemmas.{merge_part, merged_parts, paired_of, chosen_of}

module _ (docs : Collections) (index parts : ℕ) where
  -- what a function over one input makes of a part is the part of what it makes of all
  of_one_input : (work : List Doc → List Doc) (given : Option (List ByteList))
      (keys news : List ByteList) (all part : List Doc) → given ≡ Some keys
      → IsPart index parts given all part
      → work (part_of index parts keys all) ≡ part_of index parts news (work all)
      → work part ≡ part_of index parts news (work all)
  of_one_input work given keys news all part is a commutes =
      ap work (part_at index parts given keys all part is a) ∙ commutes

  -- a join of parts is the part of the join
  of_join : (alone : Doc → List Doc) (on : List OnPair) (fields : List (List ByteList))
      (all : List (Option (List ByteList))) (lists some : List (List Doc)) (keys : List ByteList)
      → ((left : Doc) → AllByRecursion (λ made. is_of_part index parts keys made
      ≡ is_of_part index parts keys left) (alone left))
      → AreParts index parts all lists some → AreWithin fields lists
      → paired_keys (is_kept_pair on (second_or [] fields)) all ≡ Some keys
      → pairs alone (matches on) joined (first_or [] some) (second_or [] some)
      ≡ part_of index parts keys
      (pairs alone (matches on) joined (first_or [] lists) (second_or [] lists))
  of_join alone on fields all lists some keys by_itself a w e =
      let p = paired_of (is_kept_pair on (second_or [] fields)) all keys e in
      let left =
      part_at index parts (first_or None all) keys (first_or [] lists) (first_or [] some) p.left
      (first_part index parts all lists some a) in
      let right =
      part_at index parts (second_or None all) p.rights (second_or [] lists) (second_or [] some)
      p.right (second_part index parts all lists some a) in
      ap (λ l. pairs alone (matches on) joined l (second_or [] some)) left
      ∙ ap (pairs alone (matches on) joined (part_of index parts keys (first_or [] lists))) right
      ∙ joined_part index parts alone on (second_or [] fields) keys p.rights (first_or [] lists)
      (second_or [] lists) by_itself p.paired (second_within fields lists w)

  -- so it is where left tuples are kept by the right ones
  of_exist : (keep : Bool) (on : List OnPair) (all : List (Option (List ByteList)))
      (lists some : List (List Doc)) (keys : List ByteList) → AreParts index parts all lists some
      → paired_keys (is_pair on) all ≡ Some keys
      → exist_list keep on (first_or [] some) (second_or [] some)
      ≡ part_of index parts keys (exist_list keep on (first_or [] lists) (second_or [] lists))
  of_exist keep on all lists some keys a e =
      let p = paired_of (is_pair on) all keys e in
      let left =
      part_at index parts (first_or None all) keys (first_or [] lists) (first_or [] some) p.left
      (first_part index parts all lists some a) in
      let right =
      part_at index parts (second_or None all) p.rights (second_or [] lists) (second_or [] some)
      p.right (second_part index parts all lists some a) in
      ap (λ l. exist_list keep on l (second_or [] some)) left
      ∙ ap (exist_list keep on (part_of index parts keys (first_or [] lists))) right
      ∙ exist_part index parts keep on keys p.rights (first_or [] lists) (second_or [] lists) p.paired

  -- an operator with keys gives the part of its list, where its inputs give that of theirs
  pub given_part : (op : Operator) (many : ℕ) (fields : List (List ByteList))
      (all : List (Option (List ByteList))) (lists some : List (List Doc)) (keys : List ByteList)
      → is_well op many ≡ true → AreParts index parts all lists some → AreWithin fields lists
      → keys_given op fields all ≡ Some keys
      → given_in_part docs index parts op some
      ≡ part_of index parts keys (given docs op lists)
  given_part (search p) many fields all lists some keys k a w e =
      ap (λ names. part_of index parts names (search_list p (docs p.collection)))
      (search_same p.partition_keys p.fl p.rows keys e)
  given_part (tuple doc) many fields all lists some keys k a w e = absurd (cc)
  given_part (select items) many fields all lists some keys k a w e =
      let c = chosen_of items (first_or None all) keys e in
      of_one_input (select_list items) (first_or None all) c.keys keys (first_or [] lists)
      (first_or [] some) c.is (first_part index parts all lists some a)
      (select_part index parts items c.keys keys (first_or [] lists) c.named)
  given_part (having condition) many fields all lists some keys k a w e =
      of_one_input (having_list condition) (first_or None all) keys keys (first_or [] lists)
      (first_or [] some) e (first_part index parts all lists some a)
      (filter-swap (holds condition) (is_of_part index parts keys) (first_or [] lists))
  given_part (sort by) many fields all lists some keys k a w e =
      of_one_input (sort_list by) (first_or None all) keys keys (first_or [] lists)
      (first_or [] some) e (first_part index parts all lists some a)
      (sort_part index parts by keys (first_or [] lists))
  given_part (top n by) many fields all lists some keys k a w e = absurd (cc)
  given_part (unique over) many fields all lists some keys k a w e =
      let kept = kept_same over (first_or None all) keys e in
      of_one_input (unique_list over) (first_or None all) keys keys (first_or [] lists)
      (first_or [] some) kept.0 (first_part index parts all lists some a)
      (unique_part index parts over keys (first_or [] lists) kept.1)
  given_part (merge on) many fields all lists some keys k a w e =
      ap (merge_list on) (merged_parts index parts keys all lists some e a)
      ∙ merge_part index parts on keys lists
  given_part (reduce by op) many fields all lists some keys k a w e =
      let kept = kept_same by (first_or None all) keys e in
      of_one_input (reduce_list by op) (first_or None all) keys keys (first_or [] lists)
      (first_or [] some) kept.0 (first_part index parts all lists some a)
      (reduce_part index parts by keys op (first_or [] lists) kept.1
      (is_false (is_named (codes "group") by)
      (and_second (many == 1 && is_between 1 count_limit op.n)
      (not (is_named (codes "group") by)) k)))
  given_part (rollup over metrics) many fields all lists some keys k a w e =
      let kept = kept_same over (first_or None all) keys e in
      of_one_input (rollup_list over metrics) (first_or None all) keys keys (first_or [] lists)
      (first_or [] some) kept.0 (first_part index parts all lists some a)
      (rollup_part index parts over keys metrics (first_or [] lists) kept.1
      (and_second (many == 1) (list_all (λ m. not (is_named (metric_name m) over)) metrics) k))
  given_part (inner_join on) many fields all lists some keys k a w e =
      of_join (λ left. []) on fields all lists some keys (λ left. tt) a w e
  given_part (left_outer_join on) many fields all lists some keys k a w e =
      of_join (λ left. left ∷ []) on fields all lists some keys (λ left. (refl, tt)) a w e
  given_part (intersect on) many fields all lists some keys k a w e =
      of_exist true on all lists some keys a e
  given_part (complement on) many fields all lists some keys k a w e =
      of_exist false on all lists some keys a e
  given_part (hash_join on) many fields all lists some keys k a w e =
      of_join (λ left. []) on fields all lists some keys (λ left. tt) a w e
  given_part (outer_hash_join on) many fields all lists some keys k a w e =
      of_join (λ left. left ∷ []) on fields all lists some keys (λ left. (refl, tt)) a w e
  given_part (in_parallel collection workers by) many fields all lists some keys k a w e = absurd (cc)
  given_part (topic p) many fields all lists some keys k a w e = absurd (cc)
  given_part (update dest size) many fields all lists some keys k a w e = absurd (cc)
  given_part (commit dest size) many fields all lists some keys k a w e = absurd (cc)
  given_part (daemon id interval terminate) many fields all lists some keys k a w e = absurd (cc)

  -- what is so under known keys is so under keys that may be there
  under_keys : (given : Option (List ByteList)) (all part : List Doc)
      → ((keys : List ByteList) → given ≡ Some keys → part ≡ part_of index parts keys all)
      → IsPart index parts given all part
  under_keys None all part f = tt
  under_keys (Some keys) all part f = f keys refl

  mutual
    -- an expression with keys gives the part of its list
    pub part_commutes : (t : ExprTree) → AreWell t → (keys : List ByteList)
        → keys_of t ≡ Some keys
        → list_in_part docs index parts t ≡ part_of index parts keys (list_of docs t)
    part_commutes (node op inputs) well keys e =
        given_part op (length (expr_list inputs)) (all_fields inputs) (all_keys inputs)
        (lists_of docs inputs) (lists_in_part docs index parts inputs) keys well.0
        (parts_commute inputs well.1.1) (all_within docs inputs) e

    -- so does each of its inputs
    pub parts_commute : (ts : ExprTrees) → AreAllWell ts
        → AreParts index parts (all_keys ts) (lists_of docs ts) (lists_in_part docs index parts ts)
    parts_commute no_exprs well = tt
    parts_commute (an_expr t ts) well = (
      under_keys (keys_of t) (list_of docs t) (list_in_part docs index parts t)
          (part_commutes t well.0),
      parts_commute ts well.1,
    )

-- of one part alone all is given
part_from-whole : (source : Source) (docs : List Doc) → part_from 0 1 source docs ≡ docs
part_from-whole (searched p) docs = part_of-whole _ docs
part_from-whole (literal fields) docs = refl
part_from-whole (followed p) docs = refl
part_from-whole no_source docs = refl

mutual
  -- so is the whole list of an expression
  pub whole_list : (docs : Collections) (t : ExprTree) → list_in_part docs 0 1 t ≡ list_of docs t
  whole_list docs (node op inputs) =
      part_from-whole (rule_of op).source (given docs op (lists_in_part docs 0 1 inputs))
      ∙ ap (given docs op) (whole_lists docs inputs)

  -- and those of inputs
  pub whole_lists : (docs : Collections) (ts : ExprTrees)
      → lists_in_part docs 0 1 ts ≡ lists_of docs ts
  whole_lists docs no_exprs = refl
  whole_lists docs (an_expr t ts) =
      ap (λ w. w ∷ lists_in_part docs 0 1 ts) (whole_list docs t)
      ∙ ap (λ w. list_of docs t ∷ w) (whole_lists docs ts)
