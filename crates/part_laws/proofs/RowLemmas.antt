-- Each function that has keys gives a part of its list, where its inputs give that part of theirs.
use Rattle.std.proofs.Common.{◌≡◌, ℕ, ◌<◌, List, [], ◌∷◌, Bool, true, false, not, filter}
use Rattle.std.proofs.Common.{map, Option, Some, None, if◌then◌else◌, length, refl, sym, ◌∙◌, ap}
use Rattle.std.proofs.Common.{codes}
use Rattle.std.specs.Prelude.{flat_map, bytes_eq}
use Rattle.std.specs.List.{AllByRecursion, list_all}
use Rattle.tuple_values.specs.Document.{ByteList, Doc, is_named}
use Rattle.sort_spec.specs.Sorting.{ins_sort}
use Rattle.sort_spec.specs.Terms.{less}
use Rattle.sort_spec.proofs.SortLemmas.{each_weaker}
use Rattle.sort_spec.proofs.TermLemmas.{less_is_weak}
use Rattle.sort_spec.specs.declared.pair.OnPair.{OnPair}
use Rattle.sort_spec.specs.declared.term.SortTerm.{SortTerm}
use Rattle.expr_types.specs.ExprTree.{first_or, second_or}
use Rattle.expr_types.specs.Groups.{same_key, groups, unique_list, reduced, reduce_list}
use Rattle.expr_types.specs.Groups.{rolled, rollup_list, metric_name}
use Rattle.expr_types.specs.Joins.{matches, joined, pairs, exist_list}
use Rattle.expr_types.specs.Orders.{sort_list, merge_list}
use Rattle.expr_types.specs.Rows.{selected, select_list}
use Rattle.expr_types.specs.declared.item.GroupOp.{GroupOp}
use Rattle.expr_types.specs.declared.item.Item.{Item}
use Rattle.expr_types.specs.declared.item.Metric.{Metric}
use Rattle.expr_check.specs.Fields.{HasOnly, HaveOnly}
use Rattle.expr_check.specs.Partitions.{are_among, kept_keys, search_keys, renamed, chosen_keys}
use Rattle.expr_check.specs.Partitions.{same_names, same_keys, are_merged, merged_keys, each_pair}
use Rattle.expr_check.specs.Partitions.{are_paired, paired_keys, is_pair, is_kept_pair}
use Rattle.expr_check.proofs.AscendLemmas.{each_of, each_has_kind, each_passes}
use Rattle.expr_check.proofs.KeyLemmas.{same_key-itself, HasKey, reduced_keeps, rolled_keeps}
use Rattle.expr_check.proofs.NeedLemmas.{and_first, and_second, same_bytes}
use Rattle.source_streams.specs.Parts.{is_of_part, part_of, keys_of}
use Rattle.source_streams.proofs.KeptLemmas.{filter-ins, filter-map}
use Rattle.part_laws.proofs.AlikeLemmas.{same_part, alike_among, grouped_alike}
use Rattle.part_laws.proofs.AlikeLemmas.{selected_alike, matched_alike, joined_alike}
use Rattle.part_laws.proofs.PairLemmas.{filter-pairs, filter-existing}
use Rattle.part_laws.proofs.TestLemmas.{filter-flat, filter-firsts, filter-groups}

-- keys that are kept are the keys
pub kept_same : (names : List ByteList) (given : Option (List ByteList)) (keys : List ByteList)
    → kept_keys names given ≡ Some keys
    → (given ≡ Some keys) × (are_among names keys ≡ true)
kept_same names None keys e = absurd (cc)
kept_same names (Some given) keys e = go (are_among names given) refl e where
  go : (b : Bool) → are_among names given ≡ b → (if b then Some given else None) ≡ Some keys
      → (Some given ≡ Some keys) × (are_among names keys ≡ true)
  go true a m = (m, (let same : given ≡ keys = cc in ap (are_among names) (sym same) ∙ a))
  go false a m = absurd (cc)

-- the keys of a search are its partition keys
pub search_same : (given : Option (List ByteList)) (fl : List ByteList) (rows : Option ℕ)
    (keys : List ByteList) → search_keys given fl rows ≡ Some keys → keys_of given ≡ keys
search_same given fl None keys e = ap keys_of (kept_same fl given keys e).0
search_same given fl (Some rows) keys e = absurd (cc)

-- texts that are told one list are it
names_same : (names others : List ByteList) → same_names names others ≡ true → names ≡ others
names_same [] [] e = refl
names_same [] (b ∷ others) e = absurd (cc)
names_same (a ∷ names) [] e = absurd (cc)
names_same (a ∷ names) (b ∷ others) e =
    ap (λ (w : ByteList). w ∷ names) (same_bytes a b (and_first (bytes_eq a b) _ e))
    ∙ ap (λ w. b ∷ w) (names_same names others (and_second (bytes_eq a b) _ e))

-- keys that are there and are told these are these
pub keys_same : (keys : List ByteList) (other : Option (List ByteList))
    → same_keys (Some keys) other ≡ true → other ≡ Some keys
keys_same keys None e = absurd (cc)
keys_same keys (Some others) e = ap Some (sym (names_same keys others e))

module _ (index parts : ℕ) where
  -- a list is one part of another, where there are keys
  abbrev pub IsPart : Option (List ByteList) → List Doc → List Doc → Type 0
  IsPart None docs part = Unit {0}
  IsPart (Some keys) docs part = part ≡ part_of index parts keys docs

  -- so are several
  abbrev pub AreParts : List (Option (List ByteList)) → List (List Doc) → List (List Doc) → Type 0
  AreParts [] [] [] = Unit {0}
  AreParts [] [] (part ∷ rest) = ⊥
  AreParts [] (docs ∷ lists) rest = ⊥
  AreParts (keys ∷ others) [] rest = ⊥
  AreParts (keys ∷ others) (docs ∷ lists) [] = ⊥
  AreParts (keys ∷ others) (docs ∷ lists) (part ∷ rest) =
      IsPart keys docs part × AreParts others lists rest

  -- the first of them
  pub first_part : (all : List (Option (List ByteList))) (lists some : List (List Doc))
      → AreParts all lists some → IsPart (first_or None all) (first_or [] lists) (first_or [] some)
  first_part [] [] [] a = tt
  first_part [] [] (part ∷ rest) a = absurd a
  first_part [] (docs ∷ lists) some a = absurd a
  first_part (keys ∷ others) [] some a = absurd a
  first_part (keys ∷ others) (docs ∷ lists) [] a = absurd a
  first_part (keys ∷ others) (docs ∷ lists) (part ∷ rest) a = a.0

  -- and the second
  pub second_part : (all : List (Option (List ByteList))) (lists some : List (List Doc))
      → AreParts all lists some → IsPart (second_or None all) (second_or [] lists) (second_or [] some)
  second_part [] [] [] a = tt
  second_part [] [] (part ∷ rest) a = absurd a
  second_part [] (docs ∷ lists) some a = absurd a
  second_part (keys ∷ others) [] some a = absurd a
  second_part (keys ∷ others) (docs ∷ lists) [] a = absurd a
  second_part (keys ∷ others) (docs ∷ lists) (part ∷ rest) a = first_part others lists rest a.1

  -- where the keys are known
  pub part_at : (given : Option (List ByteList)) (keys : List ByteList) (docs part : List Doc)
      → given ≡ Some keys → IsPart given docs part → part ≡ part_of index parts keys docs
  part_at None keys docs part e a = absurd (cc)
  part_at (Some given) keys docs part e a =
      let same : given ≡ keys = cc in a ∙ ap (λ k. part_of index parts k docs) same

  -- a sort of a part is the part of the sort
  pub sort_part : (by : List SortTerm) (keys : List ByteList) (docs : List Doc)
      → sort_list by (part_of index parts keys docs) ≡ part_of index parts keys (sort_list by docs)
  sort_part by keys docs =
      sym (filter-ins (less by) (less_is_weak by) (is_of_part index parts keys) docs)

  -- so it is of select, whose tuples have the keys under new names
  pub select_part : (items : List Item) (keys news : List ByteList) (docs : List Doc)
      → renamed items keys ≡ Some news
      → select_list items (part_of index parts keys docs)
      ≡ part_of index parts news (select_list items docs)
  select_part items keys news docs e =
      sym (filter-map (selected items) (is_of_part index parts keys) (is_of_part index parts news)
      docs
      (each_of (λ doc. is_of_part index parts news (selected items doc)
      ≡ is_of_part index parts keys doc) docs
      (λ doc. same_part index parts news keys (selected items doc) doc
      (selected_alike items doc keys news e))))

  -- of unique, whose fields hold the keys
  pub unique_part : (over keys : List ByteList) (docs : List Doc) → are_among over keys ≡ true
      → unique_list over (part_of index parts keys docs)
      ≡ part_of index parts keys (unique_list over docs)
  unique_part over keys docs e =
      sym (filter-firsts (same_key over) (is_of_part index parts keys)
      (λ a b same. same_part index parts keys keys a b (grouped_alike over keys a b e same)) docs)

  -- of what makes one tuple of each group that keeps its key
  groups_part : (names keys : List ByteList) (made : List Doc → Doc) (docs : List Doc)
      → are_among names keys ≡ true
      → ((doc : Doc) (others : List Doc) → 0 < length others
      → AllByRecursion (λ o. same_key names doc o ≡ true) others → HasKey names doc (made others))
      → map made (groups (same_key names) (part_of index parts keys docs))
      ≡ part_of index parts keys (map made (groups (same_key names) docs))
  groups_part names keys made docs e keeps =
      let same = same_key names in
      let test = is_of_part index parts keys in
      sym (filter-groups same test
      (λ a b s. same_part index parts keys keys a b (grouped_alike names keys a b e s)) made docs
      (each_weaker (λ doc. 0 < length (filter (same doc) docs))
      (λ doc. test (made (filter (same doc) docs)) ≡ test doc) docs
      (λ doc h. same_part index parts keys keys (made (filter (same doc) docs)) doc
      (alike_among names keys (made (filter (same doc) docs)) doc e
      (keeps doc (filter (same doc) docs) h (each_passes (same doc) docs))))
      (each_has_kind same (same_key-itself names) docs)))

  -- such as reduce
  pub reduce_part : (names keys : List ByteList) (op : GroupOp) (docs : List Doc)
      → are_among names keys ≡ true → is_named (codes "group") names ≡ false
      → reduce_list names op (part_of index parts keys docs)
      ≡ part_of index parts keys (reduce_list names op docs)
  reduce_part names keys op docs e g =
      groups_part names keys (reduced op) docs e (λ doc others h s. reduced_keeps names op doc others g h s)

  -- and rollup
  pub rollup_part : (names keys : List ByteList) (metrics : List Metric) (docs : List Doc)
      → are_among names keys ≡ true
      → list_all (λ m. not (is_named (metric_name m) names)) metrics ≡ true
      → rollup_list names metrics (part_of index parts keys docs)
      ≡ part_of index parts keys (rollup_list names metrics docs)
  rollup_part names keys metrics docs e m =
      groups_part names keys (rolled names metrics) docs e
      (λ doc others h s. rolled_keeps names metrics doc others m h s)

  -- of joins, whose left keys keep their values and are paired with the right ones
  pub joined_part : (alone : Doc → List Doc) (on : List OnPair) (names lefts rights : List ByteList)
      (docs others : List Doc)
      → ((left : Doc) → AllByRecursion (λ made. is_of_part index parts lefts made
      ≡ is_of_part index parts lefts left) (alone left))
      → each_pair (is_kept_pair on names) lefts rights ≡ true → HaveOnly names others
      → pairs alone (matches on) joined (part_of index parts lefts docs)
      (part_of index parts rights others)
      ≡ part_of index parts lefts (pairs alone (matches on) joined docs others)
  joined_part alone on names lefts rights docs others by_itself e only =
      sym (filter-pairs alone (matches on) joined (is_of_part index parts lefts)
      (is_of_part index parts rights) (is_of_part index parts lefts) (HasOnly names)
      (λ left right met. same_part index parts lefts rights left right
      (matched_alike on (is_kept_pair on names) (λ one other k. and_second _ (is_pair on one other) k)
      lefts rights left right e met))
      (λ left right fits met. same_part index parts lefts lefts (joined left right) left
      (joined_alike on names lefts rights left right e fits met))
      by_itself docs others only)

  -- and of what keeps left tuples by the right ones
  pub exist_part : (keep : Bool) (on : List OnPair) (lefts rights : List ByteList)
      (docs others : List Doc) → each_pair (is_pair on) lefts rights ≡ true
      → exist_list keep on (part_of index parts lefts docs) (part_of index parts rights others)
      ≡ part_of index parts lefts (exist_list keep on docs others)
  exist_part keep on lefts rights docs others e =
      sym (filter-existing keep (matches on) (is_of_part index parts lefts)
      (is_of_part index parts rights)
      (λ left right met. same_part index parts lefts rights left right
      (matched_alike on (is_pair on) (λ one other k. k) lefts rights left right e met)) docs others)

  -- a merge of parts is the part of the merge
  pub merge_part : (on : List SortTerm) (keys : List ByteList) (lists : List (List Doc))
      → merge_list on (map (part_of index parts keys) lists)
      ≡ part_of index parts keys (merge_list on lists)
  merge_part on keys lists =
      ap (ins_sort (less on)) (sym (filter-flat (is_of_part index parts keys) lists))
      ∙ sort_part on keys (flat_map (λ docs. docs) lists)

  -- inputs that all have these keys give a part each
  parts_are : (keys : List ByteList) (all : List (Option (List ByteList)))
      (lists some : List (List Doc)) → list_all (same_keys (Some keys)) all ≡ true
      → AreParts all lists some → some ≡ map (part_of index parts keys) lists
  parts_are keys [] [] [] e a = refl
  parts_are keys [] [] (part ∷ rest) e a = absurd a
  parts_are keys [] (docs ∷ lists) some e a = absurd a
  parts_are keys (other ∷ others) [] some e a = absurd a
  parts_are keys (other ∷ others) (docs ∷ lists) [] e a = absurd a
  parts_are keys (other ∷ others) (docs ∷ lists) (part ∷ rest) e a =
      ap (λ w. w ∷ rest)
      (part_at other keys docs part
      (keys_same keys other (and_first (same_keys (Some keys) other) _ e)) a.0)
      ∙ ap (λ w. part_of index parts keys docs ∷ w)
      (parts_are keys others lists rest (and_second (same_keys (Some keys) other) _ e) a.1)

  -- so the inputs of a merge with keys do
  pub merged_parts : (keys : List ByteList) (all : List (Option (List ByteList)))
      (lists some : List (List Doc)) → merged_keys all ≡ Some keys
      → AreParts all lists some → some ≡ map (part_of index parts keys) lists
  merged_parts keys [] lists some e a = absurd (cc)
  merged_parts keys (first ∷ others) [] some e a = absurd a
  merged_parts keys (first ∷ others) (docs ∷ lists) [] e a = absurd a
  merged_parts keys (first ∷ others) (docs ∷ lists) (part ∷ rest) e a =
      go (are_merged (first ∷ others)) refl e
    where
      go : (b : Bool) → list_all (same_keys first) others ≡ b
          → (if b then first else None) ≡ Some keys
          → (part ∷ rest) ≡ map (part_of index parts keys) (docs ∷ lists)
      go true m is =
          ap (λ w. w ∷ rest) (part_at first keys docs part is a.0)
          ∙ ap (λ w. part_of index parts keys docs ∷ w)
          (parts_are keys others lists rest
          (ap (λ (k : Option (List ByteList)). list_all (same_keys k) others) (sym is) ∙ m) a.1)
      go false m is = absurd (cc)

-- keys that are paired, left and right
pub record ArePaired (allows : ByteList → ByteList → Bool) (all : List (Option (List ByteList)))
    (lefts : List ByteList) : Type 0 where
  pub rights : List ByteList
  pub left : first_or None all ≡ Some lefts
  pub right : second_or None all ≡ Some rights
  pub paired : each_pair allows lefts rights ≡ true

-- of two lists of keys
paired_by : (allows : ByteList → ByteList → Bool) (all : List (Option (List ByteList)))
    (left right : Option (List ByteList)) (keys : List ByteList) → first_or None all ≡ left
    → second_or None all ≡ right
    → (if are_paired allows left right then left else None) ≡ Some keys
    → ArePaired allows all keys
paired_by allows all None right keys l r e = absurd (cc)
paired_by allows all (Some lefts) None keys l r e = absurd (cc)
paired_by allows all (Some lefts) (Some rights) keys l r e =
    go (each_pair allows lefts rights) refl e
  where
    go : (b : Bool) → each_pair allows lefts rights ≡ b
        → (if b then Some lefts else None) ≡ Some keys → ArePaired allows all keys
    go true p m = let same : lefts ≡ keys = cc in record {
      rights = rights;
      left = l ∙ m;
      right = r;
      paired = ap (λ k. each_pair allows k rights) (sym same) ∙ p;
    }
    go false p m = absurd (cc)

-- where the left keys are told by the pairs
pub paired_of : (allows : ByteList → ByteList → Bool) (all : List (Option (List ByteList)))
    (keys : List ByteList) → paired_keys allows all ≡ Some keys → ArePaired allows all keys
paired_of allows all keys e =
    paired_by allows all (first_or None all) (second_or None all) keys refl refl e

-- keys after select are those of its input under new names
pub record AreChosen (items : List Item) (given : Option (List ByteList)) (news : List ByteList)
    : Type 0 where
  pub keys : List ByteList
  pub is : given ≡ Some keys
  pub named : renamed items keys ≡ Some news

pub chosen_of : (items : List Item) (given : Option (List ByteList)) (news : List ByteList)
    → chosen_keys items given ≡ Some news → AreChosen items given news
chosen_of items None news e = absurd (cc)
chosen_of items (Some keys) news e = record { keys = keys; is = refl; named = e }
