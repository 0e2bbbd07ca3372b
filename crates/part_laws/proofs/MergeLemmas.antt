-- A list in the order of a sort that has a term of each key is the merge of its parts.
use Rattle.std.proofs.Common.{◌≡◌, ℕ, zero, suc, ◌+◌, ◌<◌, ◌≤◌, ◌%◌, ◌==◌, List, [], ◌∷◌, ◌++◌, Bool}
use Rattle.std.proofs.Common.{true, false, ◌&&◌, ◌||◌, filter, map, Some, if◌then◌else◌, refl, sym}
use Rattle.std.proofs.Common.{◌∙◌, ap, arith}
use Rattle.std.specs.Prelude.{flat_map, bytes_eq}
use Rattle.std.specs.List.{AllByRecursion, list_all, range_with_len}
use Rattle.std.specs.List.Sorted.{ties}
use Rattle.std.proofs.lemmas.Bool.Decides.{nat_tests}
use Rattle.std.proofs.lemmas.List.{append-nil}
use Rattle.std.proofs.lemmas.Nat.{mod_below}
use Rattle.tuple_values.specs.Document.{ByteList, Doc, is_named}
use Rattle.tuple_values.specs.Keys.{key_text, hash_of}
use Rattle.sort_spec.specs.Sorting.{IsAscending}
use Rattle.sort_spec.specs.Terms.{less}
use Rattle.sort_spec.proofs.SortLemmas.{each_weaker}
use Rattle.sort_spec.proofs.StableLemmas.{stable_is_ins, filter_none}
use Rattle.sort_spec.proofs.TermLemmas.{less_is_weak}
use Rattle.sort_spec.specs.declared.term.SortTerm.{SortTerm}
use Rattle.expr_types.specs.Orders.{merge_list}
use Rattle.expr_types.proofs.GroupLemmas.{filter-swap}
use Rattle.expr_types.proofs.OrderLemmas.{same_key-ties}
use Rattle.expr_check.specs.Partitions.{has_term, holds_keys, are_among}
use Rattle.expr_check.proofs.AscendLemmas.{each_passes, ascends_filter}
use Rattle.expr_check.proofs.NeedLemmas.{and_first, and_second}
use Rattle.source_streams.specs.Parts.{is_of_part, part_of}
use Rattle.part_laws.specs.Parted.{all_parts}
use Rattle.part_laws.proofs.AlikeLemmas.{same_part, grouped_alike}
use Rattle.part_laws.proofs.PairLemmas.{filter_all}
use Rattle.part_laws.proofs.TestLemmas.{filter-flat, map-twice}

-- numbers that differ are told apart
apart : (a b : ℕ) → a < b → (a == b) ≡ false
apart a b h = grind (arith, nat_tests)

-- functions that agree give the same
map_same : {X Y : Type 0} (f g : X → Y) → ((x : X) → f x ≡ g x) → (xs : List X)
    → map f xs ≡ map g xs
map_same f g e [] = refl
map_same f g e (x ∷ xs) = ap (λ w. w ∷ map f xs) (e x) ∙ ap (λ w. g x ∷ w) (map_same f g e xs)

-- a list at one place among places, and nothing at the others
abbrev put_at : {X : Type 0} → ℕ → List X → ℕ → List X
put_at place xs index = if place == index then xs else []

-- behind the place there is nothing
none_behind : {X : Type 0} (place : ℕ) (xs : List X) (from many : ℕ) → place < from
    → flat_map (λ l. l) (map (put_at place xs) (range_with_len from many)) ≡ []
none_behind place xs from zero h = refl
none_behind place xs from (suc many) h =
    ap (λ (b : Bool). (if b then xs else [])
    ++ flat_map (λ l. l) (map (put_at place xs) (range_with_len (from + 1) many)))
    (apart place from h)
    ∙ none_behind place xs (from + 1) many (omega arith)

-- a place that is told apart is behind the first
past_first : (place from : ℕ) → (place == from) ≡ false → from ≤ place → from + 1 ≤ place
past_first place from e h = grind (arith, nat_tests)

at_first : (place from : ℕ) → (place == from) ≡ true → place < from + 1
at_first place from e = grind (arith, nat_tests)

-- one place more, which is the list's or isn't
one_by : {X : Type 0} (place : ℕ) (xs : List X) (from many : ℕ) (b : Bool) → (place == from) ≡ b
    → from ≤ place → place < from + suc many
    → (from + 1 ≤ place → place < (from + 1) + many
    → flat_map (λ l. l) (map (put_at place xs) (range_with_len (from + 1) many)) ≡ xs)
    → (if b then xs else [])
    ++ flat_map (λ l. l) (map (put_at place xs) (range_with_len (from + 1) many)) ≡ xs
one_by place xs from many true e h k later =
    ap (λ w. xs ++ w) (none_behind place xs (from + 1) many (at_first place from e)) ∙ append-nil xs
one_by place xs from many false e h k later =
    later (past_first place from e h) (omega arith)

-- all places together have the list
one_place : {X : Type 0} (place : ℕ) (xs : List X) (from many : ℕ) → from ≤ place
    → place < from + many
    → flat_map (λ l. l) (map (put_at place xs) (range_with_len from many)) ≡ xs
one_place place xs from zero h k = absurd (omega arith)
one_place place xs from (suc many) h k =
    one_by place xs from many (place == from) refl h k (one_place place xs (from + 1) many)

-- a test that is one for all elements keeps all or none
keeps_all : {X : Type 0} (p : X → Bool) (b : Bool) (xs : List X)
    → AllByRecursion (λ x. p x ≡ b) xs → filter p xs ≡ (if b then xs else [])
keeps_all p true xs a = filter_all p xs a
keeps_all p false xs a = filter_none p xs a

-- a term of a field names it
named_term : (by : List SortTerm) (key : ByteList) → has_term by key ≡ true
    → is_named key (map (λ term. term.field) by) ≡ true
named_term [] key e = absurd (cc)
named_term (term ∷ by) key e = go (bytes_eq term.field key) e (named_term by key) where
  go : (b : Bool) → (b || has_term by key) ≡ true
      → (has_term by key ≡ true → is_named key (map (λ t. t.field) by) ≡ true)
      → (b || is_named key (map (λ t. t.field) by)) ≡ true
  go true t later = refl
  go false t later = later t

-- both of two tests
both : (a b : Bool) → a ≡ true → b ≡ true → (a && b) ≡ true
both a b e f = rw (e, f) refl

-- keys of which a sort has terms are among its fields
keys_among : (by : List SortTerm) (keys : List ByteList) → list_all (has_term by) keys ≡ true
    → are_among (map (λ term. term.field) by) keys ≡ true
keys_among by [] e = refl
keys_among by (key ∷ keys) e =
    both (is_named key (map (λ term. term.field) by))
    (are_among (map (λ term. term.field) by) keys)
    (named_term by key (and_first (has_term by key) (list_all (has_term by) keys) e))
    (keys_among by keys (and_second (has_term by key) (list_all (has_term by) keys) e))

module _ (by : List SortTerm) (keys : List ByteList) (parts : ℕ) (some : 0 < parts)
    (held : holds_keys by (Some keys) ≡ true) (docs : List Doc) where
  -- the part of a document
  place_of : Doc → ℕ
  place_of doc = hash_of (key_text doc keys) % parts

  -- what ties with a document is of its part
  tied_part : (index : ℕ) (x d : Doc) → ties (less by) x d ≡ true
      → is_of_part index parts keys d ≡ (place_of x == index)
  unfolding place_of
  tied_part index x d tied =
      sym (same_part index parts keys keys x d
      (grouped_alike (map (λ term. term.field) by) keys x d (keys_among by keys held)
      (same_key-ties (map (λ term. term.field) by) by refl x d ∙ tied)))

  -- so all that ties with it stands in that part, and none in another
  tied_in : (x : Doc) (index : ℕ) → filter (ties (less by) x) (part_of index parts keys docs)
      ≡ put_at (place_of x) (filter (ties (less by) x) docs) index
  tied_in x index =
      filter-swap (ties (less by) x) (is_of_part index parts keys) docs
      ∙ keeps_all (is_of_part index parts keys) (place_of x == index)
      (filter (ties (less by) x) docs)
      (each_weaker (λ d. ties (less by) x d ≡ true)
      (λ d. is_of_part index parts keys d ≡ (place_of x == index))
      (filter (ties (less by) x) docs) (λ d t. tied_part index x d t)
      (each_passes (ties (less by) x) docs))

  -- and in all parts together in its order
  tied_all : (x : Doc) → filter (ties (less by) x) docs
      ≡ filter (ties (less by) x) (flat_map (λ l. l) (all_parts parts keys docs))
  unfolding place_of
  tied_all x =
      let range = range_with_len 0 parts in
      let tied = filter (ties (less by) x) in
      sym
      (filter-flat (ties (less by) x) (all_parts parts keys docs)
      ∙ ap (flat_map (λ l. l))
      (map-twice tied (λ index. part_of index parts keys docs) range
      ∙ map_same (λ index. tied (part_of index parts keys docs)) (put_at (place_of x) (tied docs))
      (tied_in x) range)
      ∙ one_place (place_of x) (tied docs) 0 parts (omega arith)
      (let below = mod_below (hash_of (key_text x keys)) parts some in omega (arith, below)))

  -- so the merge of the parts is the list
  pub merged_whole : IsAscending (less by) docs → merge_list by (all_parts parts keys docs) ≡ docs
  merged_whole a =
      sym (stable_is_ins (less by) (less_is_weak by) (flat_map (λ l. l) (all_parts parts keys docs))
      docs a tied_all)

-- what is so of each value is so of a list of values
each_value : {X Y : Type 0} (P : Y → Type 0) (f : X → Y) → ((x : X) → P (f x)) → (xs : List X)
    → AllByRecursion P (map f xs)
each_value P f h [] = tt
each_value P f h (x ∷ xs) = (h x, each_value P f h xs)

-- each part of a list in order is in order
pub parts_ascend : (by : List SortTerm) (parts : ℕ) (keys : List ByteList) (docs : List Doc)
    → IsAscending (less by) docs
    → AllByRecursion (IsAscending (less by)) (all_parts parts keys docs)
parts_ascend by parts keys docs a =
    each_value (IsAscending (less by)) (λ index. part_of index parts keys docs)
    (λ index. ascends_filter (less by) (is_of_part index parts keys) docs a) (range_with_len 0 parts)
