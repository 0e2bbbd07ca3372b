-- What workers give of their parts.
use Rattle.std.proofs.Common.{◌≡◌, ℕ, zero, suc, ◌+◌, ◌<◌, List, [], ◌∷◌, ◌++◌, length, map, drop, get_or}
use Rattle.std.proofs.Common.{refl, sym, ◌∙◌, ap, subst, arith, append_assoc, Ok, Err, Some}
use Rattle.std.specs.Prelude.{Result, IfOk, slice_index_or}
use Rattle.std.specs.List.{AllByRecursion, range_with_len}
use Rattle.std.proofs.lemmas.List.{at_drop_more, map-append}
use Rattle.std.proofs.lemmas.List.FromFn.{get_or-range_with_len, length-range_with_len}
use Rattle.std.proofs.lemmas.List.FromFn.{map-range_with_len_more}
use Rattle.tuple_values.specs.Document.{ByteList, Doc}
use Rattle.sort_spec.specs.Sorting.{IsAscending}
use Rattle.sort_spec.specs.Terms.{less}
use Rattle.expr_types.specs.Lists.{list_of}
use Rattle.expr_types.specs.Orders.{merge_list}
use Rattle.expr_types.specs.Rules.{Collections}
use Rattle.expr_check.specs.Partitions.{holds_keys}
use Rattle.expr_check.specs.Parts.{PartTree}
use Rattle.expr_check.specs.Views.{tree_of, part_tree}
use Rattle.expr_check.specs.Walk.{keys_of}
use Rattle.expr_check.specs.declared.checked.ParallelPart.{ParallelPart}
use Rattle.expr_check.proofs.AscendLemmas.{length-map}
use Rattle.part_laws.specs.Parted.{all_parts}
use Rattle.part_laws.specs.Splits.{IsSplit}
use Rattle.part_laws.proofs.KeyedLemmas.{where_some}
use Rattle.part_laws.proofs.MergeLemmas.{merged_whole, parts_ascend}
use Rattle.stream_engine.specs.Fed.{lists_split}

module _ {J E : Type 0} (list : J → List Doc) where
  -- a result is the list of the job at a place
  pub record GivesAt (jobs : List J) (at : ℕ) (result : Result (List Doc) E) : Type 0 where
    pub job : J
    pub read : (d : J) → slice_index_or jobs at d ≡ job
    pub gives : IfOk result (λ docs. docs ≡ list job)

  -- one place further on
  later : (first : J) (jobs : List J) (at : ℕ) (result : Result (List Doc) E)
      → GivesAt (first ∷ jobs) (suc at) result → GivesAt jobs at result
  later first jobs at result g = record { job = g.job; read = g.read; gives = g.gives }

  -- where each result is the list of its job, and all are lists, they are the lists of the jobs
  pub all_gave : (jobs : List J) (lists : List (List Doc)) → length lists ≡ length jobs
      → ((at : ℕ) (d : Result (List Doc) E) → at < length jobs
      → GivesAt jobs at (slice_index_or (map Ok lists) at d))
      → lists ≡ map list jobs
  all_gave [] [] e g = refl
  all_gave [] (docs ∷ lists) e g = absurd (omega arith)
  all_gave (job ∷ jobs) [] e g = absurd (omega arith)
  all_gave (job ∷ jobs) (docs ∷ lists) e g =
      let here = g 0 (Ok docs) (omega arith) in
      ap (λ w. w ∷ lists) (here.gives ∙ ap list (sym (here.read job)))
      ∙ ap (λ w. list job ∷ w)
      (all_gave jobs lists (omega arith)
      (λ at d h. later job jobs at (slice_index_or (map Ok lists) at d) (g (suc at) d (omega arith))))

  -- also of results that are these lists
  pub gave_all : (jobs : List J) (lists : List (List Doc)) (results : List (Result (List Doc) E))
      → map Ok lists ≡ results → length results ≡ length jobs
      → ((at : ℕ) (d : Result (List Doc) E) → at < length jobs
      → GivesAt jobs at (slice_index_or results at d))
      → lists ≡ map list jobs
  gave_all jobs lists results are long g =
      let same : length (map Ok lists) ≡ length results =
      ap (λ (r : List (Result (List Doc) E)). length r) are in
      all_gave jobs lists (sym (length-map Ok lists) ∙ same ∙ long)
      (λ at d h. subst (λ (r : List (Result (List Doc) E)). GivesAt jobs at (slice_index_or r at d))
      (sym are) (g at d h))

-- what is so of an answer gives what follows from it
pub ok_follows : {S E : Type 0} (P Q : S → Type 0) → ((s : S) → P s → Q s)
    → (r : Result S E) → IfOk r P → IfOk r Q
ok_follows P Q f (Ok s) h = f s h
ok_follows P Q f (Err e) h = h

-- what stands from a place on is the element there and the rest
pub from_at : {X : Type 0} (xs : List X) (k : ℕ) (x : X) → k < length xs → x ≡ get_or xs k x
    → drop k xs ≡ x ∷ drop (k + 1) xs
from_at xs k x lt is = at_drop_more (λ rest. rest) xs k x lt ∙ ap (λ y. y ∷ drop (k + 1) xs) (sym is)

module _ (p : PartTree) (docs : Collections) (lists : List (List Doc)) (split : IsSplit p)
    (are : (keys : List ByteList) → keys_of p.input ≡ Some keys
    → lists ≡ all_parts p.split.workers keys (list_of docs p.input)) where
  -- the lists of all parts of a parallel's work are in its order
  pub split_ascends : AllByRecursion (IsAscending (less p.split.sort)) lists
  split_ascends =
      where_some (keys_of p.input)
      (λ keys e. subst (AllByRecursion (IsAscending (less p.split.sort))) (sym (are keys e))
      (parts_ascend p.split.sort p.split.workers keys (list_of docs p.input) (split.ascends docs)))
      split.keyed

  -- and their merge is the list of its input
  pub split_merged : merge_list p.split.sort lists ≡ list_of docs p.input
  split_merged =
      where_some (keys_of p.input)
      (λ keys e. ap (merge_list p.split.sort) (are keys e)
      ∙ merged_whole p.split.sort keys p.split.workers split.some
      (ap (holds_keys p.split.sort) (sym e) ∙ split.held) (list_of docs p.input)
      (split.ascends docs)) split.keyed

-- what is made of each element by nothing is the elements
same_map : {X : Type 0} (xs : List X) → map (λ x. x) xs ≡ xs
same_map [] = refl
same_map (x ∷ xs) = ap (λ rest. x ∷ rest) (same_map xs)

-- one part more
part_more : (n : ℕ) → range_with_len 0 (n + 1) ≡ range_with_len 0 n ++ n ∷ []
part_more n =
    sym (same_map (range_with_len 0 (n + 1)))
    ∙ map-range_with_len_more (λ i. i) 0 n n (omega arith)
    ∙ ap (λ w. w ++ n ∷ []) (same_map (range_with_len 0 n))

-- what a place of mapped elements holds
at_map : {X Y : Type 0} (f : X → Y) (xs : List X) (place : ℕ) (x : X)
    → slice_index_or (map f xs) place (f x) ≡ f (slice_index_or xs place x)
at_map f [] place x = refl
at_map f (y ∷ ys) zero x = refl
at_map f (y ∷ ys) (suc place) x = at_map f ys place x

-- what is mapped twice
pub map_twice : {X Y Z : Type 0} (f : X → Y) (g : Y → Z) (xs : List X)
    → map (λ x. g (f x)) xs ≡ map g (map f xs)
map_twice f g [] = refl
map_twice f g (x ∷ xs) = ap (λ rest. g (f x) ∷ rest) (map_twice f g xs)

module _ {J : Type 0} (index : J → ℕ) where
  -- the part of each job among so many workers is below their number
  pub part_below : (workers : ℕ) (jobs : List J) → map index jobs ≡ range_with_len 0 workers
      → (place : ℕ) (job : J) → place < length jobs → job ≡ slice_index_or jobs place job
      → index job < workers
  part_below workers jobs are place job h is =
      let long : length jobs ≡ workers =
      sym (length-map index jobs) ∙ ap (λ (ps : List ℕ). length ps) are
      ∙ length-range_with_len 0 workers in
      let lt : place < workers = omega arith in
      let same : index job ≡ 0 + place =
      ap index is ∙ sym (at_map index jobs place job)
      ∙ ap (λ ps. slice_index_or ps place (index job)) are
      ∙ get_or-range_with_len 0 workers place (index job) lt in omega arith

  -- one job more
  pub job_more : (jobs more : List J) (job : J) → more ≡ jobs ++ job ∷ []
      → map index jobs ≡ range_with_len 0 (index job)
      → map index more ≡ range_with_len 0 (index job + 1)
  job_more jobs more job pushed so_far =
      ap (map index) pushed
      ∙ map-append index jobs (job ∷ [])
      ∙ ap (λ w. w ++ index job ∷ []) so_far
      ∙ sym (part_more (index job))

-- the lists so far and of one parallel more, and of those to come, are all
pub lists_more : (docs : Collections) (parts : List ParallelPart) (k : ℕ) (part : ParallelPart)
    (lists more : List (List Doc)) (list : List Doc) → k < length parts → part ≡ get_or parts k part
    → more ≡ lists ++ list ∷ [] → list ≡ list_of docs (tree_of part.checked)
    → lists ++ lists_split docs (map part_tree (drop k parts))
    ≡ lists_split docs (map part_tree parts)
    → more ++ lists_split docs (map part_tree (drop (k + 1) parts))
    ≡ lists_split docs (map part_tree parts)
lists_more docs parts k part lists more list lt is pushed gives all =
    let rest = lists_split docs (map part_tree (drop (k + 1) parts)) in
    ap (λ w. w ++ rest) pushed
    ∙ append_assoc lists (list ∷ []) rest
    ∙ ap (λ w. lists ++ w ∷ rest) gives
    ∙ ap (λ w. lists ++ lists_split docs (map part_tree w)) (sym (from_at parts k part lt is))
    ∙ all

-- where the work of those from a place on may be split, so may that of the one there and of the
-- rest
pub split_more : (parts : List ParallelPart) (k : ℕ) (part : ParallelPart) → k < length parts
    → part ≡ get_or parts k part → AllByRecursion IsSplit (map part_tree (drop k parts))
    → IsSplit (part_tree part) × AllByRecursion IsSplit (map part_tree (drop (k + 1) parts))
split_more parts k part lt is split =
    subst (λ rest. AllByRecursion IsSplit (map part_tree rest)) (from_at parts k part lt is) split
