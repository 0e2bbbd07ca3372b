-- In a list in order the runs are the groups.
use Rattle.std.proofs.Common.{◌≡◌, ℕ, zero, suc, ◌≤◌, List, [], ◌∷◌, ◌++◌, length}
use Rattle.std.proofs.Common.{Bool, true, false}
use Rattle.std.proofs.Common.{not, ◌&&◌, filter, if◌then◌else◌, Some, None, refl, sym, ◌∙◌}
use Rattle.std.proofs.Common.{ap, arith, append_assoc}
use Rattle.std.specs.Cmp.{IsStrictWeakOrder}
use Rattle.std.specs.List.{AllByRecursion}
use Rattle.std.specs.List.Sorted.{ties}
use Rattle.std.proofs.lemmas.List.{append-nil}
use Rattle.sort_spec.specs.Sorting.{IsAscending}
use Rattle.sort_spec.proofs.SortLemmas.{each_weaker}
use Rattle.sort_spec.proofs.StableLemmas.{below, tie_itself, filter_none}
use Rattle.expr_types.specs.Groups.{firsts, groups}
use Rattle.expr_types.proofs.GroupLemmas.{firsts-cons, groups-cons}
use Rattle.group_kernels.specs.Runs.{heads, spans}

-- the halves of a tie
tie_left : (b c : Bool) → (not b && not c) ≡ true → b ≡ false
tie_left true c e = absurd (cc)
tie_left false c e = refl

tie_right : (b c : Bool) → (not b && not c) ≡ true → c ≡ false
tie_right true c e = absurd (cc)
tie_right false true e = absurd (cc)
tie_right false false e = refl

-- what doesn't tie and isn't below is above
untied_above : (b c : Bool) → (not b && not c) ≡ false → c ≡ false → b ≡ true
untied_above true c e f = refl
untied_above false true e f = absurd (cc)
untied_above false false e f = absurd (cc)

-- what is above doesn't tie
above_untied : (b c : Bool) → b ≡ true → (not b && not c) ≡ false
above_untied true c e = refl
above_untied false c e = absurd (cc)

-- all pass
filter_all : {X : Type 0} (p : X → Bool) (xs : List X) → AllByRecursion (λ x. p x ≡ true) xs
    → filter p xs ≡ xs
filter_all p [] a = refl
filter_all p (x ∷ xs) a = let e = a.0 in rw e (ap (λ w. x ∷ w) (filter_all p xs a.1))

-- no more elements are kept than there are
length_keep : {X : Type 0} (b : Bool) (x : X) (ys : List X) (n : ℕ) → length ys ≤ n
    → length (if b then x ∷ ys else ys) ≤ suc n
length_keep true x ys n h = omega arith
length_keep false x ys n h = omega arith

length-filter : {X : Type 0} (p : X → Bool) (xs : List X) → length (filter p xs) ≤ length xs
length-filter p [] = omega arith
length-filter p (x ∷ xs) =
    length_keep (p x) x (filter p xs) (length xs) (length-filter p xs)

-- a fact of each element is one of each that is kept
each_keep : {X : Type 0} (P : X → Type 0) (b : Bool) (x : X) (ys : List X) → P x
    → AllByRecursion P ys → AllByRecursion P (if b then x ∷ ys else ys)
each_keep P true x ys p a = (p, a)
each_keep P false x ys p a = a

each_filter : {X : Type 0} (P : X → Type 0) (p : X → Bool) (xs : List X) → AllByRecursion P xs
    → AllByRecursion P (filter p xs)
each_filter P p [] a = tt
each_filter P p (x ∷ xs) a = each_keep P (p x) x (filter p xs) a.0 (each_filter P p xs a.1)

module _ {X : Type 0} (lt : X → X → Bool) where
  -- what is kept of a list in order is in order
  ascends_keep : (b : Bool) (x : X) (ys : List X) → AllByRecursion (λ y. lt y x ≡ false) ys
      → IsAscending lt ys → IsAscending lt (if b then x ∷ ys else ys)
  ascends_keep true x ys a i = (a, i)
  ascends_keep false x ys a i = i

  -- for each test
  pub filter_ascends : (p : X → Bool) (xs : List X) → IsAscending lt xs
      → IsAscending lt (filter p xs)
  filter_ascends p [] a = tt
  filter_ascends p (x ∷ xs) a =
      ascends_keep (p x) x (filter p xs)
      (each_filter (λ y. lt y x ≡ false) p xs a.0) (filter_ascends p xs a.1)

module _ {X : Type 0} (lt : X → X → Bool) (o : IsStrictWeakOrder lt)
    (same : X → X → Bool) (tied : (x y : X) → same x y ≡ ties lt x y) where
  -- what is another than x
  abbrev other : X → X → Bool
  other x z = not (same x z)

  -- an element is like itself
  itself : (x : X) → same x x ≡ true
  itself x = tied x x ∙ tie_itself lt o x

  -- elements that tie come before the same
  less_alike : (x y z : X) (b c : Bool) → lt x z ≡ b → lt y z ≡ c
      → lt x y ≡ false → lt y x ≡ false → b ≡ c
  less_alike x y z true true e f p q = refl
  less_alike x y z false false e f p q = refl
  less_alike x y z true false e f p q = let h = o.chain x y z p f in cc
  less_alike x y z false true e f p q = let h = o.chain y x z q e in cc

  -- and after the same
  more_alike : (x y z : X) (b c : Bool) → lt z x ≡ b → lt z y ≡ c
      → lt x y ≡ false → lt y x ≡ false → b ≡ c
  more_alike x y z true true e f p q = refl
  more_alike x y z false false e f p q = refl
  more_alike x y z true false e f p q = let h = o.chain z y x f q in cc
  more_alike x y z false true e f p q = let h = o.chain z x y e p in cc

  -- so elements that are alike are like the same
  alike : (x y z : X) → same x y ≡ true → same x z ≡ same y z
  alike x y z e =
      let t = sym (tied x y) ∙ e in
      let p = tie_left (lt x y) (lt y x) t in
      let q = tie_right (lt x y) (lt y x) t in
      tied x z
      ∙ ap (λ b. not b && not (lt z x)) (less_alike x y z (lt x z) (lt y z) refl refl p q)
      ∙ ap (λ b. not (lt y z) && not b) (more_alike x y z (lt z x) (lt z y) refl refl p q)
      ∙ sym (tied y z)

  -- from an element on that is above x nothing is like x
  none_alike : (x y : X) (ys : List X) → lt x y ≡ true → AllByRecursion (λ w. lt w y ≡ false) ys
      → AllByRecursion (λ w. same x w ≡ false) (y ∷ ys)
  none_alike x y ys e a = (
    tied x y ∙ above_untied (lt x y) (lt y x) e,
    each_weaker (λ w. lt w y ≡ false) (λ w. same x w ≡ false) ys
        (λ w f. tied x w ∙ above_untied (lt x w) (lt w x) (below lt o x y w e f)) a,
  )

  -- so none of it is x's kind
  none_kept : (x y : X) (ys : List X) → lt x y ≡ true → AllByRecursion (λ w. lt w y ≡ false) ys
      → filter (same x) (y ∷ ys) ≡ []
  none_kept x y ys e a = filter_none (same x) (y ∷ ys) (none_alike x y ys e a)

  -- and all of it is other
  all_kept : (x y : X) (ys : List X) → lt x y ≡ true → AllByRecursion (λ w. lt w y ≡ false) ys
      → filter (other x) (y ∷ ys) ≡ y ∷ ys
  all_kept x y ys e a =
      filter_all (other x) (y ∷ ys)
      (each_weaker (λ w. same x w ≡ false) (λ w. other x w ≡ true) (y ∷ ys)
      (λ w f. ap not f) (none_alike x y ys e a))

  -- an element that isn't like x and not below it is above it
  above : (x y : X) → same x y ≡ false → lt y x ≡ false → lt x y ≡ true
  above x y e f = untied_above (lt x y) (lt y x) (sym (tied x y) ∙ e) f

  -- the first of a run, and then the runs of what is left without its kind
  heads_by : (x y : X) (ys : List X) (b : Bool) → same x y ≡ b → IsAscending lt (x ∷ y ∷ ys)
      → heads same (Some x) ys ≡ x ∷ heads same None (filter (other x) ys)
      → (if b then heads same (Some x) ys else (x ∷ heads same (Some y) ys))
      ≡ x ∷ heads same None (filter (other x) (y ∷ ys))
  heads_by x y ys true e a ih =
      let n : other x y ≡ false = rw e refl in
      let d : filter (other x) (y ∷ ys) ≡ filter (other x) ys = rw n refl in
      ih ∙ ap (λ w. x ∷ heads same None w) (sym d)
  heads_by x y ys false e a ih =
      ap (λ w. x ∷ heads same None w) (sym (all_kept x y ys (above x y e a.0.0) a.1.0))

  pub heads-some : (x : X) (xs : List X) → IsAscending lt (x ∷ xs)
      → heads same (Some x) xs ≡ x ∷ heads same None (filter (other x) xs)
  heads-some x [] a = refl
  heads-some x (y ∷ ys) a =
      heads_by x y ys (same x y) refl a (heads-some x ys (a.0.1, a.1.1))

  -- a run with all of its kind, and then the runs of what is left without it
  spans_by : (x y : X) (run ys : List X) (b : Bool) → same x y ≡ b → IsAscending lt (x ∷ y ∷ ys)
      → spans same (x ∷ run ++ y ∷ []) ys
      ≡ ((x ∷ run ++ y ∷ []) ++ filter (same x) ys) ∷ spans same [] (filter (other x) ys)
      → (if b then spans same (x ∷ run ++ y ∷ []) ys else ((x ∷ run) ∷ spans same (y ∷ []) ys))
      ≡ ((x ∷ run) ++ filter (same x) (y ∷ ys)) ∷ spans same [] (filter (other x) (y ∷ ys))
  spans_by x y run ys true e a ih =
      let n : other x y ≡ false = rw e refl in
      let d : filter (other x) (y ∷ ys) ≡ filter (other x) ys = rw n refl in
      let k : filter (same x) (y ∷ ys) ≡ y ∷ filter (same x) ys = rw e refl in
      ih
      ∙ ap (λ w. (x ∷ w) ∷ spans same [] (filter (other x) ys))
      (append_assoc run (y ∷ []) (filter (same x) ys))
      ∙ ap (λ w. (x ∷ run ++ w) ∷ spans same [] (filter (other x) ys)) (sym k)
      ∙ ap (λ w. ((x ∷ run) ++ filter (same x) (y ∷ ys)) ∷ spans same [] w) (sym d)
  spans_by x y run ys false e a ih =
      let up = above x y e a.0.0 in
      ap (λ w. w ∷ spans same (y ∷ []) ys) (sym (append-nil (x ∷ run)))
      ∙ ap (λ w. ((x ∷ run) ++ w) ∷ spans same (y ∷ []) ys) (sym (none_kept x y ys up a.1.0))
      ∙ ap (λ w. ((x ∷ run) ++ filter (same x) (y ∷ ys)) ∷ spans same [] w)
      (sym (all_kept x y ys up a.1.0))

  pub spans-run : (x : X) (run xs : List X) → IsAscending lt (x ∷ xs)
      → spans same (x ∷ run) xs
      ≡ ((x ∷ run) ++ filter (same x) xs) ∷ spans same [] (filter (other x) xs)
  spans-run x run [] a = ap (λ w. w ∷ []) (sym (append-nil (x ∷ run)))
  spans-run x run (y ∷ ys) a =
      spans_by x y run ys (same x y) refl a
      (spans-run x (run ++ y ∷ []) ys (a.0.1, a.1.1))

  -- the first of each run is the first of each kind
  heads_within : (n : ℕ) (xs : List X) → length xs ≤ n → IsAscending lt xs
      → heads same None xs ≡ firsts same xs
  heads_within n [] h a = refl
  heads_within zero (x ∷ xs) h a = absurd (omega arith)
  heads_within (suc n) (x ∷ xs) h a =
      let fewer = length-filter (other x) xs in
      heads-some x xs a
      ∙ ap (λ w. x ∷ w)
      (heads_within n (filter (other x) xs) (omega arith) (filter_ascends lt (other x) xs a.1))
      ∙ sym (firsts-cons same itself alike x xs)

  pub heads-firsts : (xs : List X) → IsAscending lt xs → heads same None xs ≡ firsts same xs
  heads-firsts xs a = heads_within (length xs) xs (omega arith) a

  -- the runs are the groups
  spans_within : (n : ℕ) (xs : List X) → length xs ≤ n → IsAscending lt xs
      → spans same [] xs ≡ groups same xs
  spans_within n [] h a = refl
  spans_within zero (x ∷ xs) h a = absurd (omega arith)
  spans_within (suc n) (x ∷ xs) h a =
      let fewer = length-filter (other x) xs in
      spans-run x [] xs a
      ∙ ap (λ w. (x ∷ filter (same x) xs) ∷ w)
      (spans_within n (filter (other x) xs) (omega arith) (filter_ascends lt (other x) xs a.1))
      ∙ sym (groups-cons same itself alike x xs)

  pub spans-groups : (xs : List X) → IsAscending lt xs → spans same [] xs ≡ groups same xs
  spans-groups xs a = spans_within (length xs) xs (omega arith) a
