-- A stable sort by an order is a sort by insertion.
use Rattle.std.proofs.Common.{◌≡◌, ℕ, suc, ◌<◌, ◌≤◌, List, [], ◌∷◌, ◌++◌, length, get_or, filter}
use Rattle.std.proofs.Common.{Bool, true, false, not, ◌&&◌, if◌then◌else◌, refl, sym, ◌∙◌, ap}
use Rattle.std.proofs.Common.{append_assoc, arith}
use Rattle.std.specs.Cmp.{IsStrictWeakOrder}
use Rattle.std.specs.List.{AllByRecursion}
use Rattle.std.specs.List.Sorted.{ties, IsStableBy, IsSortedBy}
use Rattle.std.proofs.lemmas.List.{append-nil}
use Rattle.std.proofs.lemmas.List.Elements.{filter-append}
use Rattle.std.proofs.lemmas.List.Sorted.{sorted_far}
use Rattle.sort_spec.specs.Sorting.{insert, ins_from, ins_sort, IsAscending}
use Rattle.sort_spec.proofs.SortLemmas.{each_weaker, insert_each}

-- nothing passes where each element fails
pub filter_none : {X : Type 0} (p : X → Bool) (ws : List X)
    → AllByRecursion (λ w. p w ≡ false) ws → filter p ws ≡ []
filter_none p [] a = refl
filter_none p (w ∷ ws) a = let e = a.0 in rw e (filter_none p ws a.1)

-- a first element that passes is the first that is kept
pub filter_first : {X : Type 0} (p : X → Bool) (x : X) (xs : List X) → p x ≡ true
    → filter p (x ∷ xs) ≡ x ∷ filter p xs
filter_first p x xs e = rw e

-- lists of which the same is kept keep the same without a first element that they share
filter_tail_by : {X : Type 0} (b : Bool) (x : X) (l m : List X)
    → (if b then x ∷ l else l) ≡ (if b then x ∷ m else m) → l ≡ m
filter_tail_by true x l m e = cc
filter_tail_by false x l m e = e

-- also where the test decides
pub filter_tail : {X : Type 0} (p : X → Bool) (x : X) (xs ys : List X)
    → filter p (x ∷ xs) ≡ filter p (x ∷ ys) → filter p xs ≡ filter p ys
filter_tail p x xs ys e = filter_tail_by (p x) x (filter p xs) (filter p ys) e

-- a first element that may be kept, before what is kept of a longer list
filter_first_same : {X : Type 0} (p : X → Bool) (y : X) (zs ys xs : List X) (b : Bool)
    → filter p zs ≡ filter p ys ++ xs
    → (if b then y ∷ filter p zs else filter p zs)
    ≡ (if b then y ∷ filter p ys else filter p ys) ++ xs
filter_first_same p y zs ys xs true e = ap (λ w. y ∷ w) e
filter_first_same p y zs ys xs false e = e

-- an element that may be kept stands behind nothing as it stands before it
filter_front : {X : Type 0} (x : X) (l : List X) (c : Bool) → (c ≡ true → l ≡ [])
    → (if c then x ∷ l else l) ≡ l ++ (if c then x ∷ [] else [])
filter_front x l true h = let e = h refl in rw e
filter_front x l false h = sym (append-nil l)

-- the second half of a tie
tie_right : (b c : Bool) → (not b && not c) ≡ true → c ≡ false
tie_right true c e = absurd (cc)
tie_right false true e = absurd (cc)
tie_right false false e = refl

-- neither is below the other: they tie
pub tie_of : {X : Type 0} (lt : X → X → Bool) (t u : X) → lt t u ≡ false → lt u t ≡ false
    → ties lt t u ≡ true
tie_of lt t u e f = rw (e, f)

module _ {X : Type 0} (lt : X → X → Bool) (o : IsStrictWeakOrder lt) where
  -- what is below u is below what u isn't above
  below_by : (t u y : X) (b : Bool) → lt t y ≡ b → lt t u ≡ true → lt y u ≡ false
      → lt t y ≡ true
  below_by t u y true e p q = e
  below_by t u y false e p q = let f = o.chain t y u e q in absurd (cc)

  -- also where the test decides
  pub below : (t u y : X) → lt t u ≡ true → lt y u ≡ false → lt t y ≡ true
  below t u y p q = below_by t u y (lt t y) refl p q

  -- an element isn't below itself, and ties with itself
  not_below_itself_by : (t : X) (b : Bool) → lt t t ≡ b → lt t t ≡ false
  not_below_itself_by t true e = o.one_way t t e
  not_below_itself_by t false e = e

  -- so it never is
  pub not_below_itself : (t : X) → lt t t ≡ false
  not_below_itself t = not_below_itself_by t (lt t t) refl

  -- it ties with itself
  pub tie_itself : (t : X) → ties lt t t ≡ true
  tie_itself t = tie_of lt t t (not_below_itself t) (not_below_itself t)

  -- inserting keeps the order
  insert_ascends_by : (x y : X) (ys : List X) (b : Bool) → lt x y ≡ b
      → AllByRecursion (λ w. lt w y ≡ false) ys → IsAscending lt ys
      → IsAscending lt (insert lt x ys)
      → IsAscending lt (if b then x ∷ y ∷ ys else (y ∷ insert lt x ys))
  insert_ascends_by x y ys true e a s i =
      let above : lt y x ≡ false = o.one_way x y e in
      let later =
      each_weaker (λ w. lt w y ≡ false) (λ w. lt w x ≡ false) ys
      (λ w h. o.chain w y x h above) a in ((above, later), (a, s))
  insert_ascends_by x y ys false e a s i =
      (insert_each (λ w. lt w y ≡ false) lt x ys e a, i)

  -- for all lists in order
  pub insert_ascends : (x : X) (ys : List X) → IsAscending lt ys
      → IsAscending lt (insert lt x ys)
  insert_ascends x [] a = (tt, tt)
  insert_ascends x (y ∷ ys) a =
      insert_ascends_by x y ys (lt x y) refl a.0 a.1 (insert_ascends x ys a.1)

  -- a sort is in order
  pub ins_ascends : (done xs : List X) → IsAscending lt done
      → IsAscending lt (ins_from lt done xs)
  ins_ascends done [] a = a
  ins_ascends done (x ∷ xs) a = ins_ascends (insert lt x done) xs (insert_ascends x done a)

  -- what x is below doesn't tie with what x isn't below
  no_tie_by : (x z w : X) (b c : Bool) → lt z w ≡ b → lt x w ≡ true → lt x z ≡ false
      → (not b && c) ≡ false
  no_tie_by x z w true c e p q = refl
  no_tie_by x z w false c e p q = let f = o.chain x z w q e in absurd (cc)

  -- also where the test decides
  pub no_tie : (x z w : X) → lt x w ≡ true → lt x z ≡ false → ties lt z w ≡ false
  no_tie x z w p q = no_tie_by x z w (lt z w) (not (lt w z)) refl p q

  -- nor does anything from the first element on that x is below
  pub none_tie : (x z y : X) (ys : List X) → lt x y ≡ true
      → AllByRecursion (λ w. lt w y ≡ false) ys → lt x z ≡ false
      → filter (ties lt z) (y ∷ ys) ≡ []
  none_tie x z y ys p a q =
      let later =
      each_weaker (λ w. lt w y ≡ false) (λ w. ties lt z w ≡ false) ys
      (λ w h. no_tie x z w (below x y w p h) q) a in
      filter_none (ties lt z) (y ∷ ys) (no_tie x z y p q, later)

  -- an element goes behind all that tie with it
  tie_insert_by : (z x y : X) (ys : List X) (b : Bool) → lt x y ≡ b
      → AllByRecursion (λ w. lt w y ≡ false) ys
      → filter (ties lt z) (insert lt x ys)
      ≡ filter (ties lt z) ys ++ filter (ties lt z) (x ∷ [])
      → filter (ties lt z) (if b then x ∷ y ∷ ys else (y ∷ insert lt x ys))
      ≡ filter (ties lt z) (y ∷ ys) ++ filter (ties lt z) (x ∷ [])
  tie_insert_by z x y ys true e a ih =
      filter_front x (filter (ties lt z) (y ∷ ys)) (ties lt z x)
      (λ t. none_tie x z y ys e a (tie_right (lt z x) (lt x z) t))
  tie_insert_by z x y ys false e a ih =
      filter_first_same (ties lt z) y (insert lt x ys) ys (filter (ties lt z) (x ∷ []))
      (ties lt z y) ih

  -- for all lists in order
  pub tie_insert : (z x : X) (ys : List X) → IsAscending lt ys
      → filter (ties lt z) (insert lt x ys)
      ≡ filter (ties lt z) ys ++ filter (ties lt z) (x ∷ [])
  tie_insert z x [] a = refl
  tie_insert z x (y ∷ ys) a = tie_insert_by z x y ys (lt x y) refl a.0 (tie_insert z x ys a.1)

  -- insertion keeps the order of what ties
  pub tie_ins : (z : X) (done xs : List X) → IsAscending lt done
      → filter (ties lt z) (ins_from lt done xs)
      ≡ filter (ties lt z) done ++ filter (ties lt z) xs
  tie_ins z done [] a = sym (append-nil (filter (ties lt z) done))
  tie_ins z done (x ∷ xs) a =
      let kept = filter (ties lt z) in
      tie_ins z (insert lt x done) xs (insert_ascends x done a)
      ∙ ap (λ w. w ++ kept xs) (tie_insert z x done a)
      ∙ append_assoc (kept done) (kept (x ∷ [])) (kept xs)
      ∙ ap (λ w. kept done ++ w) (sym (filter-append (ties lt z) (x ∷ []) xs))

  -- the head of one isn't below that of the other, where they have the same ties
  head_not_below_by : (y z : X) (ys zs : List X) (b : Bool) → lt y z ≡ b
      → AllByRecursion (λ w. lt w z ≡ false) zs
      → filter (ties lt y) (y ∷ ys) ≡ filter (ties lt y) (z ∷ zs) → lt y z ≡ false
  head_not_below_by y z ys zs false e a f = e
  head_not_below_by y z ys zs true e a f =
      let none = none_tie y y z zs e a (not_below_itself y) in
      let one = filter_first (ties lt y) y ys (tie_itself y) in absurd (cc)

  -- also where the test decides
  head_not_below : (y z : X) (ys zs : List X) → AllByRecursion (λ w. lt w z ≡ false) zs
      → filter (ties lt y) (y ∷ ys) ≡ filter (ties lt y) (z ∷ zs) → lt y z ≡ false
  head_not_below y z ys zs a f = head_not_below_by y z ys zs (lt y z) refl a f

  -- two lists in order, with the same ties in the same order, are one
  pub ascending_unique : (ys zs : List X) → IsAscending lt ys → IsAscending lt zs
      → ((x : X) → filter (ties lt x) ys ≡ filter (ties lt x) zs) → ys ≡ zs
  ascending_unique [] [] a b f = refl
  ascending_unique [] (z ∷ zs) a b f =
      let e = f z in
      let one = filter_first (ties lt z) z zs (tie_itself z) in absurd (cc)
  ascending_unique (y ∷ ys) [] a b f =
      let e = f y in
      let one = filter_first (ties lt y) y ys (tie_itself y) in absurd (cc)
  ascending_unique (y ∷ ys) (z ∷ zs) a b f =
      let yz = head_not_below y z ys zs b.0 (f y) in
      let zy = head_not_below z y zs ys a.0 (sym (f z)) in
      let mine = filter_first (ties lt y) y ys (tie_itself y) in
      let other = filter_first (ties lt y) z zs (tie_of lt y z yz zy) in
      let e = f y in
      let same : y ≡ z = cc in
      let rest =
      ascending_unique ys zs a.1 b.1
      (λ x. filter_tail (ties lt x) y ys zs
      (f x ∙ ap (λ w. filter (ties lt x) (w ∷ zs)) (sym same))) in cc

  -- a list in order with the ties of xs is xs sorted by insertion
  pub stable_is_ins : (xs ys : List X) → IsAscending lt ys → IsStableBy lt xs ys
      → ys ≡ ins_sort lt xs
  stable_is_ins xs ys a s =
      ascending_unique ys (ins_sort lt xs) a (ins_ascends [] xs tt)
      (λ x. s x ∙ sym (tie_ins x [] xs tt))

-- what holds at each place holds of each element
pub each_from_index : {X : Type 0} (P : X → Type 0) (xs : List X)
    → ((j : ℕ) (d : X) → j < length xs → P (get_or xs j d)) → AllByRecursion P xs
each_from_index P [] f = tt
each_from_index P (x ∷ xs) f =
    (f 0 x (omega arith), each_from_index P xs (λ j d h. f (suc j) d (omega arith)))

-- no element at a place is above one at a later place: the list is in order
ascending_from_places : {X : Type 0} (lt : X → X → Bool) (xs : List X)
    → ((i j : ℕ) (d : X) → i ≤ j → j < length xs → lt (get_or xs j d) (get_or xs i d) ≡ false)
    → IsAscending lt xs
ascending_from_places lt [] f = tt
ascending_from_places lt (x ∷ xs) f = (
  each_from_index (λ y. lt y x ≡ false) xs (λ j d h. f 0 (suc j) d (omega arith) (omega arith)),
  ascending_from_places lt xs (λ i j d h k. f (suc i) (suc j) d (omega arith) (omega arith)),
)

module _ {X : Type 0} (lt : X → X → Bool) (o : IsStrictWeakOrder lt) where
  -- a list that std's sort gives is in order
  pub ascending_from_sorted : (xs : List X) → IsSortedBy lt xs → IsAscending lt xs
  ascending_from_sorted xs s = ascending_from_places lt xs (sorted_far lt o xs s)

  -- a list that a stable sort made of xs is xs sorted by insertion
  pub stable_sort : (xs ys : List X) → IsSortedBy lt ys → IsStableBy lt xs ys
      → ys ≡ ins_sort lt xs
  stable_sort xs ys s t = stable_is_ins lt o xs ys (ascending_from_sorted ys s) t
