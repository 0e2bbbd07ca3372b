-- The merge of lists in order is their sort, one after another.
use Rattle.std.proofs.Common.{◌≡◌, ℕ, zero, suc, ◌<◌, ◌+◌, List, [], ◌∷◌, ◌++◌, length, take, drop}
use Rattle.std.proofs.Common.{Bool, true, false, refl, sym, ◌∙◌, ap, subst, map, filter, append_assoc, arith}
use Rattle.std.specs.Prelude.{slice_index_or, slice_set}
use Rattle.std.specs.Cmp.{IsStrictWeakOrder}
use Rattle.std.specs.List.{AllByRecursion, remove}
use Rattle.std.specs.List.Sorted.{ties}
use Rattle.std.proofs.lemmas.List.{take-append-drop, take_more, map-append, length-map, length-take-le}
use Rattle.std.proofs.lemmas.List.Elements.{filter-append}
use Rattle.sort_spec.specs.Runs.{Parts, whole, joined, AreAscending, IsLeast, IsForemost, rest_before, taken}
use Rattle.sort_spec.specs.Sorting.{ins_sort, IsAscending}
use Rattle.sort_spec.proofs.SortLemmas.{first_least, each_append, each_weaker}
use Rattle.sort_spec.proofs.StableLemmas.{below, ascending_unique, ins_ascends, tie_ins}

-- a whole list, and what is left of it without one element, which is the first of the least
record Splits {X : Type 0} (lt : X → X → Bool) (x : X) (all left : List X) : Type 0 where
  pub before : List X
  pub after : List X
  pub all_is : all ≡ before ++ x ∷ after
  pub left_is : left ≡ before ++ after
  pub above : AllByRecursion (λ y. lt x y ≡ true) before
  pub beside : AllByRecursion (λ y. lt y x ≡ false) after

-- what is read of the first of several, and of one more
map-take_more : {R Y : Type 0} (f : R → Y) (runs : List R) (i : ℕ) (d : R) → i < length runs
    → map f (take (i + 1) runs) ≡ map f (take i runs) ++ f (slice_index_or runs i d) ∷ []
map-take_more f runs i d h =
    ap (map f) (take_more runs i d h)
    ∙ map-append f (take i runs) (slice_index_or runs i d ∷ [])

module _ {X : Type 0} (lt : X → X → Bool) where
  -- the least comes first at its place
  first_at : {R : Type 0} (f : R → Parts X) (runs : List R) (place : ℕ) (d : R) (x : X)
      → IsLeast lt x place (map f runs) → (f (slice_index_or runs place d)).0 ≡ x
  first_at f [] place d x l = absurd l
  first_at f (r ∷ runs) zero d x l = l.0
  first_at f (r ∷ runs) (suc place) d x l = first_at f runs place d x l.1

  -- it stays the least before one more list that doesn't begin below it
  pub least-append : (x : X) (place : ℕ) (lists : List (Parts X)) (m : Parts X)
      → IsLeast lt x place lists → lt m.0 x ≡ false → IsLeast lt x place (lists ++ m ∷ [])
  least-append x place [] m l p = absurd l
  least-append x zero (n ∷ lists) m l p =
      (l.0, each_append (λ k. lt k.0 x ≡ false) lists (m ∷ []) l.1 (p, tt))
  least-append x (suc place) (n ∷ lists) m l p = (l.0, least-append x place lists m l.1 p)

  -- one more that begins below all is the least
  least_last : (m : Parts X) (lists : List (Parts X))
      → AllByRecursion (λ k. lt m.0 k.0 ≡ true) lists
      → IsLeast lt m.0 (length lists) (lists ++ m ∷ [])
  least_last m [] a = (refl, tt)
  least_last m (k ∷ lists) a = (a.0, least_last m lists a.1)

  -- what comes first at the place of the least of the first lists
  pub first_taken : {R : Type 0} (f : R → Parts X) (runs : List R) (i best : ℕ) (e : R)
      → i < length runs → best < i → (x : X) → IsLeast lt x best (map f (take i runs))
      → (f (slice_index_or runs best e)).0 ≡ x
  first_taken f [] i best e h b x l = absurd (omega arith)
  first_taken f (r ∷ runs) zero best e h b x l = absurd (omega arith)
  first_taken f (r ∷ runs) (suc i) zero e h b x l = l.0
  first_taken f (r ∷ runs) (suc i) (suc best) e h b x l =
      first_taken f runs i best e (omega arith) (omega arith) x l.1

  -- the first list alone begins with the least
  pub foremost_one : {R : Type 0} (f : R → Parts X) (runs : List R) → 0 < length runs
      → IsForemost lt 0 (map f (take 1 runs))
  foremost_one f [] h = absurd (omega arith)
  foremost_one f (r ∷ runs) h = ((f r).0, (refl, tt))

  -- the least stays so where what comes first in a list more isn't below it
  pub foremost_stays : {R : Type 0} (f : R → Parts X) (runs : List R) (i best : ℕ) (d e : R)
      → i < length runs → best < i
      → lt (f (slice_index_or runs i d)).0 (f (slice_index_or runs best e)).0 ≡ false
      → IsForemost lt best (map f (take i runs)) → IsForemost lt best (map f (take (i + 1) runs))
  foremost_stays f runs i best d e h b p m =
      let is : (f (slice_index_or runs best e)).0 ≡ m.0 =
      first_taken f runs i best e h b m.0 m.1 in
      rw (map-take_more f runs i d h)
      (m.0, least-append m.0 best (map f (take i runs)) (f (slice_index_or runs i d)) m.1 (rw (← is) p))

-- a fact of each element and of one more holds of each with it at a place
pub each_set : {R : Type 0} (P : R → Type 0) (runs : List R) (place : ℕ) (new : R)
    → AllByRecursion P runs → P new → AllByRecursion P (slice_set runs place new)
each_set P [] place new a p = a
each_set P (r ∷ runs) zero new a p = (p, a.1)
each_set P (r ∷ runs) (suc place) new a p = (a.0, each_set P runs place new a.1 p)

-- and of each without the one at a place
pub each_gone : {R : Type 0} (P : R → Type 0) (runs : List R) (place : ℕ) (new : R)
    → place < length runs → AllByRecursion P runs
    → AllByRecursion P (remove (slice_set runs place new) place)
each_gone P [] place new h a = absurd (omega arith)
each_gone P (r ∷ runs) zero new h a = a.1
each_gone P (r ∷ runs) (suc place) new h a = (a.0, each_gone P runs place new (omega arith) a.1)

-- the lists without what comes first in one of them, by their places
pub taken-set : {R X : Type 0} (f : R → Parts X) (place : ℕ) (runs : List R) (d new : R) (x : X)
    (xs : List X) → place < length runs → (f (slice_index_or runs place d)).1 ≡ x ∷ xs
    → f new ≡ (x, xs) → map f (slice_set runs place new) ≡ taken place (map f runs)
taken-set f place [] d new x xs h e n = absurd (omega arith)
taken-set f zero (r ∷ runs) d new x xs h e n = rw (e, n) refl
taken-set f (suc place) (r ∷ runs) d new x xs h e n =
    ap (λ m. f r ∷ m) (taken-set f place runs d new x xs (omega arith) e n)

pub taken-remove : {R X : Type 0} (f : R → Parts X) (place : ℕ) (runs : List R) (d new : R)
    → place < length runs → (f (slice_index_or runs place d)).1 ≡ []
    → map f (remove (slice_set runs place new) place) ≡ taken place (map f runs)
taken-remove f place [] d new h e = absurd (omega arith)
taken-remove f zero (r ∷ runs) d new h e = rw e refl
taken-remove f (suc place) (r ∷ runs) d new h e =
    ap (λ m. f r ∷ m) (taken-remove f place runs d new (omega arith) e)

module _ {X : Type 0} (lt : X → X → Bool) where
  -- what is left of a list in order is in order
  rest_ascends : (xs : List X) (lists : List (Parts X)) → IsAscending lt xs
      → AreAscending lt lists → AreAscending lt (rest_before xs lists)
  rest_ascends [] lists a b = b
  rest_ascends (x ∷ xs) lists a b = (a, b)

  pub taken_ascends : (place : ℕ) (lists : List (Parts X)) → AreAscending lt lists
      → AreAscending lt (taken place lists)
  taken_ascends place [] a = a
  taken_ascends zero (l ∷ lists) a = rest_ascends l.1 lists a.0.1 a.1
  taken_ascends (suc place) (l ∷ lists) a = (a.0, taken_ascends place lists a.1)

-- what is left of a list before others, one after another
rest_joined : {X : Type 0} (xs : List X) (lists : List (Parts X))
    → joined (rest_before xs lists) ≡ xs ++ joined lists
rest_joined [] lists = refl
rest_joined (x ∷ xs) lists = refl

module _ {X : Type 0} (lt : X → X → Bool) (o : IsStrictWeakOrder lt) where
  -- what is below the least is below all that come first
  least_above : (y x : X) (place : ℕ) (lists : List (Parts X)) → lt y x ≡ true
      → IsLeast lt x place lists → AllByRecursion (λ k. lt y k.0 ≡ true) lists
  least_above y x place [] e l = absurd l
  least_above y x zero (m ∷ lists) e l = (
    let same = l.0 in rw same e,
    each_weaker (λ k. lt k.0 x ≡ false) (λ k. lt y k.0 ≡ true) lists
        (λ k p. below lt o y x k.0 e p) l.1,
  )
  least_above y x (suc place) (m ∷ lists) e l =
      (below lt o y x m.0 e (o.one_way x m.0 l.0), least_above y x place lists e l.1)

  -- so a list more that begins below the least is the least
  pub least_new : (m : Parts X) (x : X) (place : ℕ) (lists : List (Parts X)) → lt m.0 x ≡ true
      → IsLeast lt x place lists → IsLeast lt m.0 (length lists) (lists ++ m ∷ [])
  least_new m x place lists e l = least_last lt m lists (least_above m.0 x place lists e l)

  -- what comes first in a list more is the least where it is below the least
  pub foremost_new : {R : Type 0} (f : R → Parts X) (runs : List R) (i best : ℕ) (d e : R)
      → i < length runs → best < i
      → lt (f (slice_index_or runs i d)).0 (f (slice_index_or runs best e)).0 ≡ true
      → IsForemost lt best (map f (take i runs)) → IsForemost lt i (map f (take (i + 1) runs))
  foremost_new f runs i best d e h b p m =
      let before = map f (take i runs) in
      let new = f (slice_index_or runs i d) in
      let is : (f (slice_index_or runs best e)).0 ≡ m.0 =
      first_taken lt f runs i best e h b m.0 m.1 in
      let size : length before ≡ i = length-map (take i runs) f ∙ length-take-le i runs (omega arith) in
      rw (map-take_more f runs i d h) (
        new.0,
        subst (λ (n : ℕ). IsLeast lt new.0 n (before ++ new ∷ [])) size
            (least_new new m.0 best before (rw (← is) p) m.1),
      )

  -- nothing in lists is below what isn't above what comes first in them
  beside_all : (x : X) (lists : List (Parts X)) → AllByRecursion (λ k. lt k.0 x ≡ false) lists
      → AreAscending lt lists → AllByRecursion (λ y. lt y x ≡ false) (joined lists)
  beside_all x [] b a = tt
  beside_all x (l ∷ lists) b a =
      each_append (λ y. lt y x ≡ false) (whole l) (joined lists) (
        b.0,
        each_weaker (λ y. lt y l.0 ≡ false) (λ y. lt y x ≡ false) l.1
            (λ y p. o.chain y l.0 x p b.0) a.0.0,
      )
      (beside_all x lists b.1 a.1)

  -- the least splits the lists, one after another
  splits : (x : X) (place : ℕ) (lists : List (Parts X)) → IsLeast lt x place lists
      → AreAscending lt lists → Splits lt x (joined lists) (joined (taken place lists))
  splits x place [] l a = absurd l
  splits x zero (m ∷ lists) l a = record {
    before = [];
    after = m.1 ++ joined lists;
    all_is = ap (λ w. w ∷ (m.1 ++ joined lists)) l.0;
    left_is = rest_joined m.1 lists;
    above = tt;
    beside =
        each_append (λ y. lt y x ≡ false) m.1 (joined lists)
        (subst (λ w. AllByRecursion (λ y. lt y w ≡ false) m.1) l.0 a.0.0)
        (beside_all x lists l.1 a.1);
  }
  splits x (suc place) (m ∷ lists) l a =
      let s = splits x place lists l.1 a.1 in
      record {
        before = whole m ++ s.before;
        after = s.after;
        all_is =
            ap (λ w. whole m ++ w) s.all_is ∙ sym (append_assoc (whole m) s.before (x ∷ s.after));
        left_is =
            ap (λ w. whole m ++ w) s.left_is ∙ sym (append_assoc (whole m) s.before s.after);
        above =
            each_append (λ y. lt x y ≡ true) (whole m) s.before (
              l.0,
              each_weaker (λ y. lt y m.0 ≡ false) (λ y. lt x y ≡ true) m.1
                  (λ y p. below lt o x m.0 y l.0 p) a.0.0,
            )
            s.above;
        beside = s.beside;
      }

  -- so it comes off the front of their sort
  pub taken_least : (x : X) (place : ℕ) (lists : List (Parts X)) → IsLeast lt x place lists
      → AreAscending lt lists
      → ins_sort lt (joined lists) ≡ x ∷ ins_sort lt (joined (taken place lists))
  taken_least x place lists l a =
      let s = splits x place lists l a in
      ap (λ w. ins_sort lt w) s.all_is
      ∙ first_least lt s.before x s.after s.above s.beside
      ∙ ap (λ w. x ∷ ins_sort lt w) (sym s.left_is)

  -- so too where the lists are those of runs
  pub taken_out : {R : Type 0} (f : R → Parts X) (runs after : List R) (place : ℕ) (run : R)
      → IsForemost lt place (map f runs) → AreAscending lt (map f runs)
      → run ≡ slice_index_or runs place run → map f after ≡ taken place (map f runs)
      → ins_sort lt (joined (map f runs)) ≡ (f run).0 ∷ ins_sort lt (joined (map f after))
  taken_out f runs after place run m a is left =
      let first : (f run).0 ≡ m.0 =
      ap (λ r. (f r).0) is ∙ first_at lt f runs place run m.0 m.1 in
      taken_least m.0 place (map f runs) m.1 a
      ∙ (λ j. sym first j ∷ ins_sort lt (joined (sym left j)))

  -- a part of a list can be sorted before the whole is
  pub part_sorted : (xs ys zs : List X)
      → ins_sort lt (xs ++ (ins_sort lt ys ++ zs)) ≡ ins_sort lt (xs ++ (ys ++ zs))
  part_sorted xs ys zs =
      ascending_unique lt o (ins_sort lt (xs ++ (ins_sort lt ys ++ zs)))
      (ins_sort lt (xs ++ (ys ++ zs))) (ins_ascends lt o [] (xs ++ (ins_sort lt ys ++ zs)) tt)
      (ins_ascends lt o [] (xs ++ (ys ++ zs)) tt)
      (λ z. let p = ties lt z in
      tie_ins lt o z [] (xs ++ (ins_sort lt ys ++ zs)) tt
      ∙ filter-append p xs (ins_sort lt ys ++ zs)
      ∙ ap (λ w. filter p xs ++ w)
      (filter-append p (ins_sort lt ys) zs
      ∙ ap (λ w. w ++ filter p zs) (tie_ins lt o z [] ys tt)
      ∙ sym (filter-append p ys zs))
      ∙ sym (filter-append p xs (ys ++ zs))
      ∙ sym (tie_ins lt o z [] (xs ++ (ys ++ zs)) tt))

  -- so too its end, which is cut off
  pub end_sorted : {R : Type 0} (f : R → X) (at : ℕ) (items : List R) (zs : List X)
      → ins_sort lt (map f (take at items) ++ (ins_sort lt (map f (drop at items)) ++ zs))
      ≡ ins_sort lt (map f items ++ zs)
  end_sorted f at items zs =
      let front = map f (take at items) in
      let end = map f (drop at items) in
      part_sorted front end zs
      ∙ ap (ins_sort lt) (sym (append_assoc front end zs)
      ∙ ap (λ w. w ++ zs)
      (sym (map-append f (take at items) (drop at items)) ∙ ap (map f) (take-append-drop at items)))
