-- What is so of all pairs of two lists: a fact of each, and their order.
use Rattle.std.proofs.Common.{◌≡◌, List, [], ◌∷◌, ◌++◌, Bool, true, false, map, filter, cond, refl, ◌∙◌}
use Rattle.std.specs.List.{AllByRecursion}
use Rattle.sort_spec.specs.Sorting.{IsAscending}
use Rattle.sort_spec.proofs.SortLemmas.{each_append, each_weaker}
use Rattle.expr_types.specs.Joins.{or_these, pairs}

-- a fact of each of some elements, or of others, is one of each that is given
each_of_these : {X : Type 0} (P : X → Type 0) (others xs : List X) → AllByRecursion P others
    → AllByRecursion P xs → AllByRecursion P (or_these others xs)
each_of_these P others [] a b = a
each_of_these P others (x ∷ xs) a b = b

-- lists in order of which no later element comes before an earlier one are in order as one
append_ascends : {X : Type 0} (lt : X → X → Bool) (xs ys : List X) → IsAscending lt xs
    → IsAscending lt ys → AllByRecursion (λ x. AllByRecursion (λ y. lt y x ≡ false) ys) xs
    → IsAscending lt (xs ++ ys)
append_ascends lt [] ys a b c = b
append_ascends lt (x ∷ xs) ys a b c = (
  each_append (λ y. lt y x ≡ false) xs ys a.0 c.0,
  append_ascends lt xs ys a.1 b c.1,
)

module _ {L R T : Type 0} (alone : L → List T) (match : L → R → Bool) (both : L → R → T)
    (Fits : R → Type 0) where
  -- a fact that each pair has, of those of one left element
  each_pair : (Q : T → Type 0) (left : L) (rights : List R)
      → ((right : R) → Fits right → match left right ≡ true → Q (both left right))
      → AllByRecursion Fits rights
      → AllByRecursion Q (map (both left) (filter (match left) rights))
  each_pair Q left [] makes fits = tt
  each_pair Q left (right ∷ rights) makes fits =
      go (match left right) refl (each_pair Q left rights makes fits.1)
    where
      go : (b : Bool) → match left right ≡ b
          → AllByRecursion Q (map (both left) (filter (match left) rights))
          → AllByRecursion Q
          (map (both left) (cond b (right ∷ filter (match left) rights) (filter (match left) rights)))
      go true e later = (makes right fits.0 e, later)
      go false e later = later

  -- of what one left element gives
  each_given : (Q : T → Type 0) (left : L) (rights : List R) → AllByRecursion Q (alone left)
      → ((right : R) → Fits right → match left right ≡ true → Q (both left right))
      → AllByRecursion Fits rights
      → AllByRecursion Q
      (or_these (alone left) (map (both left) (filter (match left) rights)))
  each_given Q left rights by_itself makes fits =
      each_of_these Q (alone left) (map (both left) (filter (match left) rights)) by_itself
      (each_pair Q left rights makes fits)

  -- and of all that they give
  pub pairs_each : (P : L → Type 0) (Q : T → Type 0)
      → ((left : L) → P left → AllByRecursion Q (alone left))
      → ((left : L) (right : R) → P left → Fits right → Q (both left right))
      → (lefts : List L) (rights : List R) → AllByRecursion P lefts → AllByRecursion Fits rights
      → AllByRecursion Q (pairs alone match both lefts rights)
  pairs_each P Q by_itself makes [] rights a fits = tt
  pairs_each P Q by_itself makes (left ∷ lefts) rights a fits =
      each_append Q (or_these (alone left) (map (both left) (filter (match left) rights)))
      (pairs alone match both lefts rights)
      (each_given Q left rights (by_itself left a.0) (λ right f m. makes left right a.0 f) fits)
      (pairs_each P Q by_itself makes lefts rights a.1 fits)

  module _ (lt : L → L → Bool) (less : T → T → Bool) (Like : L → T → Type 0)
      (alike : (x y : L) (a b : T) → Like x a → Like y b → less a b ≡ lt x y)
      (itself : (x : L) → lt x x ≡ false)
      (by_itself : (left : L) → AllByRecursion (Like left) (alone left))
      (makes : (left : L) (right : R) → Fits right → match left right ≡ true
      → Like left (both left right)) where
    -- what one left element gives is like it
    given_like : (left : L) (rights : List R) → AllByRecursion Fits rights
        → AllByRecursion (Like left)
        (or_these (alone left) (map (both left) (filter (match left) rights)))
    given_like left rights fits =
        each_given (Like left) left rights (by_itself left) (makes left) fits

    -- so none of it comes before another
    like_ascends : (left : L) (xs : List T) → AllByRecursion (Like left) xs
        → IsAscending less xs
    like_ascends left [] a = tt
    like_ascends left (x ∷ xs) a = (
      each_weaker (Like left) (λ y. less y x ≡ false) xs
          (λ y like. alike left left y x like a.0 ∙ itself left) a.1,
      like_ascends left xs a.1,
    )

    -- nor does what later ones give
    none_before : (left : L) (x : T) → Like left x → (lefts : List L) (rights : List R)
        → AllByRecursion Fits rights → AllByRecursion (λ l. lt l left ≡ false) lefts
        → AllByRecursion (λ y. less y x ≡ false) (pairs alone match both lefts rights)
    none_before left x like [] rights fits a = tt
    none_before left x like (l ∷ lefts) rights fits a =
        each_append (λ y. less y x ≡ false)
        (or_these (alone l) (map (both l) (filter (match l) rights)))
        (pairs alone match both lefts rights)
        (each_weaker (Like l) (λ y. less y x ≡ false)
        (or_these (alone l) (map (both l) (filter (match l) rights)))
        (λ y later. alike l left y x later like ∙ a.0) (given_like l rights fits))
        (none_before left x like lefts rights fits a.1)

    -- pairs that compare as their left elements do are in order as they are
    pub pairs_ascend : (lefts : List L) (rights : List R) → AllByRecursion Fits rights
        → IsAscending lt lefts → IsAscending less (pairs alone match both lefts rights)
    pairs_ascend [] rights fits a = tt
    pairs_ascend (left ∷ lefts) rights fits a =
        let given = or_these (alone left) (map (both left) (filter (match left) rights)) in
        append_ascends less given (pairs alone match both lefts rights)
        (like_ascends left given (given_like left rights fits))
        (pairs_ascend lefts rights fits a.1)
        (each_weaker (Like left)
        (λ x. AllByRecursion (λ y. less y x ≡ false) (pairs alone match both lefts rights)) given
        (λ x like. none_before left x like lefts rights fits a.0) (given_like left rights fits))
