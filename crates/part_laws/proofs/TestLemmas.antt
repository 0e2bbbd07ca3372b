-- A test keeps what a function gives of the elements that it keeps: of firsts and groups, and of
-- lists one after another.
use Rattle.std.proofs.Common.{◌≡◌, List, [], ◌∷◌, ◌++◌, Bool, true, false, not, filter, map}
use Rattle.std.proofs.Common.{if◌then◌else◌, refl, sym, ◌∙◌, ap}
use Rattle.std.specs.Prelude.{flat_map}
use Rattle.std.specs.List.{AllByRecursion}
use Rattle.std.proofs.lemmas.List.Elements.{filter-append}
use Rattle.sort_spec.proofs.StableLemmas.{filter_first}
use Rattle.expr_types.specs.Groups.{firsts, groups}
use Rattle.expr_types.proofs.GroupLemmas.{filter-swap, filter-past, map-filter}
use Rattle.expr_check.proofs.AscendLemmas.{each_firsts}
use Rattle.source_streams.proofs.KeptLemmas.{filter-map}

-- of several lists, one after another
pub filter-flat : {X : Type 0} (p : X → Bool) (lists : List (List X))
    → filter p (flat_map (λ l. l) lists) ≡ flat_map (λ l. l) (map (filter p) lists)
filter-flat p [] = refl
filter-flat p (l ∷ lists) =
    filter-append p l (flat_map (λ l. l) lists) ∙ ap (λ w. filter p l ++ w) (filter-flat p lists)

-- one function after another
pub map-twice : {X Y Z : Type 0} (f : Y → Z) (g : X → Y) (xs : List X)
    → map f (map g xs) ≡ map (λ x. f (g x)) xs
map-twice f g [] = refl
map-twice f g (x ∷ xs) = ap (λ w. f (g x) ∷ w) (map-twice f g xs)

-- a first element that fails
pub filter_past_first : {X : Type 0} (p : X → Bool) (x : X) (xs : List X) → p x ≡ false
    → filter p (x ∷ xs) ≡ filter p xs
filter_past_first p x xs e = rw e refl

-- what isn't so
not_false : (b : Bool) → not b ≡ false → b ≡ true
not_false true e = refl
not_false false e = absurd (cc)

module _ {X : Type 0} (same : X → X → Bool) (p : X → Bool)
    (alike : (x y : X) → same x y ≡ true → p x ≡ p y) where
  -- of one more first element
  firsts_by : (x : X) (xs : List X) (b : Bool) → p x ≡ b
      → filter p (firsts same xs) ≡ firsts same (filter p xs)
      → filter p (firsts same (x ∷ xs)) ≡ firsts same (if b then x ∷ filter p xs else filter p xs)
  firsts_by x xs true e later =
      filter_first p x (filter (λ y. not (same x y)) (firsts same xs)) e
      ∙ ap (λ w. x ∷ w)
      (filter-swap p (λ y. not (same x y)) (firsts same xs)
      ∙ ap (filter (λ y. not (same x y))) later)
  firsts_by x xs false e later =
      filter_past_first p x (filter (λ y. not (same x y)) (firsts same xs)) e
      ∙ sym (filter-past p (λ y. not (same x y))
      (λ z d. sym (alike x z (not_false (same x z) d)) ∙ e) (firsts same xs))
      ∙ later

  -- of the first element of each kind, where the test is the same of all of a kind
  pub filter-firsts : (xs : List X)
      → filter p (firsts same xs) ≡ firsts same (filter p xs)
  filter-firsts [] = refl
  filter-firsts (x ∷ xs) = firsts_by x xs (p x) refl (filter-firsts xs)

  -- what is of an element's kind is kept with it
  kind_kept : (x z : X) (b : Bool) → same x z ≡ b → p x ≡ true → p z ≡ false → same x z ≡ false
  kind_kept x z true e t f = let a = alike x z e in absurd (cc)
  kind_kept x z false e t f = e

  -- of what is made of each group, where the test is that of the group's first element
  pub filter-groups : (made : List X → X) (xs : List X)
      → AllByRecursion (λ x. p (made (filter (same x) xs)) ≡ p x) xs
      → filter p (map made (groups same xs)) ≡ map made (groups same (filter p xs))
  filter-groups made xs a =
      ap (filter p) (map-twice made (λ x. filter (same x) xs) (firsts same xs))
      ∙ filter-map (λ x. made (filter (same x) xs)) p p (firsts same xs)
      (each_firsts (λ x. p (made (filter (same x) xs)) ≡ p x) same xs a)
      ∙ map-filter p (λ x. made (filter (same x) xs)) (λ x. made (filter (same x) (filter p xs)))
      (λ x t. ap made
      (filter-past (same x) p (λ z f. kind_kept x z (same x z) refl t f) xs)) (firsts same xs)
      ∙ ap (map (λ x. made (filter (same x) (filter p xs)))) (filter-firsts xs)
      ∙ sym (map-twice made (λ x. filter (same x) (filter p xs)) (firsts same (filter p xs)))
