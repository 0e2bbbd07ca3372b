-- Items of passes at a site, before they are carried out and after.
use Rattle.std.proofs.Common.{ℕ, zero, suc, ◌≡◌, ◌<◌, List, [], ◌∷◌, map, length, refl, ap, subst, sym, arith}
use Rattle.std.specs.Prelude.{All, slice_index_or}
use Rattle.std.proofs.lemmas.List.Elements.{All-nil, All-cons, All-head, All-tail}
use Rattle.running_site.specs.Plain.{SiteCell}
use Rattle.running_site.specs.Passes.{number_of}
use Rattle.running_site.specs.Plain.{TablePass}
use Rattle.running_site.specs.Sites.{IsPassAt}
use Rattle.running_site.specs.declared.pass.PassOf.{PassOf}
use Rattle.running_site.specs.declared.site.SiteOf.{SiteOf}
use Rattle.site_server.specs.Doors.{Doors}
use Rattle.site_server.specs.Items.{Item, IsItemAt, IsItemServed}
use Rattle.site_server.specs.Rows.{first_of, item_of, items_for, pass_in, rest_of}

-- the passes of the items that were made for them
pub passes-for : {D P : Type 0} (n : ℕ) (doors : List D) (passes : List P)
    → map pass_in (items_for n doors passes) ≡ passes
passes-for n doors [] = refl
passes-for n doors (p ∷ passes) =
    ap (λ l. p ∷ l) (passes-for (rest_of n doors).0 (rest_of n doors).1 passes)

-- the items of passes of a site are items of it
pub items-at : {D A B C E F : Type 0} (site : SiteOf SiteCell A B C E F) (n : ℕ) (doors : List D)
    (passes : List (PassOf TablePass))
    → All (IsPassAt site) passes → All (IsItemAt site) (items_for n doors passes)
items-at site n doors [] own = All-nil (IsItemAt site)
items-at {D} site n doors (p ∷ passes) own =
    All-cons (IsItemAt site) (item_of (first_of n doors) p) _
    (All-head (IsPassAt site) p passes own)
    (items-at site (rest_of n doors).0 (rest_of n doors).1 passes
    (All-tail (IsPassAt site) p passes own))

module _ {D I O A B C E F : Type 0} (kind : Doors D I O) (tells : ℕ → Type 0)
    (site : SiteOf SiteCell A B C E F) where
  -- each of the first items was carried out, and is now the one at its place
  abbrev pub AreServed : List (Item D) → List (Item D) → Type 0
  AreServed [] [] = Unit {0}
  AreServed [] (y ∷ ys) = ⊥
  AreServed (x ∷ xs) [] = ⊥
  AreServed (x ∷ xs) (y ∷ ys) = IsItemServed kind tells site x y × AreServed xs ys

  -- by their places
  pub are-served : (xs ys : List (Item D)) → length ys ≡ length xs
      → ((k : ℕ) (d : Item D) → k < length xs
      → IsItemServed kind tells site (slice_index_or xs k d) (slice_index_or ys k d))
      → AreServed xs ys
  are-served [] [] long each = tt
  are-served [] (y ∷ ys) long each = absurd (omega (arith, long))
  are-served (x ∷ xs) [] long each = absurd (omega (arith, long))
  are-served (x ∷ xs) (y ∷ ys) long each = (
    each zero x (omega arith),
    are-served xs ys (omega (arith, long)) (λ k d lt. each (suc k) d (omega (arith, lt))),
  )

  -- by their places in lists that are equal to these
  pub served-now : (xs ys old new : List (Item D)) → xs ≡ old → new ≡ ys
      → ((k : ℕ) (d : Item D) → k < length xs
      → IsItemServed kind tells site (slice_index_or xs k d) (slice_index_or ys k d))
      → (k : ℕ) (d : Item D) → k < length old
      → IsItemServed kind tells site (slice_index_or old k d) (slice_index_or new k d)
  served-now xs ys old new e f each k d lt =
      subst (λ l. IsItemServed kind tells site (slice_index_or old k d) (slice_index_or l k d))
      (sym f)
      (subst (λ l. IsItemServed kind tells site (slice_index_or l k d) (slice_index_or ys k d)) e
      (each k d (omega (arith, ap length e, lt))))

  -- their passes are still of the site
  pub own-after : (xs ys : List (Item D)) → AreServed xs ys → All (IsPassAt site) (map pass_in ys)
  own-after [] [] served = All-nil (IsPassAt site)
  own-after [] (y ∷ ys) served = absurd served
  own-after (x ∷ xs) [] served = absurd served
  own-after (x ∷ xs) (y ∷ ys) served =
      All-cons (IsPassAt site) y.pass (map pass_in ys) served.0.own (own-after xs ys served.1)

  -- and have the numbers that they had
  pub numbers-after : (xs ys : List (Item D)) → AreServed xs ys
      → map number_of (map pass_in ys) ≡ map number_of (map pass_in xs)
  numbers-after [] [] served = refl
  numbers-after [] (y ∷ ys) served = absurd served
  numbers-after (x ∷ xs) [] served = absurd served
  numbers-after (x ∷ xs) (y ∷ ys) served =
      (λ i. served.0.number i ∷ numbers-after xs ys served.1 i)
