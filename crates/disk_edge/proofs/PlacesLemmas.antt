-- What is kept by name, where a slot is read, written or added.
use Rattle.std.proofs.Common.{◌≡◌, ◌≢◌, ⊎_elim, ℕ, ◌<◌, ◌≤◌, Bool, true, false, cond, List, [], ◌∷◌, ◌++◌, length, set, get_or, Option, Some, None, refl, sym, ◌∙◌, ap, arith}
use Rattle.std.specs.Prelude.{position}
use Rattle.std.specs.List.{find, position_or_len, slice_get}
use Rattle.std.specs.Option.{option_map, option_or}
use Rattle.std.specs.Str.{bytes_eq}
use Rattle.std.proofs.lemmas.List.Folds.{find-append, find-set, find_at, find_past}
use Rattle.std.proofs.lemmas.List.Quantifiers.{position-Some}
use Rattle.std.proofs.lemmas.Option.{slice_get-get_or, slice_get_cases}
use Rattle.std.proofs.lemmas.Slice.Eq.{bytes_eq-Decides}
use borrow.Author.Tests.{ltb-false}
use Rattle.disk_edge.specs.Places.{place_of, Puts}
use Rattle.disk_edge.specs.declared.named.Place.{Place}
use Rattle.disk_edge.specs.declared.named.Slot.{Slot}

-- whether a slot has this name
abbrev pub has_name : {D : Type 0} → List ℕ → Slot D → Bool
has_name name slot = bytes_eq slot.name name

-- a name that differs is told apart
differs : (other name slot : List ℕ) → other ≢ name → bytes_eq slot name ≡ true → bytes_eq slot other ≡ false
differs other name slot differ named =
    not-true (bytes_eq slot other) (λ same. differ (sym ((bytes_eq-Decides slot other).0 same) ∙ (bytes_eq-Decides slot name).0 named))
  where
    not-true : (b : Bool) → (b ≡ true → ⊥) → b ≡ false
    not-true b known = elim b as (λ v. (v ≡ true → ⊥) → v ≡ false) [ true ↦ λ never. absurd (never refl) | false ↦ λ never. refl ] known

some-is : (b : Bool) (n i : ℕ) → cond b (Some n) None ≡ Some i → i ≡ n
some-is true n i h = cc
some-is false n i h = cc

none-is : (b : Bool) (n : ℕ) → cond b (Some n) None ≡ None → b ≡ false
none-is true n h = cc
none-is false n h = refl

module _ {D : Type 0} (slots : List (Slot D)) (name : List ℕ) where
  -- the disk of a name that no slot has is kept nowhere
  pub place-none : position (has_name name) slots ≡ None → place_of slots name ≡ None
  place-none none =
      let past : length slots ≤ position_or_len (has_name name) slots = ltb-false _ _ (none-is _ _ none) in
      ap (option_map (λ slot. slot.place)) (find_at (has_name name) slots ∙ out-of (position_or_len (has_name name) slots) past)
    where
      out-of : (i : ℕ) → length slots ≤ i → slice_get slots i ≡ None
      out-of i past = ⊎_elim (λ w. absurd (omega (arith, w.1))) (λ w. w.1) (slice_get_cases slots i).1

  module _ (i : ℕ) (slot : Slot D) (at : position (has_name name) slots ≡ Some i) (here : slot ≡ get_or slots i slot) where
    within : i < length slots
    within = (position-Some (has_name name) slots i slot at).0

    named : bytes_eq slot.name name ≡ true
    named = ap (has_name name) here ∙ (position-Some (has_name name) slots i slot at).1

    -- the place of a name is that of the slot that is found
    pub place-found : place_of slots name ≡ Some slot.place
    place-found =
        ap (option_map (λ s. s.place)) (find_at (has_name name) slots ∙ ap (slice_get slots) (sym (some-is _ _ i at)) ∙ slice_get-get_or slots i slot within ∙ ap (λ s. Some s) (sym here))

    -- a write of the slot that is found gives the name its place
    pub puts-set : (place : Place D) → Puts slots (set slots i (record { name = slot.name; place = place })) name place
    puts-set place = record {
      put = ap (option_map (λ s. s.place)) (find-set (has_name name) slots i (record { name = slot.name; place = place }) (some-is _ _ i at) within named);
      others = λ other differ. ap (option_map (λ s. s.place)) (find_past (has_name other) slots i (record { name = slot.name; place = place }) slot (ap (has_name other) (sym here) ∙ differs other name slot.name differ named) (differs other name slot.name differ named));
    }

  -- a slot that is added keeps its name, which no slot had
  pub puts-push : (place : Place D) → place_of slots name ≡ None → Puts slots (slots ++ (record { name = name; place = place }) ∷ []) name place
  puts-push place none = record {
    put = ap (option_map (λ s. s.place)) (find-append (has_name name) slots (added ∷ []) ∙ ap (λ o. option_or o (find (has_name name) (added ∷ []))) (nothing (find (has_name name) slots) none) ∙ ap (λ b. cond b (Some added) None) ((bytes_eq-Decides name name).1 refl));
    others = λ other differ. ap (option_map (λ s. s.place)) (find-append (has_name other) slots (added ∷ []) ∙ ap (λ b. option_or (find (has_name other) slots) (cond b (Some added) None)) (differs other name name differ ((bytes_eq-Decides name name).1 refl)) ∙ or-none (find (has_name other) slots));
  }
    where
      added : Slot D
      added = record { name = name; place = place }

      nothing : (o : Option (Slot D)) → option_map (λ s. s.place) o ≡ None → o ≡ None
      nothing None h = refl
      nothing (Some s) h = cc

      or-none : (o : Option (Slot D)) → option_or o None ≡ o
      or-none None = refl
      or-none (Some s) = refl
