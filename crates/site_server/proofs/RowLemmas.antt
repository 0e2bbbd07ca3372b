-- Items of passes and doors, one more at a time.
use Rattle.std.proofs.Common.{ℕ, ◌≡◌, List, [], ◌∷◌, ◌++◌, map, refl, ap, sym, ◌∙◌, append-nil, append_assoc, Bool, true, false, ◌||◌}
use Rattle.std.specs.Prelude.{option_to_list}
use Rattle.std.specs.List.{list_any}
use Rattle.site_server.specs.Rows.{behind, doors_in, first_of, item_of, items_for, rest_of}
use Rattle.site_server.specs.declared.item.ItemOf.{ItemOf}

-- items for one more pass
pub items-snoc : {D P : Type 0} (n : ℕ) (doors : List D) (passes : List P) (pass : P)
    → items_for n doors (passes ++ pass ∷ [])
    ≡ items_for n doors passes
    ++ item_of (first_of (behind n doors passes).0 (behind n doors passes).1) pass ∷ []
items-snoc n doors [] pass = refl
items-snoc n doors (p ∷ passes) pass =
    ap (λ l. item_of (first_of n doors) p ∷ l)
    (items-snoc (rest_of n doors).0 (rest_of n doors).1 passes pass)

-- what is left behind one more pass
pub behind-snoc : {D P : Type 0} (n : ℕ) (doors : List D) (passes : List P) (pass : P)
    → behind n doors (passes ++ pass ∷ [])
    ≡ rest_of (behind n doors passes).0 (behind n doors passes).1
behind-snoc n doors [] pass = refl
behind-snoc n doors (p ∷ passes) pass =
    behind-snoc (rest_of n doors).0 (rest_of n doors).1 passes pass

-- the doors of one more item
pub doors-snoc : {D P : Type 0} (items : List (ItemOf D P)) (x : ItemOf D P)
    → doors_in (items ++ x ∷ []) ≡ doors_in items ++ option_to_list x.door
doors-snoc [] x = append-nil (option_to_list x.door)
doors-snoc (y ∷ items) x =
    ap (λ l. option_to_list y.door ++ l) (doors-snoc items x)
    ∙ sym (append_assoc (option_to_list y.door) (doors_in items) (option_to_list x.door))

-- whether one of one more passes
pub any-snoc : {X : Type 0} (f : X → Bool) (xs : List X) (x : X)
    → list_any f (xs ++ x ∷ []) ≡ (list_any f xs || f x)
any-snoc f [] x = elim (f x) as (λ b. (b || false) ≡ b) [ true ↦ refl | false ↦ refl ]
any-snoc f (y ∷ xs) x =
    ap (λ b. f y || b) (any-snoc f xs x)
    ∙ (elim (f y) as (λ b. (b || (list_any f xs || f x)) ≡ ((b || list_any f xs) || f x))
    [ true ↦ refl | false ↦ refl ])

-- where one of those before passes, and where none does
pub any-true : {X : Type 0} (f : X → Bool) (xs : List X) (x : X) → list_any f xs ≡ true
    → true ≡ list_any f (xs ++ x ∷ [])
any-true f xs x e = sym (any-snoc f xs x ∙ ap (λ b. b || f x) e)

pub any-false : {X : Type 0} (f : X → Bool) (xs : List X) (x : X) → list_any f xs ≡ false
    → f x ≡ list_any f (xs ++ x ∷ [])
any-false f xs x e = sym (any-snoc f xs x ∙ ap (λ b. b || f x) e)

-- what each of one more is
pub map-snoc : {X Y : Type 0} (f : X → Y) (xs : List X) (x : X)
    → map f (xs ++ x ∷ []) ≡ map f xs ++ f x ∷ []
map-snoc f [] x = refl
map-snoc f (y ∷ xs) x = ap (λ l. f y ∷ l) (map-snoc f xs x)
