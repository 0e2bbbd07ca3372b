-- Lists of things that are each of something.
use Rattle.std.proofs.Common.{ℕ, ◌≡◌, List, [], ◌∷◌, map, refl, ap}
use Rattle.std.specs.Prelude.{All, Contains}
use Rattle.std.proofs.lemmas.List.{get_or_default}
use Rattle.std.proofs.lemmas.List.Elements.{All-nil, All-cons, All-head, All-tail}

-- what is so of what each is
pub all-of : {X Y : Type 0} (P : X → Type 0) (f : Y → X) (ys : List Y) → All P (map f ys)
    → All (λ y. P (f y)) ys
all-of P f [] h = All-nil (λ y. P (f y))
all-of P f (y ∷ ys) h =
    All-cons (λ z. P (f z)) y ys (All-head P (f y) (map f ys) h)
    (all-of P f ys (All-tail P (f y) (map f ys) h))

-- what each is, of what each is
pub map-of : {X Y Z : Type 0} (g : Y → Z) (f : X → Y) (xs : List X)
    → map g (map f xs) ≡ map (λ x. g (f x)) xs
map-of g f [] = refl
map-of g f (x ∷ xs) = ap (λ l. g (f x) ∷ l) (map-of g f xs)

-- each of a list is in it
pub all-there : (xs : List ℕ) → All (λ x. Contains xs x) xs
all-there xs k d lt = (k, lt, get_or_default xs k _ _ lt)
