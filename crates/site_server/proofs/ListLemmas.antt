-- Lists of things that are each of something.
use Rattle.std.proofs.Common.{ℕ, zero, suc, ◌≡◌, List, [], ◌∷◌, ◌++◌, map, length, take, refl, ap, subst, arith}
use Rattle.std.specs.Prelude.{All, Contains}
use Rattle.std.specs.List.{AllByRecursion}
use Rattle.std.proofs.lemmas.List.{get_or_default}

-- what each is, of what each is
pub map-of : {X Y Z : Type 0} (g : Y → Z) (f : X → Y) (xs : List X)
    → map g (map f xs) ≡ map (λ x. g (f x)) xs
map-of g f [] = refl
map-of g f (x ∷ xs) = ap (λ l. g (f x) ∷ l) (map-of g f xs)

-- each of a list is in it
pub all-there : (xs : List ℕ) → All (λ x. Contains xs x) xs
all-there xs k d lt = (k, lt, get_or_default xs k _ _ lt)

-- what is in a list is in one with one more before it
pub there-behind : {X : Type 0} (y : X) (xs : List X) (x : X) → Contains xs x → Contains (y ∷ xs) x
there-behind y xs x there = (suc there.0, omega (arith, there.1), there.2)

-- what holds of each of a list holds of what is in it
pub holds-there : {X : Type 0} (P : X → Type 0) (xs : List X) (x : X) → All P xs → Contains xs x
    → P x
holds-there P xs x h there = subst P there.2 (h there.0 x there.1)

-- what follows from it holds of each item too
pub each-weaker : {X : Type 0} (P Q : X → Type 0) → ((x : X) → P x → Q x) → (xs : List X)
    → AllByRecursion P xs → AllByRecursion Q xs
each-weaker P Q f [] a = tt
each-weaker P Q f (x ∷ xs) a = (f x a.0, each-weaker P Q f xs a.1)

-- what was written over the front of a vector's items
pub written : {X : Type 0} (n : ℕ) (new rest : List X) → length new ≡ n → take n (new ++ rest) ≡ new
written zero [] rest e = refl
written zero (x ∷ new) rest e = absurd (omega (arith, e))
written (suc n) [] rest e = absurd (omega (arith, e))
written (suc n) (x ∷ new) rest e = ap (λ l. x ∷ l) (written n new rest (omega (arith, e)))
