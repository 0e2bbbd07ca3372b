-- One pass as a list of passes.
use Rattle.std.proofs.Common.{ℕ, zero, suc, ◌≡◌, List, [], ◌∷◌, map, sym, subst, arith}
use Rattle.std.specs.Prelude.{All, Contains}
use Rattle.running_site.specs.Passes.{number_of, numbers_to}
use Rattle.running_site.specs.Plain.{TablePass}
use Rattle.running_site.specs.declared.pass.PassOf.{PassOf}

-- what is so of one thing is so of each of one
one : {P : Type 0} (Holds : P → Type 0) (p : P) → Holds p → All Holds (p ∷ [])
one Holds p h zero d lt = h
one Holds p h (suc k) d lt = absurd (omega (arith, lt))

-- also of a list that is this one
pub all-one : {P : Type 0} (Holds : P → Type 0) (xs : List P) (p : P) → xs ≡ p ∷ [] → Holds p
    → All Holds xs
all-one Holds xs p is h = subst (λ l. All Holds l) (sym is) (one Holds p h)

-- one pass with the number 1 is all passes of a site that made one
pub numbers-one : (xs : List (PassOf TablePass)) (p : PassOf TablePass) (n : ℕ) → xs ≡ p ∷ []
    → number_of p ≡ 1 → n ≡ 1
    → All (λ number. Contains (map number_of xs) number) (numbers_to n)
numbers-one xs p n is first counted =
    subst (λ m. All (λ number. Contains (map number_of xs) number) (numbers_to m)) (sym counted)
    (subst (λ l. All (λ number. Contains (map number_of l) number) (1 ∷ [])) (sym is)
    (one (λ number. Contains (number_of p ∷ []) number) 1 (0, omega arith, first)))
