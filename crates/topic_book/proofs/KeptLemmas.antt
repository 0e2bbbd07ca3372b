-- Names that are joined one by one.
use Rattle.std.proofs.Common.{◌≡◌, List, [], ◌∷◌, ◌++◌, Bool, true, false, append_assoc, codes, sym}
use Rattle.std.specs.Prelude.{ℕ, flat_map}
use Rattle.std.specs.List.{join_by}
use Rattle.std.proofs.lemmas.List.{append-nil}

-- a text, and then those of some values: with commas before them, but for the first of all
abbrev pub texts_after : {X : Type 0} → (X → List ℕ) → Bool → List ℕ → List X → List ℕ
texts_after f true out xs = out ++ join_by f (codes ",") xs
texts_after f false out xs = out ++ flat_map (λ x. codes "," ++ f x) xs

-- the first value's text
pub texts_after-first : {X : Type 0} (f : X → List ℕ) (out : List ℕ) (x : X) (xs : List X)
    → texts_after f true out (x ∷ xs) ≡ texts_after f false (out ++ f x) xs
texts_after-first f out x xs =
    sym (append_assoc out (f x) (flat_map (λ x. codes "," ++ f x) xs))

-- a later value's text
pub texts_after-next : {X : Type 0} (f : X → List ℕ) (out : List ℕ) (x : X) (xs : List X)
    → texts_after f false out (x ∷ xs) ≡ texts_after f false ((out ++ codes ",") ++ f x) xs
texts_after-next f out x xs = simp append_assoc

-- the last value's text
pub texts_after-end : {X : Type 0} (f : X → List ℕ) (first : Bool) (out : List ℕ)
    → texts_after f first out [] ≡ out
texts_after-end f true out = append-nil out
texts_after-end f false out = append-nil out

-- what a loop that joins texts needs
pub ruleset text_steps = (texts_after-first, texts_after-next, texts_after-end)
