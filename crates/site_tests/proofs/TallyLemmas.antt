-- Two cells and two passes, as the tests make them.
use Rattle.std.proofs.Common.{ℕ, zero, suc, ◌≡◌, ◌≢◌, List, [], ◌∷◌, ◌++◌, get_or, length, map, sym, ap, subst, ◌∙◌, arith, length-append}
use Rattle.std.specs.Prelude.{All, AllPairs, Contains}
use Rattle.std.proofs.lemmas.List.Elements.{All-cons, All-nil, All-same}
use lib.ListN.{length-map}

-- what is true of each of two is true of both
pub both : {X : Type 0} (P : X → Type 0) (x y : X) → P x → P y → All P (x ∷ y ∷ [])
both P x y one two = All-cons P x (y ∷ []) one (All-cons P y [] two (All-nil P))

-- two numbers that differ
pub two_differ : (m n : ℕ) → m ≢ n → AllPairs (λ a b. a ≢ b) (m ∷ n ∷ [])
two_differ m n apart i zero d low high = absurd (omega arith)
two_differ m n apart zero (suc zero) d low high = apart
two_differ m n apart zero (suc (suc j)) d low high = absurd (omega arith)
two_differ m n apart (suc i) (suc j) d low high = absurd (omega arith)

-- no entry stands in two cells with no entry
pub none_there : {C E : Type 0} (history : C → List E) (P : E → Type 0) (x y : C)
    → history x ≡ [] → history y ≡ [] → All (λ cell. All P (history cell)) (x ∷ y ∷ [])
none_there history P x y one two = both (λ cell. All P (history cell)) x y
    (All-same P (history x) [] one (All-nil P)) (All-same P (history y) [] two (All-nil P))

-- of two elements the last was popped, and then the first
pub two_popped : {P K : Type 0} (f : P → K) (xs front others : List P) (p q : P) (a b : K)
    → map f xs ≡ a ∷ b ∷ [] → xs ≡ front ++ q ∷ [] → front ≡ others ++ p ∷ []
    → (f p ≡ a) × (f q ≡ b)
two_popped f xs front [] p q a b known last first =
    let all : map f (p ∷ q ∷ []) ≡ a ∷ b ∷ [] =
    ap (map f) (ap (λ l. l ++ q ∷ []) (sym first) ∙ sym last) ∙ known in
    (ap (λ l. get_or l 0 a) all, ap (λ l. get_or l 1 b) all)
two_popped f xs front (z ∷ zs) p q a b known last first =
    let counted = ap length known in let mapped = length-map xs f in
    let one = ap length last in let two = ap length first in
    let three = length-append front (q ∷ []) in let four = length-append (z ∷ zs) (p ∷ []) in
    absurd (omega arith)

-- the numbers 1 and 2 are those of two passes
pub two_found : {P : Type 0} (f : P → ℕ) (ns : List ℕ) (ps : List P) (p q : P)
    → ns ≡ 1 ∷ 2 ∷ [] → ps ≡ p ∷ q ∷ [] → f p ≡ 1 → f q ≡ 2
    → All (λ n. Contains (map f ps) n) ns
two_found f ns ps p q n e one two =
    subst (λ l. All (λ n. Contains (map f ps) n) l) (sym n)
    (both (λ n. Contains (map f ps) n) 1 2
    (subst (λ l. Contains (map f l) 1) (sym e) (0, omega arith, one))
    (subst (λ l. Contains (map f l) 2) (sym e) (1, omega arith, two)))
