-- Sorting by insertion, which keeps the order of what ties (own).
use Rattle.std.specs.Prelude.{◌≡◌, List, [], ◌∷◌, Bool, false, if◌then◌else◌}
use Rattle.std.specs.List.{AllByRecursion}

-- the element before the first that is strictly greater
abbrev pub insert : {X : Type 0} → (X → X → Bool) → X → List X → List X
insert lt x [] = x ∷ []
insert lt x (y ∷ ys) = if lt x y then x ∷ y ∷ ys else (y ∷ insert lt x ys)

-- elements inserted one by one into those before
abbrev pub ins_from : {X : Type 0} → (X → X → Bool) → List X → List X → List X
ins_from lt done [] = done
ins_from lt done (x ∷ xs) = ins_from lt (insert lt x done) xs

-- all inserted one by one
abbrev pub ins_sort : {X : Type 0} → (X → X → Bool) → List X → List X
ins_sort lt xs = ins_from lt [] xs

-- no element is strictly greater than a later one
abbrev pub IsAscending : {X : Type 0} → (X → X → Bool) → List X → Type 0
IsAscending lt [] = Unit {0}
IsAscending lt (x ∷ xs) = AllByRecursion (λ y. lt y x ≡ false) xs × IsAscending lt xs
