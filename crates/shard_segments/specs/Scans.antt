-- The places of what meets a test (own).
use Rattle.std.specs.Prelude.{ℕ, ◌+◌, Bool, List, [], ◌∷◌, ◌++◌, if◌then◌else◌}

-- the places of the items that meet the test, ascending, where the first item has the place `at`
abbrev pub places_where : {X : Type 0} → (X → Bool) → ℕ → List X → List ℕ
places_where test at [] = []
places_where test at (x ∷ xs) =
    (if test x then at ∷ [] else []) ++ places_where test (at + 1) xs
