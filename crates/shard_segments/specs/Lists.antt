-- Lists in whole chunks (own).
use Rattle.std.specs.Prelude.{◌≡◌, List, [], ◌∷◌, ◌++◌, length}
use Rattle.std.specs.List.{AllByRecursion}

-- the items of lists, one list after the other
abbrev pub joined : {X : Type 0} → List (List X) → List X
joined [] = []
joined (xs ∷ xss) = xs ++ joined xss

-- each chunk has 1,024 items
abbrev pub AreWhole : {X : Type 0} → List (List X) → Type 0
AreWhole chunks = AllByRecursion (λ c. length c ≡ 1024) chunks
