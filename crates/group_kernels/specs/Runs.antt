-- Runs of elements of one kind, as they come one after another (own).
use Rattle.std.specs.Prelude.{List, [], ◌∷◌, ◌++◌, Bool, true, Option, Some, None, if◌then◌else◌}

-- the first of each run, where the run of one element goes on
abbrev pub heads : {X : Type 0} → (X → X → Bool) → Option X → List X → List X
heads same None [] = []
heads same (Some first) [] = first ∷ []
heads same None (x ∷ xs) = heads same (Some x) xs
heads same (Some first) (x ∷ xs) =
    if same first x then heads same (Some first) xs else (first ∷ heads same (Some x) xs)

-- the runs, where one goes on; no element is a run
abbrev pub spans : {X : Type 0} → (X → X → Bool) → List X → List X → List (List X)
spans same [] [] = []
spans same (first ∷ run) [] = (first ∷ run) ∷ []
spans same [] (x ∷ xs) = spans same (x ∷ []) xs
spans same (first ∷ run) (x ∷ xs) =
    if same first x then spans same (first ∷ run ++ x ∷ []) xs
    else ((first ∷ run) ∷ spans same (x ∷ []) xs)

-- whether an element belongs to a run, as any does to one of no element
abbrev pub is_next : {X : Type 0} → (X → X → Bool) → List X → X → Bool
is_next same [] x = true
is_next same (first ∷ run) x = same first x
