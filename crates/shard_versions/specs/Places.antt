-- The last place in a list of what passes a test (own).
use Rattle.std.specs.Prelude.{ℕ, zero, suc, Bool, List, [], ◌∷◌, if◌then◌else◌}

-- one more than the last place, of an item that passes or not and of those behind it
abbrev pub placed : ℕ → Bool → ℕ
placed zero passes = if passes then 1 else 0
placed (suc n) passes = suc (suc n)

-- one more than the last place of an item that passes, and 0 where none does
unfoldable pub last_where : {X : Type 0} → (X → Bool) → List X → ℕ
last_where test [] = 0
last_where test (x ∷ xs) = placed (last_where test xs) (test x)
