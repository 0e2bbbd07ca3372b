-- The cells whose turns a pass holds, as its seat carries their slots (own).
use Rattle.std.specs.Prelude.{ℕ, ◌≡◌, ◌==◌, cond, List, count_by, is_some, length, map, slice_index_or, Option, None}

-- how often the cell stands in the list
abbrev pub times : ℕ → List ℕ → ℕ
times cell cells = count_by (λ other. other == cell) cells

-- the slots of these cells, whose values are out
abbrev pub emptied : {C : Type 0} → List ℕ → List (ℕ × Option C)
emptied cells = map (λ cell. (cell, None)) cells

-- each cell with a history in hand stands once in the list, and no other cell does
pub record AreHeld {H : Type 0} (cells : List ℕ) (hands : List (Option H)) : Type 0 where
  pub each : (cell : ℕ)
      → times cell cells ≡ cond (is_some (slice_index_or hands cell None)) 1 0
  pub all : length cells ≡ count_by is_some hands
