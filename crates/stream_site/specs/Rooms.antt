-- When a look may want memory (own).
use Rattle.std.specs.Prelude.{ℕ, ◌^◌, ◌≡◌, ◌+◌, ◌≤◌, ◌⊎◌, get_or}
use Rattle.exchange_rules.specs.Following.{Writer}

-- there was no room for it in the record, or the count of looks at the cell is at its end
abbrev pub MayWant : ℕ → Writer → ℕ → Type 0
MayWant room w cell = (room ≡ 0) ⊎ (2 ^ 64 ≤ get_or w.looks cell 0 + 1)
