-- A text with blanks behind it (own).
use Rattle.std.specs.Prelude.{ℕ, ◌<◌, ◌≤◌, List, length, slice_index}

-- so many bytes are the text, and an ASCII byte stands behind them, if any does
abbrev pub IsKept : ℕ → List ℕ → Type 0
IsKept kept bytes = (kept ≤ length bytes) × (kept < length bytes → slice_index bytes kept < 128)
