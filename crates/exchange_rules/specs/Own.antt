-- A writer's own entries in what it has seen (own).
use Rattle.std.specs.Prelude.{ℕ, ◌==◌, ◌≡◌, List, [], ◌∷◌, ◌++◌, drop, filter, get_or, if◌then◌else◌}
use Rattle.std.specs.List.{AllByRecursion}
use Rattle.shard_versions.specs.declared.cut.OwnMark.{OwnMark}
use Rattle.exchange_rules.specs.Cells.{Log, author_of}
use Rattle.exchange_rules.specs.Accesses.{at_own, between}

-- the entries of this writer, in order
abbrev pub by_writer : ℕ → Log → Log
by_writer me log = filter (λ n. author_of n == me) log

-- what the writer appended to a cell between two times, by how many entries it had seen of each
-- cell at them
abbrev pub own_entries : ℕ → List Log → (had end : List ℕ) → ℕ → Log
own_entries me seen had end cell =
    by_writer me (between (get_or had cell 0) (get_or end cell 0) (get_or seen cell []))

-- what the own mark says was appended to this cell
abbrev pub step_at : ℕ → List Log → OwnMark → Log
step_at cell seen o = if o.cell == cell then at_own seen o else []

-- what these own marks say was appended to this cell, in order
abbrev pub steps_at : ℕ → List Log → List OwnMark → Log
steps_at cell seen [] = []
steps_at cell seen (o ∷ os) = step_at cell seen o ++ steps_at cell seen os

-- past these counts each entry is the writer's own
abbrev pub IsAlone : ℕ → List ℕ → List Log → Type 0
IsAlone me had seen =
    (cell : ℕ)
    → AllByRecursion (λ n. author_of n ≡ me) (drop (get_or had cell 0) (get_or seen cell []))
