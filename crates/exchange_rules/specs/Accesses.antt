-- A writer's accesses to the cells, as its record has them: looks and steps (own).
use Rattle.std.specs.Prelude.{ℕ, zero, suc, ◌+◌, ◌≡◌, ◌≢◌, ◌<◌, ◌≤◌, ◌==◌, List, [], ◌∷◌, ◌++◌, get_or, set, length, take, drop, count_by}
use Rattle.std.specs.List.{AllByRecursion}
use Rattle.shard_versions.specs.declared.cut.CutMark.{CutMark}
use Rattle.shard_versions.specs.declared.cut.OwnMark.{OwnMark}
use Rattle.exchange_rules.specs.Cells.{Log, Payload, author_of, signed_behind}

-- a look, by its mark; a step, by its own mark
pub data Access : Type 0 where
  a_look : CutMark → Access
  a_step : OwnMark → Access

-- the marks of the looks, in order
abbrev pub marks_of : List Access → List CutMark
marks_of [] = []
marks_of (a_look m ∷ accesses) = m ∷ marks_of accesses
marks_of (a_step o ∷ accesses) = marks_of accesses

-- the own marks of the steps, in order
abbrev pub own_of : List Access → List OwnMark
own_of [] = []
own_of (a_look m ∷ accesses) = own_of accesses
own_of (a_step o ∷ accesses) = o ∷ own_of accesses

-- what the look showed: the first `upto` entries of the cell
abbrev pub at_mark : List Log → CutMark → Log
at_mark seen m = take m.upto (get_or seen m.cell [])

-- what the step appended: so many entries of the cell, from its first one on
abbrev pub at_own : List Log → OwnMark → Log
at_own seen o = take o.count (drop o.from (get_or seen o.cell []))

-- the entries after the first `from` of a log, up to the first `upto`
abbrev pub between : ℕ → ℕ → Log → Log
between from upto log = drop from (take upto log)

-- a look at this cell, by a writer that had seen so many entries of each: it shows at least those,
-- and besides only what others wrote
pub record IsLook (me : ℕ) (seen : List Log) (had : List ℕ) (cell : ℕ) (m : CutMark)
    : Type 0 where
  pub cell_is : m.cell ≡ cell
  pub known : cell < length had
  pub since : get_or had cell 0 ≤ m.upto
  pub within : m.upto ≤ length (get_or seen cell [])
  pub others : AllByRecursion (λ n. author_of n ≢ me)
      (between (get_or had cell 0) m.upto (get_or seen cell []))

-- this step at this cell, by a writer that had seen so many entries of each: it is right
-- behind those, under the writer's number
pub record IsOwn (me : ℕ) (seen : List Log) (had : List ℕ) (cell : ℕ) (step : List Payload)
    (o : OwnMark) : Type 0 where
  pub cell_is : o.cell ≡ cell
  pub known : cell < length had
  pub from : o.from ≡ get_or had cell 0
  pub count : o.count ≡ length step
  pub within : o.from + o.count ≤ length (get_or seen cell [])
  pub appended : at_own seen o
      ≡ signed_behind me (take o.from (get_or seen o.cell [])) step

-- how many entries of each cell the writer has seen after the access
abbrev pub had_after : List ℕ → Access → List ℕ
had_after had (a_look m) = set had m.cell m.upto
had_after had (a_step o) = set had o.cell (o.from + o.count)

-- how many of the marks are looks at this cell
abbrev pub looks_at : ℕ → List CutMark → ℕ
looks_at cell marks = count_by (λ m. m.cell == cell) marks

-- the counts with one more for this cell; one that isn't there is 0
abbrev pub one_more : ℕ → List ℕ → List ℕ
one_more zero [] = 1 ∷ []
one_more zero (n ∷ ns) = (n + 1) ∷ ns
one_more (suc cell) [] = 0 ∷ one_more cell []
one_more (suc cell) (n ∷ ns) = n ∷ one_more cell ns

-- what the steps of these own marks appended, in order
abbrev pub at_owns : List Log → List OwnMark → Log
at_owns seen [] = []
at_owns seen (o ∷ os) = at_own seen o ++ at_owns seen os
