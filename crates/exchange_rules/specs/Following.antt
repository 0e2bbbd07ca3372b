-- When what a writer did follows a course (own).
use Rattle.std.specs.Prelude.{ℕ, ◌+◌, ◌≡◌, ◌≤◌, List, [], ◌∷◌, ◌++◌, get_or, map, length}
use Rattle.shard_versions.specs.declared.cut.CutMark.{CutMark}
use Rattle.shard_versions.specs.declared.cut.OwnMark.{OwnMark}
use Rattle.exchange_rules.specs.Cells.{Log}
use Rattle.exchange_rules.specs.Courses.{Course, ends, looks, makes}
use Rattle.exchange_rules.specs.Accesses.{Access, a_look, a_step, marks_of, own_of, at_mark, IsLook, IsOwn, had_after, looks_at}

-- the access is what the course does next
abbrev pub IsNext : {A : Type 0} → ℕ → List Log → List ℕ → Course A → Access → Type 0
IsNext me seen had (ends a) access = ⊥
IsNext me seen had (looks cell see) (a_look m) = IsLook me seen had cell m
IsNext me seen had (looks cell see) (a_step o) = ⊥
IsNext me seen had (makes cell step rest) (a_look m) = ⊥
IsNext me seen had (makes cell step rest) (a_step o) = IsOwn me seen had cell step o

-- what is left of the course after the access: a look goes on by what its mark shows
abbrev pub rest_after : {A : Type 0} → List Log → Course A → Access → Course A
rest_after seen (ends a) access = ends a
rest_after seen (looks cell see) (a_look m) = see (at_mark seen m)
rest_after seen (looks cell see) (a_step o) = looks cell see
rest_after seen (makes cell step rest) (a_look m) = makes cell step rest
rest_after seen (makes cell step rest) (a_step o) = rest

-- the accesses follow the course down to this rest, by a writer that had seen so many entries of
-- each cell before and so many at the end
abbrev pub Follows : {A : Type 0}
    → ℕ → List Log → List ℕ → Course A → List Access → Course A → List ℕ → Type 0
Follows me seen had course [] rest end = (rest ≡ course) × (end ≡ had)
Follows me seen had course (access ∷ accesses) rest end =
    IsNext me seen had course access
    × Follows me seen (had_after had access) (rest_after seen course access) accesses rest end

-- there are as many cells, and each log begins as it was before
abbrev pub Grows : List Log → List Log → Type 0
Grows [] [] = Unit {0}
Grows [] (log ∷ logs) = ⊥
Grows (log ∷ logs) [] = ⊥
Grows (old ∷ olds) (new ∷ news) = ((more : Log) × (new ≡ old ++ more)) × Grows olds news

-- how often a writer has found each cell closed, and noted a fault of each cell's log
pub record Faults : Type 0 where
  pub barred : List ℕ
  pub broke : List ℕ

-- a writer: its number, what it has seen of each cell, the marks and own marks of its record, and
-- how often it has looked at each cell, and met faults there, since it began
pub record Writer : Type 0 where
  pub me : ℕ
  pub seen : List Log
  pub marks : List CutMark
  pub own : List OwnMark
  pub looks : List ℕ
  pub faults : Faults

-- the writer with nothing in its record
abbrev pub cleared : Writer → Writer
cleared w = record w { marks = []; own = [] }

-- how many entries of each cell there are
abbrev pub counts : List Log → List ℕ
counts logs = map length logs

-- no count is less than it was
pub record AreNoFewer (old new : Faults) : Type 0 where
  pub barred : (cell : ℕ) → get_or old.barred cell 0 ≤ get_or new.barred cell 0
  pub broke : (cell : ℕ) → get_or old.broke cell 0 ≤ get_or new.broke cell 0

-- from old to new the writer did accesses that follow the course down to this rest: its record
-- gained just their marks and own marks, its count of looks at each cell rose by the number of
-- marks, and it may have met faults
pub record Reaches {A : Type 0} (old new : Writer) (course rest : Course A) : Type 0 where
  pub same : new.me ≡ old.me
  pub grown : Grows old.seen new.seen
  pub accesses : List Access
  pub marks : new.marks ≡ old.marks ++ marks_of accesses
  pub own : new.own ≡ old.own ++ own_of accesses
  pub looked : (cell : ℕ)
      → get_or new.looks cell 0 ≡ get_or old.looks cell 0 + looks_at cell (marks_of accesses)
  pub faults : AreNoFewer old.faults new.faults
  pub followed : Follows old.me new.seen (counts old.seen) course accesses rest (counts new.seen)

-- the writer followed the whole course, which has this answer
abbrev pub Answers : {A : Type 0} → Writer → Writer → Course A → A → Type 0
Answers old new course a = Reaches old new course (ends a)

-- the writer followed a beginning of the course
abbrev pub Begins : {A : Type 0} → Writer → Writer → Course A → Type 0
Begins {A} old new course = (rest : Course A) × Reaches old new course rest
