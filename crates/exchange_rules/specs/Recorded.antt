-- What own marks record of accesses that follow a course (own).
use Rattle.std.specs.Prelude.{ℕ, ◌≡◌, ◌⊎◌, List, [], ◌∷◌, Some, None}
use Rattle.std.specs.List.{AllByRecursion}
use Rattle.shard_versions.specs.declared.cut.CutMark.{CutMark}
use Rattle.shard_versions.specs.declared.cut.OwnMark.{OwnMark}
use Rattle.exchange_rules.specs.Cells.{Log}
use Rattle.exchange_rules.specs.Courses.{Course}
use Rattle.exchange_rules.specs.Accesses.{Access, marks_of, own_of}
use Rattle.exchange_rules.specs.Following.{Follows}
use Rattle.exchange_rules.specs.Own.{own_entries, steps_at}
use Rattle.exchange_rules.specs.Looking.{LooksFirst, IsBehind, AreBehind}

-- at each cell, what the writer appended between two times, by how many entries it had seen of each
-- cell at them, is just what these own marks say, each step once and in order
abbrev pub AreRecorded : ℕ → List Log → (had end : List ℕ) → List OwnMark → Type 0
AreRecorded me seen had end own =
    (cell : ℕ) → own_entries me seen had end cell ≡ steps_at cell seen own

-- one of these marks is of the own mark's cell and ends where it begins
abbrev pub IsLookedAt : List CutMark → OwnMark → Type 0
IsLookedAt [] o = ⊥
IsLookedAt (m ∷ marks) o = IsBehind (Some m) o ⊎ IsLookedAt marks o

-- each of these own marks has such a mark
abbrev pub AreLookedAt : List CutMark → List OwnMark → Type 0
AreLookedAt marks own = AllByRecursion (IsLookedAt marks) own

-- accesses that follow a course: what the writer appended meanwhile is just what their own marks
-- say
abbrev pub FollowingIsRecorded : Type 0 → Type 0
FollowingIsRecorded A =
    (me : ℕ) (seen : List Log) (had : List ℕ) (course : Course A) (accesses : List Access)
    (rest : Course A) (end : List ℕ) → Follows me seen had course accesses rest end
    → AreRecorded me seen had end (own_of accesses)

-- accesses that follow a course which looks first: each own mark begins where the mark right before
-- it, which is of its cell, ends
abbrev pub FollowingIsLookedAt : Type 0 → Type 0
FollowingIsLookedAt A =
    (me : ℕ) (seen : List Log) (had : List ℕ) (course : Course A) (accesses : List Access)
    (rest : Course A) (end : List ℕ) → LooksFirst None course
    → Follows me seen had course accesses rest end
    → AreBehind None accesses × AreLookedAt (marks_of accesses) (own_of accesses)
