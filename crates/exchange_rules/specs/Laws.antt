-- What holds of all that follows a course, whatever the course answers (own).
use Rattle.std.specs.Prelude.{ℕ, ◌≡◌, List, None}
use Rattle.exchange_rules.specs.Cells.{Log}
use Rattle.exchange_rules.specs.Courses.{Course, and_then, run_alone}
use Rattle.exchange_rules.specs.Accesses.{Access, own_of}
use Rattle.exchange_rules.specs.Following.{Follows, Grows, Writer, counts, Reaches, Answers}
use Rattle.exchange_rules.specs.Own.{IsAlone, own_entries, steps_at}
use Rattle.exchange_rules.specs.Looking.{LooksFirst, AreBehind}

-- accesses that follow a course over what a writer has seen follow it over all that it sees later
abbrev pub FollowingStays : Type 0 → Type 0
FollowingStays A =
    (me : ℕ) (seen later : List Log) (had : List ℕ) (course : Course A) (accesses : List Access)
    (rest : Course A) (end : List ℕ) → Grows seen later
    → Follows me seen had course accesses rest end → Follows me later had course accesses rest end

-- a writer that followed a course down to its rest, and then the rest, followed the course
abbrev pub FollowingJoins : Type 0 → Type 0
FollowingJoins A =
    (old mid new : Writer) (course rest last : Course A) → Reaches old mid course rest
    → Reaches mid new rest last → Reaches old new course last

-- a writer that followed a course followed the longer one that it begins
abbrev pub FollowingGoesOn : Type 0 → Type 0 → Type 0
FollowingGoesOn A B =
    (old new : Writer) (course rest : Course A) (next : A → Course B)
    → Reaches old new course rest → Reaches old new (and_then course next) (and_then rest next)

-- where all that came since is the writer's own, what it has seen and answers is what the course
-- leaves and answers where it runs alone
abbrev pub RunsAlone : Type 0 → Type 0
RunsAlone A =
    (old new : Writer) (course : Course A) (answer : A)
    → IsAlone old.me (counts old.seen) new.seen → Answers old new course answer
    → run_alone old.me old.seen course ≡ (new.seen, answer)

-- what the writer appended to a cell is just what its own marks say, each step once and in order
abbrev pub OwnStepsAreRecorded : Type 0 → Type 0
OwnStepsAreRecorded A =
    (old new : Writer) (course rest : Course A) (r : Reaches old new course rest) (cell : ℕ)
    → own_entries old.me new.seen (counts old.seen) (counts new.seen) cell
    ≡ steps_at cell new.seen (own_of r.accesses)

-- a writer that followed a course which looks first: each step is right behind what the look
-- before it showed of its cell
abbrev pub StepsAreLookedAt : Type 0 → Type 0
StepsAreLookedAt A =
    (old new : Writer) (course rest : Course A) → LooksFirst None course
    → (r : Reaches old new course rest) → AreBehind None r.accesses
