-- What a request does, as one small program of looks at cells and of steps that it appends (own).
use Rattle.std.specs.Prelude.{ℕ, List, [], ◌++◌, get_or, set, Result, Ok, Err}
use Rattle.exchange_rules.specs.Cells.{Log, Payload, signed_behind}

-- a course ends with its answer, or looks at a cell and goes on by what it sees, or appends a step
-- to a cell and goes on
pub data Course (A : Type 0) : Type 0 where
  ends : A → Course A
  looks : ℕ → (Log → Course A) → Course A
  makes : ℕ → List Payload → Course A → Course A

-- the first course, and then the one that its answer leads to
abbrev pub and_then : {A B : Type 0} → Course A → (A → Course B) → Course B
and_then (ends a) next = next a
and_then (looks cell see) next = looks cell (λ log. and_then (see log) next)
and_then (makes cell step rest) next = makes cell step (and_then rest next)

-- what is done with an answer, unless it is a refusal
abbrev pub unless_refused : {A B E : Type 0} → (A → Course (Result B E)) → Result A E
    → Course (Result B E)
unless_refused next (Ok a) = next a
unless_refused next (Err refusal) = ends (Err refusal)

-- the first course, and then the one that its answer leads to, unless the first is refused
abbrev pub and_ok : {A B E : Type 0} → Course (Result A E) → (A → Course (Result B E))
    → Course (Result B E)
and_ok course next = and_then course (unless_refused next)

-- the logs with the step behind the cell's, under this writer's number
abbrev pub appended : ℕ → List Log → ℕ → List Payload → List Log
appended me logs cell step =
    set logs cell (get_or logs cell [] ++ signed_behind me (get_or logs cell []) step)

-- what the course leaves in the logs and answers where nobody else writes: each look is at the
-- whole log
abbrev pub run_alone : {A : Type 0} → ℕ → List Log → Course A → List Log × A
run_alone me logs (ends a) = (logs, a)
run_alone me logs (looks cell see) = run_alone me logs (see (get_or logs cell []))
run_alone me logs (makes cell step rest) = run_alone me (appended me logs cell step) rest
