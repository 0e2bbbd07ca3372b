-- What a writer can do at a cell: look at it, append a step to it, and deliver to it (own).
use Rattle.std.specs.Prelude.{ℕ, ◌≡◌, ◌≢◌, ◌⊎◌, true, List, [], ◌∷◌, ◌++◌, get_or, map, set, length}
use Rattle.std.specs.List.{AllByRecursion}
use Rattle.shard_versions.specs.declared.entry.Kind.{Kind}
use Rattle.exchange_rules.specs.Cells.{Log, Payload, write, author_of}
use Rattle.exchange_rules.specs.Courses.{appended}
use Rattle.exchange_rules.specs.Accesses.{one_more}
use Rattle.exchange_rules.specs.Following.{Writer}
use Rattle.exchange_rules.specs.Steps.{closed}

-- the writer after a look at the cell, where these entries had come since it had seen the cell
abbrev pub looked_with : Writer → ℕ → Log → Writer
looked_with w cell more = record w {
  seen = set w.seen cell (get_or w.seen cell [] ++ more);
  marks = w.marks ++ record { cell = cell; upto = length (get_or w.seen cell [] ++ more) } ∷ [];
  looks = one_more cell w.looks;
}

-- the writer looked at the cell once, and what had come there since is by others
pub record LooksAt (old new : Writer) (cell : ℕ) : Type 0 where
  pub more : Log
  pub others : AllByRecursion (λ n. author_of n ≢ old.me) more
  pub is : new ≡ looked_with old cell more

-- the writer after it appended the step right behind what it has seen of the cell
abbrev pub made : Writer → ℕ → List Payload → Writer
made w cell step = record w {
  seen = appended w.me w.seen cell step;
  own = w.own ++ record {
    cell = cell;
    from = length (get_or w.seen cell []);
    count = length step;
  } ∷ [];
}

-- the writer after a delivery to the cell of which these entries were admitted: they are appended
-- right behind what it has seen, and a Mark behind them; where there are none nothing is
abbrev pub delivered : Writer → ℕ → List Kind → Writer
delivered w cell [] = w
delivered w cell (k ∷ ks) = made w cell (map write (closed true (k ∷ ks)))

-- the writer after it found the cell closed
abbrev pub barred_at : Writer → ℕ → Writer
barred_at w cell =
    record w { faults = record w.faults { barred = one_more cell w.faults.barred } }

-- the writer after it noted a fault of the cell's log
abbrev pub broken_at : Writer → ℕ → Writer
broken_at w cell = record w { faults = record w.faults { broke = one_more cell w.faults.broke } }

-- an append to the cell's log failed, and was noted: the step, which has so many writes, stands, or
-- it doesn't; this many of its writes stand
abbrev pub IsBroken : (old made : Writer) → ℕ → (writes stand : ℕ) → Writer → Type 0
IsBroken old made cell writes stand new =
    ((stand ≡ 0) × (new ≡ broken_at old cell)) ⊎ ((stand ≡ writes) × (new ≡ broken_at made cell))
