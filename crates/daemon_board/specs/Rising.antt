-- What every board keeps of its daemons: their numbers rise, and between runs none is out (own).
use Rattle.std.specs.Prelude.{◌≡◌, ℕ, ◌<◌, ◌≤◌, true, List, [], ◌∷◌}
use Rattle.std.specs.List.{AllByRecursion}
use Rattle.std.specs.Option.{is_some}
use Rattle.daemon_board.specs.Daemons.{Entry, Shown}

-- the daemons' numbers rise from one to the next, all above the first number and none above the
-- second
abbrev pub RiseWithin : ℕ → ℕ → List Entry → Type 0
RiseWithin low most [] = low ≤ most
RiseWithin low most (e ∷ entries) =
    (low < e.daemon.number) × RiseWithin e.daemon.number most entries

-- the daemons' numbers rise in their order, and are at most how many were ever put on the board
abbrev pub IsRising : Shown → Type 0
IsRising b = RiseWithin 0 b.put b.daemons

-- each of these daemons has its expression
abbrev pub Rest : List Entry → Type 0
Rest entries = AllByRecursion (λ e. is_some e.daemon.checked ≡ true) entries

-- no daemon of the board is out
abbrev pub IsResting : Shown → Type 0
IsResting b = Rest b.daemons

-- what a board keeps from one run of a daemon to the next
pub record IsKept (b : Shown) : Type 0 where
  pub rising : IsRising b
  pub resting : IsResting b
