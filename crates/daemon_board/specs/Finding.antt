-- Which daemon is looked for, and where it stands (own).
use Rattle.std.specs.Prelude.{◌≡◌, ℕ, zero, suc, ◌==◌, ◌&&◌, nat_lt, Bool, true, false, List, [], ◌∷◌, Option, Some, None}
use Rattle.std.specs.Option.{is_none}
use Rattle.std.specs.List.{AllByRecursion}
use Rattle.tuple_values.specs.Document.{ByteList}
use Rattle.daemon_board.specs.Daemons.{Entry, may_run, is_due}
use Rattle.daemon_board.specs.declared.daemon.Daemon.{Daemon}
use Rattle.daemon_board.specs.declared.finding.Wanted.{Wanted}
use Rattle.daemon_board.specs.declared.finding.Wanted.TheVariants.{After, Due, Away}

-- whether the daemon is the one that is looked for
abbrev pub passes : Wanted → Daemon → Bool
passes (After number) d = may_run d && nat_lt number d.number
passes (Due now time) d = is_due now d && d.next == time
passes (Away number) d = is_none d.checked && d.number == number

-- the daemon that is looked for may run
abbrev pub IsAtRest : Wanted → Type 0
IsAtRest (After number) = Unit {0}
IsAtRest (Due now time) = Unit {0}
IsAtRest (Away number) = ⊥

-- the place is that of the first daemon that passes the test
abbrev pub IsFirst : (Entry → Bool) → List Entry → ℕ → Type 0
IsFirst test [] place = ⊥
IsFirst test (e ∷ entries) zero = test e ≡ true
IsFirst test (e ∷ entries) (suc place) = (test e ≡ false) × IsFirst test entries place

-- the same where there is a place, and else no daemon passes
abbrev pub IsPlace : (Entry → Bool) → List Entry → Option ℕ → Type 0
IsPlace test entries None = AllByRecursion (λ e. test e ≡ false) entries
IsPlace test entries (Some place) = IsFirst test entries place

-- the same of what a board shows
abbrev pub wanted_in : Wanted → Entry → Bool
wanted_in wanted e = passes wanted e.daemon

module _ {K : Type 0} (bytes : K → ByteList) where
  -- the daemons under their ids, as a board shows them
  abbrev pub shown_entries : List (K × Daemon) → List Entry
  shown_entries [] = []
  shown_entries (e ∷ entries) = record { id = bytes e.0; daemon = e.1 } ∷ shown_entries entries
