-- What each call of a board says of what it held, of what it holds, and of its answer (own).
use Rattle.std.specs.Prelude.{ℕ, ◌≡◌, Bool, true, false, List, Option, Some, None, Result, Ok, Err}
use Rattle.tuple_values.specs.Document.{ByteList, Doc}
use Rattle.daemon_board.specs.Daemons.{Entry, Shown, with_daemons, first_such, change_first, without_first, has_id, is_there, is_full, put_on, claimed, finished, is_away}
use Rattle.daemon_board.specs.declared.claim.Claim.{Claim}
use Rattle.daemon_board.specs.declared.daemon.Daemon.{Daemon}
use Rattle.daemon_board.specs.declared.fault.BoardFault.{BoardFault}
use Rattle.daemon_board.specs.declared.fault.BoardFault.TheVariants.{DaemonTaken, UnknownDaemon, BoardFull, OutOfMemory}
use Rattle.daemon_board.specs.Listed.{listed}

-- what holds between what a board held and what it holds, where it tells; a board that doesn't tell
-- never does
abbrev pub WhereTold : Option Shown → Option Shown → (Shown → Shown → Type 0) → Type 0
WhereTold None new Says = new ≡ None
WhereTold (Some old) new Says = (b : Shown) × (new ≡ Some b) × Says old b

-- a daemon was put on the board, or the board is as it was: the id is taken, or else the board is
-- full, or memory was wanting
abbrev pub Starts : ByteList → Daemon → Result (Unit {0}) BoardFault → Shown → Shown → Type 0
Starts id d (Ok u) old new =
    (is_there id old ≡ false) × (is_full old ≡ false) × (new ≡ put_on old id d)
Starts id d (Err (DaemonTaken taken)) old new =
    (taken ≡ id) × (is_there id old ≡ true) × (new ≡ old)
Starts id d (Err UnknownDaemon) old new = ⊥
Starts id d (Err BoardFull) old new =
    (is_there id old ≡ false) × (is_full old ≡ true) × (new ≡ old)
Starts id d (Err OutOfMemory) old new = new ≡ old

-- the board is so, or as it was: no daemon has the id
abbrev pub MakesOf : ByteList → List Entry → Result (Unit {0}) BoardFault → Shown → Shown → Type 0
MakesOf id entries (Ok u) old new =
    (is_there id old ≡ true) × (new ≡ with_daemons old entries)
MakesOf id entries (Err fault) old new =
    (fault ≡ UnknownDaemon) × (is_there id old ≡ false) × (new ≡ old)

-- the daemon with the id was changed so
abbrev pub Changes : ByteList → (Daemon → Daemon) → Result (Unit {0}) BoardFault → Shown → Shown
    → Type 0
Changes id change answer old new =
    MakesOf id (change_first (has_id id) change old.daemons) answer old new

-- the daemon with the id was removed
abbrev pub Kills : ByteList → Result (Unit {0}) BoardFault → Shown → Shown → Type 0
Kills id answer old new = MakesOf id (without_first (has_id id) old.daemons) answer old new

-- the claim is of this daemon
pub record IsOf (e : Entry) (c : Claim) : Type 0 where
  pub number : c.number ≡ e.daemon.number
  pub whole : Some c.checked ≡ e.daemon.checked

-- the claim is of this daemon, where there is one, and else there is none
abbrev pub IsClaimOf : Option Entry → Option Claim → Type 0
IsClaimOf None claim = claim ≡ None
IsClaimOf (Some e) claim = (c : Claim) × (claim ≡ Some c) × IsOf e c

-- the first daemon that passes the test was claimed; there is none exactly where there is no claim
pub record Claims (test : Entry → Bool) (answer : Option Claim) (old new : Shown) : Type 0 where
  pub claim : IsClaimOf (first_such test old.daemons) answer
  pub left : new ≡ with_daemons old (change_first test claimed old.daemons)

-- the board is listed, and as it was
abbrev pub Lists : {E : Type 0} → Result (List Doc) E → Shown → Shown → Type 0
Lists (Ok docs) old new = (docs ≡ listed old) × (new ≡ old)
Lists (Err fault) old new = new ≡ old

-- the run of a claim is over: the daemon that is out with its number gets its expression back
abbrev pub Finishes : Claim → ℕ → Option ByteList → ℕ → Shown → Shown → Type 0
Finishes c tuples fault now old new =
    new ≡ with_daemons old
    (change_first (is_away c.number) (finished c.checked tuples fault now) old.daemons)
