-- What a board of daemons holds, and what is made of it (own; Solr Reference Guide, "Stream Decorator
-- Reference", daemon).
use Rattle.std.specs.Prelude.{ℕ, zero, suc, ◌+◌, ◌^◌, ◌-◌, ◌==◌, ◌&&◌, ◌||◌, min, nat_le, nat_lt, not, Bool, true, false, List, [], ◌∷◌, ◌++◌, length, Option, Some, None, bytes_eq, if◌then◌else◌}
use Rattle.std.specs.Option.{is_some, is_none}
use Rattle.tuple_values.specs.Document.{ByteList}
use Rattle.expr_types.specs.declared.expr.Expr.{Expr}
use Rattle.daemon_board.specs.declared.daemon.Daemon.{Daemon}
use Rattle.daemon_board.specs.declared.daemon.State.{State}
use Rattle.daemon_board.specs.declared.daemon.State.TheVariants.{Running, Stopped, Ended}

-- a daemon under its id
pub record Entry : Type 0 where
  pub id : ByteList
  pub daemon : Daemon

-- a board: its daemons in the order in which they were put on it, and how many ever were
pub record Shown : Type 0 where
  pub daemons : List Entry
  pub put : ℕ

-- the board on which no daemon was ever put
abbrev pub no_daemons : Shown
no_daemons = record { daemons = []; put = 0 }

-- the board with other daemons
abbrev pub with_daemons : Shown → List Entry → Shown
with_daemons b entries = record b { daemons = entries }

-- the first daemon that passes the test
abbrev pub first_such : (Entry → Bool) → List Entry → Option Entry
first_such test [] = None
first_such test (e ∷ entries) = if test e then Some e else first_such test entries

-- the daemons, of which the first that passes the test is changed
abbrev pub change_first : (Entry → Bool) → (Daemon → Daemon) → List Entry → List Entry
change_first test change [] = []
change_first test change (e ∷ entries) =
    if test e then record e { daemon = change e.daemon } ∷ entries
    else e ∷ change_first test change entries

-- the daemons without the first that passes the test; the others keep their order
abbrev pub without_first : (Entry → Bool) → List Entry → List Entry
without_first test [] = []
without_first test (e ∷ entries) =
    if test e then entries else e ∷ without_first test entries

-- whether it is the daemon with the id
abbrev pub has_id : ByteList → Entry → Bool
has_id id e = bytes_eq id e.id

-- whether there is a daemon with the id
abbrev pub is_there : ByteList → Shown → Bool
is_there id b = is_some (first_such (has_id id) b.daemons)

-- a number of 64 bits after so much more, which stays at the greatest one
abbrev pub later : ℕ → ℕ → ℕ
later number more = min (number + more) (2 ^ 64 - 1)

-- a new daemon, which is due now
abbrev pub fresh : Shown → Expr → ℕ → Bool → ℕ → Daemon
fresh b e interval terminate now =
    record {
      number = b.put + 1;
      interval = interval;
      terminate = terminate;
      next = now;
      state = Running;
      runs = 0;
      fault = None;
      checked = Some e;
    }

-- the board with one more daemon, at the end
abbrev pub put_on : Shown → ByteList → Daemon → Shown
put_on b id d =
    record { daemons = b.daemons ++ record { id = id; daemon = d } ∷ []; put = b.put + 1 }

-- whether no more daemon can be put on the board: there are 256, or 2^64-1 were put on it
abbrev pub is_full : Shown → Bool
is_full b = nat_le 256 (length b.daemons) || b.put == 2 ^ 64 - 1

-- whether it runs at its times
abbrev pub is_running : State → Bool
is_running Running = true
is_running Stopped = false
is_running Ended = false

-- a daemon that was stopped: one that ran runs no more
abbrev pub stopped_state : State → State
stopped_state Running = Stopped
stopped_state Stopped = Stopped
stopped_state Ended = Ended

abbrev pub stopped : Daemon → Daemon
stopped d = record d { state = stopped_state d.state }

-- a daemon that was made to run again is due now; one that runs stays as it is
abbrev pub resumed : ℕ → Daemon → Daemon
resumed now d = if is_running d.state then d else record d { state = Running; next = now }

-- whether it runs and is at rest, so that it may be claimed
abbrev pub may_run : Daemon → Bool
may_run d = is_running d.state && is_some d.checked

-- the same of one that was put on the board after the daemon with a number
abbrev pub may_run_after : ℕ → Entry → Bool
may_run_after number e = may_run e.daemon && nat_lt number e.daemon.number

-- whether it may be claimed and its time has come
abbrev pub is_due : ℕ → Daemon → Bool
is_due now d = may_run d && not (nat_lt now d.next)

-- the least time among those of the daemons that are due, and a number
abbrev pub least_due : ℕ → ℕ → List Entry → ℕ
least_due now least [] = least
least_due now least (e ∷ entries) =
    least_due now (if is_due now e.daemon then min least e.daemon.next else least) entries

-- whether it is due, and at this time
abbrev pub is_due_at : ℕ → ℕ → Entry → Bool
is_due_at now time e = is_due now e.daemon && e.daemon.next == time

-- whether it is due, and none that is due has a lesser time
abbrev pub is_first_due : ℕ → List Entry → Entry → Bool
is_first_due now entries = is_due_at now (least_due now (2 ^ 64 - 1) entries)

-- a daemon whose expression was taken out, to be run
abbrev pub claimed : Daemon → Daemon
claimed d = record d { checked = None }

-- whether it is the daemon with the number, and its expression is out
abbrev pub is_away : ℕ → Entry → Bool
is_away number e = is_none e.daemon.checked && e.daemon.number == number

-- the state after a run that read so many tuples, with this fault: one that is to terminate ends
-- after a run without a fault that read none
abbrev pub state_after : Daemon → ℕ → Option ByteList → State
state_after d tuples fault =
    if d.terminate && is_none fault && tuples == 0 then Ended else d.state

-- a daemon after a run: it is counted, and the next one is due when its interval is over
abbrev pub finished : Expr → ℕ → Option ByteList → ℕ → Daemon → Daemon
finished e tuples fault now d =
    record d {
      next = later now d.interval;
      state = state_after d tuples fault;
      runs = later d.runs 1;
      fault = fault;
      checked = Some e;
    }
