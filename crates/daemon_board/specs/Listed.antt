-- The tuples that list the daemons of a board (own).
use Rattle.std.specs.Prelude.{ℕ, pos, ◌^◌, ◌-◌, min, List, [], ◌∷◌, map, Option, Some, None, codes}
use Rattle.tuple_values.specs.Document.{ByteList, Doc, Datum, text, long, put}
use Rattle.daemon_board.specs.Daemons.{Entry, Shown}
use Rattle.daemon_board.specs.declared.daemon.Daemon.{Daemon}
use Rattle.daemon_board.specs.declared.daemon.State.{State}
use Rattle.daemon_board.specs.declared.daemon.State.TheVariants.{Running, Stopped, Ended}

-- what is told of a state
abbrev pub state_text : State → ByteList
state_text Running = codes "RUNNING"
state_text Stopped = codes "STOPPED"
state_text Ended = codes "ENDED"

-- the fields of each daemon, in the order of their names; a number of runs is told up to 2^63-1
abbrev pub told_of : Entry → Doc
told_of e =
    (codes "id", text e.id)
    ∷ (codes "iterations", long (pos (min e.daemon.runs (2 ^ 63 - 1))))
    ∷ (codes "state", text (state_text e.daemon.state)) ∷ []

-- and before them the text of its last run's fault, where it had one
abbrev pub with_fault : Option ByteList → Doc → Doc
with_fault None doc = doc
with_fault (Some fault) doc = (codes "fault", text fault) ∷ doc

abbrev pub row_of : Entry → Doc
row_of e = with_fault e.daemon.fault (told_of e)

-- one tuple for each daemon, in the order in which they were put on the board
abbrev pub listed : Shown → List Doc
listed b = map row_of b.daemons
