-- What a board of daemons answers, and what it is then, as a function of what is seen of its
-- daemons (own).
use Rattle.std.specs.Prelude.{◌++◌, Bool, [], None, codes, if◌then◌else◌}
use Rattle.tuple_values.specs.Document.{ByteList}
use Rattle.expr_types.specs.ExprTree.{ExprTree}
use Rattle.daemon_board.specs.Tickets.{Tickets, drop_ticket, is_full_of, listed_tickets, put_ticket, resume_ticket, stop_ticket, ticket_is_there}
use Rattle.stream_handler.specs.Boards.{Ask, nothing, lists, stops, resumes, kills, starts, change_word, op_done}
use Rattle.stream_handler.specs.Outcomes.{exception}
use Rattle.stream_handler.specs.declared.action.Change.{Change}
use Rattle.stream_handler.specs.declared.action.Change.TheVariants.{Stop, Start, Kill}
use Rattle.stream_handler.specs.declared.outcome.Outcome.{Outcome}
use Rattle.stream_handler.specs.declared.outcome.Outcome.TheVariants.{Indexed, ResultSet}

-- the board on which no daemon was ever put
abbrev pub no_tickets : Tickets
no_tickets = record { tickets = []; put = 0 }

-- the first board and that the change is done, where there is a daemon with the id; else the second
-- board as it is, and that no daemon has the id
abbrev pub changed_alone : Change → ByteList → Tickets → Tickets → Tickets × Outcome
changed_alone change id changed b =
    if ticket_is_there id b then (changed, op_done (change_word change) id)
    else (b, exception (codes "UnknownDaemon " ++ id))

-- the board with one more daemon, and that it is started; or the board as it is, and that the id is
-- taken, or else that there is no place
abbrev pub started_alone : ByteList → ExprTree → Bool → Tickets → Tickets × Outcome
started_alone id e terminate b =
    if ticket_is_there id b then (b, exception (codes "DaemonTaken " ++ id))
    else if is_full_of b then (b, exception (codes "BoardFull"))
    else (put_ticket id terminate e b, op_done (codes "started ") id)

-- what a board is after it is asked so, and what it answers; where nothing is asked, the answer has
-- no part in anything
abbrev pub board_alone : Ask → Tickets → Tickets × Outcome
board_alone nothing b = (b, Indexed)
board_alone lists b = (b, ResultSet (listed_tickets b) None)
board_alone (stops id) b = changed_alone Stop id (stop_ticket id b) b
board_alone (resumes id) b = changed_alone Start id (resume_ticket id b) b
board_alone (kills id) b = changed_alone Kill id (drop_ticket id b) b
board_alone (starts id e interval terminate) b = started_alone id e terminate b
