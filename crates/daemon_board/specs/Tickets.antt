-- What is seen of a board's daemons by whoever only lists them and runs them at the time 0 (own).
use Rattle.std.specs.Prelude.{ℕ, pos, ◌+◌, ◌^◌, ◌-◌, ◌==◌, ◌||◌, min, nat_le, Bool, true, false, List, [], ◌∷◌, ◌++◌, length, map, Option, Some, None, option_map, bytes_eq, codes, if◌then◌else◌}
use Rattle.tuple_values.specs.Document.{ByteList, Doc, text, long}
use Rattle.expr_types.specs.ExprTree.{ExprTree, expr_tree}
use Rattle.daemon_board.specs.Daemons.{Entry, Shown, stopped_state}
use Rattle.daemon_board.specs.Listed.{state_text, with_fault}
use Rattle.daemon_board.specs.declared.daemon.State.{State}
use Rattle.daemon_board.specs.declared.daemon.State.TheVariants.{Running}

-- a daemon: its id, whether it ends after a run that reads nothing, whether it runs, how often it
-- ran, the text of its last run's fault, and the tree of its expression, which is none while that
-- is out
pub record Ticket : Type 0 where
  pub id : ByteList
  pub terminate : Bool
  pub state : State
  pub runs : ℕ
  pub fault : Option ByteList
  pub tree : Option ExprTree

-- a board: its tickets in the order in which they were put on it, and how many ever were
pub record Tickets : Type 0 where
  pub tickets : List Ticket
  pub put : ℕ

-- the ticket of a daemon
abbrev pub ticket_of : Entry → Ticket
ticket_of e = record {
  id = e.id;
  terminate = e.daemon.terminate;
  state = e.daemon.state;
  runs = e.daemon.runs;
  fault = e.daemon.fault;
  tree = option_map expr_tree e.daemon.checked;
}

-- those of a board
abbrev pub tickets_of : Shown → Tickets
tickets_of b = record { tickets = map ticket_of b.daemons; put = b.put }

-- the board with other tickets
abbrev pub with_tickets : Tickets → List Ticket → Tickets
with_tickets b tickets = record b { tickets = tickets }

-- whether there is a ticket with the id
abbrev pub is_among : ByteList → List Ticket → Bool
is_among id [] = false
is_among id (t ∷ tickets) = if bytes_eq id t.id then true else is_among id tickets

-- the tickets, of which the first with the id is changed
abbrev pub change_ticket : ByteList → (Ticket → Ticket) → List Ticket → List Ticket
change_ticket id change [] = []
change_ticket id change (t ∷ tickets) =
    if bytes_eq id t.id then change t ∷ tickets else t ∷ change_ticket id change tickets

-- the tickets without the first with the id; the others keep their order
abbrev pub without_ticket : ByteList → List Ticket → List Ticket
without_ticket id [] = []
without_ticket id (t ∷ tickets) =
    if bytes_eq id t.id then tickets else t ∷ without_ticket id tickets

-- whether there is a daemon with the id
abbrev pub ticket_is_there : ByteList → Tickets → Bool
ticket_is_there id b = is_among id b.tickets

-- whether no more daemon can be put on the board: there are 256, or 2^64-1 were put on it
abbrev pub is_full_of : Tickets → Bool
is_full_of b = nat_le 256 (length b.tickets) || b.put == 2 ^ 64 - 1

-- a daemon that never ran
abbrev pub new_ticket : ByteList → Bool → ExprTree → Ticket
new_ticket id terminate tree = record {
  id = id;
  terminate = terminate;
  state = Running;
  runs = 0;
  fault = None;
  tree = Some tree;
}

-- the board with one more daemon, at the end
abbrev pub put_ticket : ByteList → Bool → ExprTree → Tickets → Tickets
put_ticket id terminate tree b = record {
  tickets = b.tickets ++ new_ticket id terminate tree ∷ [];
  put = b.put + 1;
}

-- the daemon with the id was stopped: if it ran, it runs no more
abbrev pub stop_ticket : ByteList → Tickets → Tickets
stop_ticket id b =
    with_tickets b (change_ticket id (λ t. record t { state = stopped_state t.state }) b.tickets)

-- the daemon with the id was made to run again
abbrev pub resume_ticket : ByteList → Tickets → Tickets
resume_ticket id b =
    with_tickets b (change_ticket id (λ t. record t { state = Running }) b.tickets)

-- the daemon with the id was removed
abbrev pub drop_ticket : ByteList → Tickets → Tickets
drop_ticket id b = with_tickets b (without_ticket id b.tickets)

-- the fields of a daemon in a list: those that a board lists
abbrev pub ticket_row : Ticket → Doc
ticket_row t =
    with_fault t.fault ((codes "id", text t.id)
    ∷ (codes "iterations", long (pos (min t.runs (2 ^ 63 - 1))))
    ∷ (codes "state", text (state_text t.state)) ∷ [])

-- one tuple for each daemon, in the order in which they were put on the board
abbrev pub listed_tickets : Tickets → List Doc
listed_tickets b = map ticket_row b.tickets
