-- What is seen of a board's daemons goes along with each of the board's functions.
use Rattle.std.proofs.Common.{◌≡◌, ℕ, ◌+◌, ◌==◌, ◌^◌, ◌-◌, ◌||◌, Bool, true, false, List, [], ◌∷◌, map, Some, refl, sym, ap, ◌∙◌}
use Rattle.std.specs.Prelude.{bytes_eq, nat_le, if◌then◌else◌}
use Rattle.std.specs.Option.{is_some}
use Rattle.std.proofs.lemmas.List.{map-append, length-map}
use Rattle.tuple_values.specs.Document.{ByteList}
use Rattle.expr_types.specs.ExprTree.{expr_tree}
use Rattle.expr_types.specs.declared.expr.Expr.{Expr}
use Rattle.daemon_board.specs.Daemons.{Entry, Shown, change_first, first_such, fresh, has_id, is_full, is_running, is_there, put_on, resumed, stopped, with_daemons, without_first}
use Rattle.daemon_board.specs.Listed.{listed, row_of}
use Rattle.daemon_board.specs.Tickets.{Ticket, change_ticket, drop_ticket, is_among, is_full_of, listed_tickets, put_ticket, resume_ticket, stop_ticket, ticket_is_there, ticket_of, ticket_row, tickets_of, with_tickets, without_ticket}
use Rattle.daemon_board.specs.declared.daemon.Daemon.{Daemon}
use Rattle.daemon_board.specs.declared.daemon.State.{State}
use Rattle.daemon_board.specs.declared.daemon.State.TheVariants.{Running, Stopped, Ended}

-- whether there is a daemon with the id
among-tickets : (id : ByteList) (es : List Entry)
    → is_some (first_such (has_id id) es) ≡ is_among id (map ticket_of es)
among-tickets id [] = refl
among-tickets id (e ∷ es) = by (bytes_eq id e.id) (among-tickets id es)
  where
    by : (b : Bool) → is_some (first_such (has_id id) es) ≡ is_among id (map ticket_of es)
        → is_some (if b then Some e else first_such (has_id id) es)
        ≡ (if b then true else is_among id (map ticket_of es))
    by true rest = refl
    by false rest = rest

pub ticket_is_there-tickets_of : (id : ByteList) (b : Shown)
    → ticket_is_there id (tickets_of b) ≡ is_there id b
ticket_is_there-tickets_of id b = sym (among-tickets id b.daemons)

-- whether the board is full
pub is_full_of-tickets_of : (b : Shown) → is_full_of (tickets_of b) ≡ is_full b
is_full_of-tickets_of b =
    ap (λ n. nat_le 256 n || b.put == 2 ^ 64 - 1) (length-map b.daemons ticket_of)

-- one more daemon
pub tickets_of-put_on : (b : Shown) (id : ByteList) (e : Expr) (interval : ℕ) (terminate : Bool)
    (now : ℕ) → tickets_of (put_on b id (fresh b e interval terminate now))
    ≡ put_ticket id terminate (expr_tree e) (tickets_of b)
tickets_of-put_on b id e interval terminate now =
    ap (λ tickets. record { tickets = tickets; put = b.put + 1 })
    (map-append ticket_of b.daemons
    (record { id = id; daemon = fresh b e interval terminate now } ∷ []))

-- a change of the daemon with the id that changes its ticket so
tickets-changed : (id : ByteList) (change : Daemon → Daemon) (seen : Ticket → Ticket)
    → ((e : Entry) → ticket_of (record e { daemon = change e.daemon }) ≡ seen (ticket_of e))
    → (es : List Entry)
    → map ticket_of (change_first (has_id id) change es) ≡ change_ticket id seen (map ticket_of es)
tickets-changed id change seen same [] = refl
tickets-changed id change seen same (e ∷ es) =
    by (bytes_eq id e.id) (tickets-changed id change seen same es)
  where
    by : (b : Bool)
        → map ticket_of (change_first (has_id id) change es)
        ≡ change_ticket id seen (map ticket_of es)
        → map ticket_of (if b then record e { daemon = change e.daemon } ∷ es
        else e ∷ change_first (has_id id) change es)
        ≡ (if b then seen (ticket_of e) ∷ map ticket_of es
        else ticket_of e ∷ change_ticket id seen (map ticket_of es))
    by true rest = ap (λ t. t ∷ map ticket_of es) (same e)
    by false rest = ap (λ tickets. ticket_of e ∷ tickets) rest

-- the daemon with the id is stopped
pub tickets_of-stopped : (id : ByteList) (b : Shown)
    → tickets_of (with_daemons b (change_first (has_id id) stopped b.daemons))
    ≡ stop_ticket id (tickets_of b)
tickets_of-stopped id b =
    ap (with_tickets (tickets_of b)) (tickets-changed id stopped _ (λ e. refl) b.daemons)

-- whatever the time is, a ticket that is made to run again runs
ticket-resumed : (now : ℕ) (e : Entry) (s : State) → e.daemon.state ≡ s
    → ticket_of (record e { daemon = resumed now e.daemon })
    ≡ record (ticket_of e) { state = Running }
ticket-resumed now e Running is =
    ap (λ s. ticket_of (record e {
      daemon = if is_running s then e.daemon
          else record e.daemon { state = Running; next = now };
    })) is
    ∙ ap (λ s. record (ticket_of e) { state = s }) is
ticket-resumed now e Stopped is =
    ap (λ s. ticket_of (record e {
      daemon = if is_running s then e.daemon
          else record e.daemon { state = Running; next = now };
    })) is
ticket-resumed now e Ended is =
    ap (λ s. ticket_of (record e {
      daemon = if is_running s then e.daemon
          else record e.daemon { state = Running; next = now };
    })) is

-- the daemon with the id is made to run again
pub tickets_of-resumed : (id : ByteList) (now : ℕ) (b : Shown)
    → tickets_of (with_daemons b (change_first (has_id id) (resumed now) b.daemons))
    ≡ resume_ticket id (tickets_of b)
tickets_of-resumed id now b =
    ap (with_tickets (tickets_of b)) (tickets-changed id (resumed now) _
    (λ e. ticket-resumed now e e.daemon.state refl) b.daemons)

-- the tickets without that of the daemon with the id
tickets-removed : (id : ByteList) (es : List Entry)
    → map ticket_of (without_first (has_id id) es) ≡ without_ticket id (map ticket_of es)
tickets-removed id [] = refl
tickets-removed id (e ∷ es) = by (bytes_eq id e.id) (tickets-removed id es)
  where
    by : (b : Bool)
        → map ticket_of (without_first (has_id id) es) ≡ without_ticket id (map ticket_of es)
        → map ticket_of (if b then es else e ∷ without_first (has_id id) es)
        ≡ (if b then map ticket_of es else ticket_of e ∷ without_ticket id (map ticket_of es))
    by true rest = refl
    by false rest = ap (λ tickets. ticket_of e ∷ tickets) rest

-- the daemon with the id is removed
pub tickets_of-removed : (id : ByteList) (b : Shown)
    → tickets_of (with_daemons b (without_first (has_id id) b.daemons))
    ≡ drop_ticket id (tickets_of b)
tickets_of-removed id b = ap (with_tickets (tickets_of b)) (tickets-removed id b.daemons)

-- the list of the daemons
pub listed_tickets-tickets_of : (b : Shown) → listed_tickets (tickets_of b) ≡ listed b
listed_tickets-tickets_of b = rows b.daemons
  where
    rows : (es : List Entry) → map ticket_row (map ticket_of es) ≡ map row_of es
    rows [] = refl
    rows (e ∷ es) = ap (λ docs. row_of e ∷ docs) (rows es)
