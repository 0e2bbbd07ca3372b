-- What messages leave and are answered, where each is carried out alone and every running daemon
-- runs once after it, and where the law of all histories holds of what they leave (own).
use Rattle.std.specs.Prelude.{ℕ, ◌<◌, List, [], ◌∷◌, length, take}
use Rattle.tuple_values.specs.declared.names.NameShards.{NameShards}
use Rattle.exchange_rules.specs.Cells.{Log}
use Rattle.exchange_rules.specs.Courses.{run_alone}
use Rattle.exchange_rules.specs.Rows.{Layout}
use Rattle.site_laws.specs.SiteCells.{IsLawful}
use Rattle.daemon_board.specs.Tickets.{Tickets, with_tickets}
use Rattle.daemon_steps.specs.Steps.{steps_course}
use Rattle.form_request.specs.declared.reading.Message.{Message}
use Rattle.stream_handler.specs.Asks.{ask_of}
use Rattle.stream_handler.specs.Requests.{request_course}
use Rattle.stream_handler.specs.declared.outcome.Outcome.{Outcome}
use Rattle.stream_commands.specs.Boards.{board_alone, no_tickets}
use Rattle.stream_commands.specs.Replies.{layout, logs_at_start}

-- what the board is after a message, and what it answers where the message's request asks it
abbrev pub asked_alone : Layout → Tickets → Message → Tickets × Outcome
asked_alone l b m = board_alone (ask_of l.names m.request) b

-- what the request of a message leaves in the logs and is answered, carried out alone over these
-- logs and this board
abbrev pub answered_alone : Layout → List Log → Tickets → Message → List Log × Outcome
answered_alone l logs b m =
    run_alone 1 logs (request_course l (asked_alone l b m).1 m.request)

-- the logs and the board once every running daemon of the board ran once, one after another in the
-- order in which they were put on it
abbrev pub after_daemons : Layout → List Log → Tickets → List Log × Tickets
after_daemons l logs b =
    let ran = run_alone 1 logs (steps_course l b.tickets) in (ran.0, with_tickets b ran.1)

-- the logs and the board after a message and after the daemons that run then
abbrev pub after_message : Layout → List Log → Tickets → Message → List Log × Tickets
after_message l logs b m =
    after_daemons l (answered_alone l logs b m).0 (asked_alone l b m).0

-- the logs and the board after these messages
abbrev pub after_messages : Layout → List Log → Tickets → List Message → List Log × Tickets
after_messages l logs b [] = (logs, b)
after_messages l logs b (m ∷ messages) =
    after_messages l (after_message l logs b m).0 (after_message l logs b m).1 messages

-- what these messages leave in the logs of new collections, with a new board
abbrev pub logs_after : List NameShards → List Message → List Log
logs_after names messages =
    (after_messages (layout names) (logs_at_start names) no_tickets messages).0

-- the law of all histories holds before the first of these messages and after each
abbrev pub AreLawful : List NameShards → List Message → Type 0
AreLawful names messages = (upto : ℕ) → IsLawful names (logs_after names (take upto messages))

-- it holds before each of these messages
abbrev pub AreLawfulBefore : List NameShards → List Message → Type 0
AreLawfulBefore names messages =
    (upto : ℕ) → upto < length messages → IsLawful names (logs_after names (take upto messages))
