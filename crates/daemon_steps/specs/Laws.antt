-- What daemons do that are run once each looks first (own).
use Rattle.std.specs.Prelude.{List, None}
use Rattle.exchange_rules.specs.Looking.{LooksFirst}
use Rattle.exchange_rules.specs.Rows.{Layout}
use Rattle.daemon_board.specs.Tickets.{Ticket}
use Rattle.daemon_steps.specs.Steps.{steps_course}

-- each step of the daemons comes right after a look at its cell
abbrev pub StepsLookFirst : Type 0
StepsLookFirst = (l : Layout) (tickets : List Ticket) → LooksFirst None (steps_course l tickets)
