-- When the daemons of a board were run once each, and how far where memory was wanting (own).
use Rattle.std.specs.Prelude.{◌≡◌, List, ◌∷◌, ◌++◌}
use Rattle.exchange_rules.specs.Following.{Writer, Answers, Begins, cleared}
use Rattle.exchange_rules.specs.Rows.{Layout}
use Rattle.daemon_board.specs.Tickets.{Ticket, Tickets}
use Rattle.daemon_steps.specs.Steps.{ran, step_course, steps_course, unknown_run}

-- the writer began with an empty record, ran the daemons once each and left its record empty; the
-- board tells what the course answers
pub record IsStepped (l : Layout) (old new : Writer) (before after : Tickets) : Type 0 where
  pub end : Writer
  pub carried : Answers (cleared old) end (steps_course l before.tickets) after.tickets
  pub rest : new ≡ cleared end
  pub put : after.put ≡ before.put

-- the writer ran the daemons in front of one, and then a beginning of that one's run, which alone
-- its record tells; that run is counted with one tuple and no fault, and those behind are as they
-- were
pub record IsCutAt (l : Layout) (old new : Writer) (before after : List Ticket) : Type 0 where
  pub front : List Ticket
  pub back : List Ticket
  pub done : List Ticket
  pub cut : Ticket
  pub middle : Writer
  pub split : before ≡ front ++ cut ∷ back
  pub carried : Answers old middle (steps_course l front) done
  pub begun : Begins (cleared middle) new (step_course l cut)
  pub left : after ≡ done ++ ran cut unknown_run ∷ back

-- memory was wanting: the writer began with an empty record and followed a beginning of the course,
-- which was cut at one daemon
pub record IsCutShort (l : Layout) (old new : Writer) (before after : Tickets) : Type 0 where
  pub end : Writer
  pub begun : Begins (cleared old) end (steps_course l before.tickets)
  pub rest : cleared new ≡ cleared end
  pub cut : IsCutAt l (cleared old) new before.tickets after.tickets
  pub put : after.put ≡ before.put
