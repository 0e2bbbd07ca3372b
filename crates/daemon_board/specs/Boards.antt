-- A board of daemons in memory, as a contract sees it (own).
use Rattle.daemon_board.specs.Answers.{no_answers}
use Rattle.daemon_board.specs.Daemons.{Shown, no_daemons}
use Rattle.daemon_board.specs.declared.answers.Answers.{Answers}

-- what it holds, and how often it gave each answer
pub record Told : Type 0 where
  pub shown : Shown
  pub answers : Answers

-- a board on which no daemon was ever put
abbrev pub empty_board : Told
empty_board = record { shown = no_daemons; answers = no_answers }
