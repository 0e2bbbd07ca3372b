-- How often a board gave each answer (own).
use Rattle.std.specs.Prelude.{ℕ, Result, Ok, Err}
use Rattle.daemon_board.specs.Daemons.{later}
use Rattle.daemon_board.specs.declared.answers.Answers.{Answers}
use Rattle.daemon_board.specs.declared.fault.BoardFault.{BoardFault}
use Rattle.daemon_board.specs.declared.fault.BoardFault.TheVariants.{DaemonTaken, UnknownDaemon, BoardFull, OutOfMemory}

-- before the first call
abbrev pub no_answers : Answers
no_answers =
    record {
      started = 0;
      taken = 0;
      full = 0;
      stopped = 0;
      not_stopped = 0;
      resumed = 0;
      not_resumed = 0;
      killed = 0;
      not_killed = 0;
    }

-- a count of 64 bits after one more, which stays where it can't rise
abbrev pub counted : ℕ → ℕ
counted count = later count 1

-- after an answer of start; want of memory is no answer
abbrev pub after_start : Result (Unit {0}) BoardFault → Answers → Answers
after_start (Ok u) a = record a { started = counted a.started }
after_start (Err (DaemonTaken id)) a = record a { taken = counted a.taken }
after_start (Err UnknownDaemon) a = a
after_start (Err BoardFull) a = record a { full = counted a.full }
after_start (Err OutOfMemory) a = a

-- after an answer of stop
abbrev pub after_stop : Result (Unit {0}) BoardFault → Answers → Answers
after_stop (Ok u) a = record a { stopped = counted a.stopped }
after_stop (Err fault) a = record a { not_stopped = counted a.not_stopped }

-- after an answer of resume
abbrev pub after_resume : Result (Unit {0}) BoardFault → Answers → Answers
after_resume (Ok u) a = record a { resumed = counted a.resumed }
after_resume (Err fault) a = record a { not_resumed = counted a.not_resumed }

-- after an answer of kill
abbrev pub after_kill : Result (Unit {0}) BoardFault → Answers → Answers
after_kill (Ok u) a = record a { killed = counted a.killed }
after_kill (Err fault) a = record a { not_killed = counted a.not_killed }
