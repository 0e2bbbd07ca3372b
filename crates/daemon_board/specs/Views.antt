-- What a board shows of what it keeps (own).
use Rattle.std.specs.Prelude.{string_bytes}
use Rattle.daemon_board.specs.Boards.{Told}
use Rattle.daemon_board.specs.Finding.{shown_entries}
use Rattle.daemon_board.specs.declared.board.Board.TheInside.{Inside}

abbrev pub told_of : Inside → Told
told_of b =
    record {
      shown = record { daemons = shown_entries (string_bytes) b.daemons.entries; put = b.put };
      answers = b.answers;
    }
