use Rattle.std.proofs.Common.{◌≡◌, map, string_bytes}
use Rattle.std.specs.Prelude.{take}
use Rattle.daemon_board.specs.Finding.{shown_entries}
use Rattle.daemon_board.specs.Listed.{row_of}
use Rattle.daemon_board.proofs.listing.list.Given as goal

-- the daemons before the place are listed
abbrev pub invariant-loop-place : goal.invariant-loop-place
invariant-loop-place l =
    l.tuples ≡ map row_of (take l.place (shown_entries string_bytes l.daemons.entries))
