use Rattle.std.proofs.Common.{◌≡◌, ◌^◌, ◌-◌, drop, string_bytes}
use Rattle.daemon_board.specs.Daemons.{least_due}
use Rattle.daemon_board.specs.Finding.{shown_entries}
use Rattle.daemon_board.proofs.finding.least_due.Given as goal

-- the least time among all is that among the rest and the least so far
abbrev pub invariant-loop-place : goal.invariant-loop-place
invariant-loop-place l =
    least_due l.now (2 ^ 64 - 1) (shown_entries string_bytes l.daemons.entries)
    ≡ least_due l.now l.least (drop l.place (shown_entries string_bytes l.daemons.entries))
