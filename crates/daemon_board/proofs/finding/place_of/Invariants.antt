use Rattle.std.proofs.Common.{◌≡◌, false, drop, string_bytes}
use Rattle.std.specs.Prelude.{take}
use Rattle.std.specs.List.{AllByRecursion}
use Rattle.daemon_board.specs.Finding.{shown_entries, wanted_in}
use Rattle.daemon_board.proofs.finding.place_of.Given as goal

-- none before the place is the one
abbrev pub invariant-loop-place : goal.invariant-loop-place
invariant-loop-place l =
    AllByRecursion (λ e. wanted_in l.wanted e ≡ false)
    (take l.place (shown_entries string_bytes l.daemons.entries))
