use Rattle.std.proofs.Common.{◌≤◌, ◌-◌, length}
use Rattle.stream_commands.specs.Inputs.{HasTaken}
use Rattle.stream_commands.proofs.input.read_input.Given as goal

abbrev pub invariant-loop-room : goal.invariant-loop-room
invariant-loop-room g l =
    (length l.bytes.items ≤ 65537) × (g.I.Source.faults l.fn.input ≤ g.I.Source.faults l.input)
    × HasTaken (g.I.Source.left l.fn.input) (g.I.Source.left l.input) l.bytes.items

abbrev pub decreases-loop-room : goal.decreases-loop-room
decreases-loop-room g l = 65537 - length l.bytes.items
