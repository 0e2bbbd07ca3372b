use Rattle.std.proofs.Common.{◌≡◌, ℕ, ◌+◌, ◌<◌, ◌≤◌, length, ◌-◌}
use Rattle.std.specs.Prelude.{slice_index}
use Rattle.source_streams.proofs.scanned.first_from.Given as goal

-- what stands before the place is less
abbrev pub invariant-loop-at : goal.invariant-loop-at
invariant-loop-at l =
    (l.at ≤ length l.numbers) × ((k : ℕ) → k + 1 ≡ l.at → slice_index l.numbers k < l.low)

abbrev pub decreases-loop-at : goal.decreases-loop-at
decreases-loop-at l = length l.numbers - l.at
