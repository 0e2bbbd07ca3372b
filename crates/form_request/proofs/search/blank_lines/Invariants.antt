use Rattle.std.proofs.Common.{◌≡◌, ◌≤◌, ◌+◌, ◌-◌, length, drop}
use Rattle.form_request.specs.Ends.{blank_len}
use Rattle.form_request.proofs.search.blank_lines.Given as goal

-- the empty lines are those that were passed and those that stand behind them
abbrev pub invariant-loop-passed : goal.invariant-loop-passed
invariant-loop-passed l =
    (l.passed ≤ length l.bytes) × (blank_len l.bytes ≡ l.passed + blank_len (drop l.passed l.bytes))

abbrev pub decreases-loop-passed : goal.decreases-loop-passed
decreases-loop-passed l = length l.bytes - l.passed
