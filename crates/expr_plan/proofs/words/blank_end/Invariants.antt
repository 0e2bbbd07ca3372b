use Rattle.std.proofs.Common.{◌≡◌, ◌≤◌, ◌+◌, ◌-◌, length, drop}
use Rattle.std.specs.List.{prefix_len}
use Rattle.sort_spec.specs.Grammar.{is_blank}
use Rattle.expr_plan.proofs.words.blank_end.Given as goal

-- the bytes so far are of the kind
abbrev pub invariant-loop-at : goal.invariant-loop-at
invariant-loop-at l = record {
  in_range : l.at ≤ length l.bytes;
  same : prefix_len is_blank l.bytes ≡ l.at + prefix_len is_blank (drop l.at l.bytes);
}

abbrev pub decreases-loop-at : goal.decreases-loop-at
decreases-loop-at l = length l.bytes - l.at
