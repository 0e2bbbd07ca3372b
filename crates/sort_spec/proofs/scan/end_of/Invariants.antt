use Rattle.std.proofs.Common.{◌≡◌, ◌≤◌, ◌+◌, ◌-◌, length, drop}
use Rattle.std.specs.List.{prefix_len}
use Rattle.sort_spec.specs.Scan.{is_of}
use Rattle.sort_spec.proofs.scan.end_of.Given as goal

-- the bytes so far are of the kind
abbrev pub invariant-loop-at : goal.invariant-loop-at
invariant-loop-at l = record {
  in_range : l.at ≤ length l.bytes;
  same : l.from + prefix_len (is_of l.kind) (drop l.from l.bytes)
      ≡ l.at + prefix_len (is_of l.kind) (drop l.at l.bytes);
}

abbrev pub decreases-loop-at : goal.decreases-loop-at
decreases-loop-at l = length l.bytes - l.at
