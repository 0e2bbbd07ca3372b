use Rattle.std.proofs.Common.{◌≡◌, ◌≤◌, ◌+◌, ◌-◌, length, drop}
use Rattle.std.specs.List.{common_prefix_len}
use Rattle.sort_spec.specs.Scan.{same_letter}
use Rattle.sort_spec.proofs.scan.letters_at.Given as goal

-- the letters so far stand there
abbrev pub invariant-loop-k : goal.invariant-loop-k
invariant-loop-k l = record {
  in_text : l.from + l.k ≤ length l.bytes;
  in_word : l.k ≤ length l.word;
  same : common_prefix_len same_letter (drop l.from l.bytes) l.word
      ≡ l.k + common_prefix_len same_letter (drop (l.from + l.k) l.bytes) (drop l.k l.word);
}

abbrev pub decreases-loop-k : goal.decreases-loop-k
decreases-loop-k l = length l.word - l.k
