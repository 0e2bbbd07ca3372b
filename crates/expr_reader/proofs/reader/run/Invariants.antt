use Rattle.std.proofs.Common.{◌≡◌, ◌≤◌, ◌*◌, false, length, drop}
use Rattle.std.specs.Str.{chars}
use Rattle.expr_reader.specs.Machine.{machine, start, is_over}
use Rattle.expr_reader.specs.Reading.{run}
use Rattle.expr_reader.proofs.reader.run.Given as goal

-- no limit is passed, the run from here over what is left is the whole run, and no character has more than four bytes
abbrev pub invariant-loop-c : goal.invariant-loop-c
invariant-loop-c l =
    (is_over (machine l.reading) ≡ false)
    × (l.at ≤ 4 * length l.yielded)
    × (run l.at (machine l.reading) (drop (length l.yielded) (chars l.text)) ≡ run 0 start
    (chars l.text))
