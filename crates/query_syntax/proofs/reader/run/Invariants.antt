use Rattle.std.proofs.Common.{◌≡◌, Some, length, take, encode_utf8_all}
use Rattle.std.specs.Str.{chars}
use Rattle.query_syntax.specs.Machine.{machine, start}
use Rattle.query_syntax.specs.Reading.{run}
use Rattle.query_syntax.proofs.reader.run.Given as goal

-- the bytes of the characters so far are counted and read
abbrev pub invariant-loop-c : goal.invariant-loop-c
invariant-loop-c l = record {
  counted : l.at ≡ length (encode_utf8_all (take (length l.yielded) (chars l.text)));
  read : run (Some start) (encode_utf8_all (take (length l.yielded) (chars l.text)))
      ≡ Some (machine l.reading);
}
