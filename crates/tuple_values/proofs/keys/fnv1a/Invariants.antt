use Rattle.std.proofs.Common.{◌≡◌, drop}
use Rattle.tuple_values.specs.Keys.{hash_from, hash_of}
use Rattle.tuple_values.proofs.keys.fnv1a.Given as goal

abbrev pub invariant-loop-byte : goal.invariant-loop-byte
invariant-loop-byte l = hash_of l.bytes ≡ hash_from l.hash (drop l.byte-index l.bytes)
