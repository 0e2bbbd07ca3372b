use Rattle.std.proofs.Common.{◌≡◌, drop}
use Rattle.tuple_values.specs.Keys.{hash_from}
use Rattle.source_streams.proofs.part.with_bytes.Given as goal

-- the hash of the bytes is that of those so far, gone on with over those to come
abbrev pub invariant-loop-byte : goal.invariant-loop-byte
invariant-loop-byte l =
    hash_from l.fn.hash l.bytes ≡ hash_from l.hash (drop l.byte-index l.bytes)
