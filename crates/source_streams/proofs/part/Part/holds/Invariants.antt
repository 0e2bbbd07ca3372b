use Rattle.std.proofs.Common.{◌≡◌, drop}
use Rattle.tuple_values.specs.Keys.{hash_from, hash_of, key_text}
use Rattle.expr_types.specs.Sources.{cut_to}
use Rattle.source_streams.proofs.part.Part.holds.Given as goal

-- the hash of the key is that of its parts so far, gone on with over those to come
abbrev pub invariant-loop-name : goal.invariant-loop-name
invariant-loop-name l =
    hash_of (key_text (cut_to l.fl l.document) l.name-items)
    ≡ hash_from l.hash (key_text (cut_to l.fl l.document) (drop l.name-index l.name-items))
