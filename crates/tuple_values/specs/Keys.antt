-- The key of a tuple for some of its fields, the hash of bytes, and the shard of an id (own).
use Rattle.std.specs.Prelude.{ℕ, ◌*◌, ◌%◌, ◌^◌, List, [], ◌∷◌, ◌++◌, length, flat_map, Option, Some, None, bit_xor}
use Rattle.std.specs.Int.{w32, w64, to_be_bytes, cast_unsigned}
use Rattle.tuple_values.specs.Document.{ByteList, Datum, long, text, group, Doc, value_at}

-- absent is 0; a number 1 and 8 bytes; a text 2, its length in 4 bytes and its bytes; a group 3
abbrev pub key_part : Option Datum → ByteList
key_part None = 0 ∷ []
key_part (Some (long n)) = 1 ∷ to_be_bytes w64 (cast_unsigned w64 n)
key_part (Some (text bytes)) = 2 ∷ to_be_bytes w32 (length bytes % 2 ^ 32) ++ bytes
key_part (Some (group rows)) = 3 ∷ []

-- the key of a document: a part for each name
abbrev pub key_text : Doc → List ByteList → ByteList
key_text doc names = flat_map (λ name. key_part (value_at name doc)) names

-- one byte of the hash: exclusive or, then times the prime
abbrev pub hash_step : ℕ → ℕ → ℕ
hash_step hash byte = (bit_xor hash byte * 16777619) % 2 ^ 32

-- the hash of bytes, gone on with from a hash
abbrev pub hash_from : ℕ → ByteList → ℕ
hash_from hash [] = hash
hash_from hash (byte ∷ bytes) = hash_from (hash_step hash byte) bytes

-- the 32-bit FNV-1a hash
abbrev pub hash_of : ByteList → ℕ
hash_of bytes = hash_from 2166136261 bytes

-- the shard of so many, counted from 0, that holds the document with this id
abbrev pub shard_of : ℕ → ByteList → ℕ
shard_of shards id = hash_of id % shards
