-- Bodies that go in chunks (RFC 9112, section 7.1; what goes as one chunk is own).
use Rattle.std.specs.Prelude.{◌≡◌, ◌≢◌, ℕ, List, [], ◌∷◌, ◌++◌, false, length, nat_le, codes, if◌then◌else◌}
use Rattle.std.specs.List.{AllByRecursion, concat}
use Rattle.std.specs.Fmt.{digits}
use Rattle.tuple_values.specs.Document.{ByteList}

-- as soon as pieces that are joined have so many bytes, they go as one chunk
abbrev pub chunk_least : ℕ
chunk_least = 4096

-- a chunk: how many bytes it has, in lower-case hexadecimal, and the bytes
abbrev pub chunk : ByteList → ByteList
chunk bytes = digits 16 false (length bytes) ++ codes "\r\n" ++ bytes ++ codes "\r\n"

-- the chunk that ends a body
abbrev pub last_chunk : ByteList
last_chunk = codes "0\r\n\r\n"

-- joined bytes that are left over go as a chunk, unless there are none
abbrev pub rest_chunk : ByteList → List ByteList
rest_chunk [] = []
rest_chunk (b ∷ bytes) = chunk (b ∷ bytes) ∷ []

-- the chunks of pieces behind bytes that are joined already; behind each chunk the joining begins
-- anew
abbrev pub chunks_from : ByteList → List ByteList → List ByteList
chunks_from bytes [] = rest_chunk bytes ++ last_chunk ∷ []
chunks_from bytes (piece ∷ pieces) =
    if nat_le chunk_least (length (bytes ++ piece))
    then chunk (bytes ++ piece) ∷ chunks_from [] pieces
    else chunks_from (bytes ++ piece) pieces

-- the bytes of chunks with these parts, and of the last
abbrev pub chunks_with : List ByteList → ByteList
chunks_with [] = last_chunk
chunks_with (part ∷ parts) = chunk part ++ chunks_with parts

-- the bytes are chunks, of which none but the last is empty, and what they carry is, in a row, this
-- (RFC 9112, section 7.1: chunks without extensions, no trailers)
pub record IsChunked (bytes carried : ByteList) : Type 0 where
  pub parts : List ByteList
  pub bytes_are : bytes ≡ chunks_with parts
  pub joined : concat parts ≡ carried
  pub none_empty : AllByRecursion (λ part. part ≢ []) parts
