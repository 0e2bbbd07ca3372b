-- What chunks carry.
use Rattle.std.proofs.Common.{◌≡◌, ◌≢◌, List, [], ◌∷◌, ◌++◌, Bool, true, false, length, nat_le, refl}
use Rattle.std.proofs.Common.{ap, ◌∙◌, append_assoc, if◌then◌else◌}
use Rattle.std.specs.List.{concat}
use Rattle.std.proofs.lemmas.List.{append-nil}
use Rattle.tuple_values.specs.Document.{ByteList}
use Rattle.stream_handler.specs.Chunks.{chunk, chunk_least, chunks_from, last_chunk, rest_chunk}
use Rattle.stream_handler.specs.Chunks.{IsChunked}

-- bytes of which there are so many aren't none
some_bytes : (bytes : ByteList) → nat_le chunk_least (length bytes) ≡ true → bytes ≢ []
some_bytes [] e = λ none. absurd (cc)
some_bytes (b ∷ bytes) e = λ none. absurd (cc)

-- what is joined goes as a chunk before the last, unless nothing is
rest_carries : (bytes : ByteList) → IsChunked (concat (rest_chunk bytes ++ last_chunk ∷ [])) (bytes ++ [])
rest_carries [] = record {
  parts = [];
  bytes_are = append-nil last_chunk;
  joined = refl;
  none_empty = tt;
}
rest_carries (b ∷ bytes) = record {
  parts = (b ∷ bytes) ∷ [];
  bytes_are = ap (λ w. chunk (b ∷ bytes) ++ w) (append-nil last_chunk);
  joined = refl;
  none_empty = (λ none. absurd (cc), tt);
}

-- so with a piece more, by what is so of those behind it
piece_carries : (bytes piece : ByteList) (pieces : List ByteList) (b : Bool)
    → nat_le chunk_least (length (bytes ++ piece)) ≡ b
    → IsChunked (concat (chunks_from [] pieces)) (concat pieces)
    → IsChunked (concat (chunks_from (bytes ++ piece) pieces)) ((bytes ++ piece) ++ concat pieces)
    → IsChunked
    (concat (if b then chunk (bytes ++ piece) ∷ chunks_from [] pieces
    else chunks_from (bytes ++ piece) pieces))
    (bytes ++ concat (piece ∷ pieces))
piece_carries bytes piece pieces true e anew on = record {
  parts = (bytes ++ piece) ∷ anew.parts;
  bytes_are = ap (λ w. chunk (bytes ++ piece) ++ w) anew.bytes_are;
  joined =
      ap (λ w. (bytes ++ piece) ++ w) anew.joined ∙ append_assoc bytes piece (concat pieces);
  none_empty = (some_bytes (bytes ++ piece) e, anew.none_empty);
}
piece_carries bytes piece pieces false e anew on = record {
  parts = on.parts;
  bytes_are = on.bytes_are;
  joined = on.joined ∙ append_assoc bytes piece (concat pieces);
  none_empty = on.none_empty;
}

-- the chunks of joined bytes and of pieces behind them carry these
from_carry : (bytes : ByteList) (pieces : List ByteList)
    → IsChunked (concat (chunks_from bytes pieces)) (bytes ++ concat pieces)
from_carry bytes [] = rest_carries bytes
from_carry bytes (piece ∷ pieces) =
    piece_carries bytes piece pieces (nat_le chunk_least (length (bytes ++ piece))) refl
    (from_carry [] pieces) (from_carry (bytes ++ piece) pieces)

-- all chunks carry all pieces
pub chunks_carry : (pieces : List ByteList) → IsChunked (concat (chunks_from [] pieces)) (concat pieces)
chunks_carry pieces = from_carry [] pieces
