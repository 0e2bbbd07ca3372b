-- How pieces are joined and go as chunks.
use Rattle.std.proofs.Common.{◌≡◌, Bool, true, false, List, [], ◌∷◌, ◌++◌, length, refl, sym, ap, subst, ◌∙◌}
use Rattle.std.specs.Prelude.{nat_le, if◌then◌else◌}
use Rattle.tuple_values.specs.Document.{ByteList}
use Rattle.stream_handler.specs.Chunks.{chunk, chunk_least, chunks_from, last_chunk, rest_chunk}
use Rattle.stream_handler.specs.Chunkings.{Adds, Fills, IsGiven, IsJoining, Joins, items_at, items_of, pieces_left}
use Rattle.stream_handler.specs.declared.chunking.Chunking.{Chunking}
use Rattle.stream_handler.specs.declared.chunking.Stage.{Stage}
use Rattle.stream_handler.specs.declared.chunking.Stage.TheVariants.{Head, Opening, Tuples, Closing, Joined, Last, Over}

-- while pieces are joined, the chunks of those that are left are still given
items_joining : (s : Stage) (closes : Bool) (joined : ByteList) (pieces : List ByteList)
    → IsJoining s → items_at s closes joined pieces ≡ chunks_from joined pieces
items_joining Head closes joined pieces is = absurd is
items_joining Opening closes joined pieces is = refl
items_joining Tuples closes joined pieces is = refl
items_joining Closing closes joined pieces is = refl
items_joining Joined closes joined pieces is = refl
items_joining Last closes joined pieces is = absurd is
items_joining Over closes joined pieces is = absurd is

-- the chunks behind a piece that is joined
chunks_next : (joined piece : ByteList) (pieces : List ByteList) (long : Bool)
    → nat_le chunk_least (length (joined ++ piece)) ≡ long
    → chunks_from joined (piece ∷ pieces)
    ≡ (if long then chunk (joined ++ piece) ∷ chunks_from [] pieces
    else chunks_from (joined ++ piece) pieces)
chunks_next joined piece pieces long is =
    ap (λ b. if b then chunk (joined ++ piece) ∷ chunks_from [] pieces
    else chunks_from (joined ++ piece) pieces) is

module _ (old new : Chunking) (joining : IsJoining old.stage) (joins : Joins old true new) where
  -- what is given while the next piece is joined
  given_by : (long : Bool) → nat_le chunk_least (length new.joined) ≡ long
      → items_of old
      ≡ (if long then chunk new.joined ∷ chunks_from [] (pieces_left new)
      else chunks_from new.joined (pieces_left new))
  given_by long is =
      items_joining old.stage old.closes old.joined (pieces_left old) joining
      ∙ ap (chunks_from old.joined) joins.1
      ∙ chunks_next old.joined joins.0 (pieces_left new) long
      (ap (λ (t : ByteList). nat_le chunk_least (length t)) (sym joins.2) ∙ is)
      ∙ ap (λ (t : ByteList). if long then chunk t ∷ chunks_from [] (pieces_left new)
      else chunks_from t (pieces_left new)) (sym joins.2)

  -- it is long enough to go
  pub joined_full : nat_le chunk_least (length new.joined) ≡ true → Fills old true new
  joined_full is = (given_by true is, joins.3)

  -- it isn't
  pub joined_on : nat_le chunk_least (length new.joined) ≡ false → items_of old ≡ items_of new
  joined_on is =
      given_by false is
      ∙ sym (items_joining new.stage new.closes new.joined (pieces_left new) joins.3)

-- no piece is left
pub joined_all : (old : Chunking) → IsJoining old.stage → pieces_left old ≡ [] → Fills old false old
joined_all old joining none = (
  items_joining old.stage old.closes old.joined (pieces_left old) joining
      ∙ ap (chunks_from old.joined) none,
  none,
  joining,
)

-- pieces that were joined before
pub fills_since : (old mid new : Chunking) (full : Bool) → items_of old ≡ items_of mid
    → Fills mid full new → Fills old full new
fills_since old mid new true same f = (same ∙ f.0, f.1)
fills_since old mid new false same f = (same ∙ f.0, f.1, f.2)

-- bytes that are left over go as a chunk
rest_is : (bytes : ByteList) → (bytes ≡ [] → ⊥) → rest_chunk bytes ≡ chunk bytes ∷ []
rest_is [] some = absurd (some refl)
rest_is (b ∷ bytes) some = refl

module _ (old mid : Chunking) (before : ByteList) where
  -- a chunk that is full was given
  pub added_full : (new : Chunking) (after : ByteList) → Fills old true mid
      → after ≡ before ++ chunk mid.joined → IsGiven mid new
      → Adds (items_of old) true (items_of new) before after
  added_full new after f out given =
      let left = subst (λ (c : Chunking). items_of c ≡ chunks_from [] (pieces_left mid)) (sym given)
      (items_joining mid.stage mid.closes [] (pieces_left mid) f.1) in
      (chunk mid.joined, f.0 ∙ ap (λ items. chunk mid.joined ∷ items) (sym left), out)

  -- or nothing was left, and the last chunk was given
  pub added_last : (left : List ByteList) (after : ByteList) → Fills old false mid → mid.joined ≡ []
      → after ≡ before ++ last_chunk → left ≡ [] → Adds (items_of old) true left before after
  added_last left after f none out over = (
    last_chunk,
    f.0 ∙ ap (λ (t : ByteList). chunks_from t []) none ∙ ap (λ items. last_chunk ∷ items) (sym over),
    out,
  )

  -- or what was left
  pub added_rest : (left : List ByteList) (after : ByteList) → Fills old false mid
      → (mid.joined ≡ [] → ⊥) → after ≡ before ++ chunk mid.joined → left ≡ last_chunk ∷ []
      → Adds (items_of old) true left before after
  added_rest left after f some out last = (
    chunk mid.joined,
    f.0 ∙ ap (λ items. items ++ last_chunk ∷ []) (rest_is mid.joined some)
        ∙ ap (λ items. chunk mid.joined ∷ items) (sym last),
    out,
  )
