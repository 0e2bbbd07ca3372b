-- The counted bytes of more entries.
use Rattle.std.proofs.Common.{◌≡◌, ℕ, ◌+◌, ◌<◌, List, [], ◌∷◌, ◌++◌, length, get_or, take, sym, ap, ◌∙◌, arith}
use Rattle.std.proofs.lemmas.List.{take_more}
use Rattle.shard_versions.specs.declared.entry.Entry.{Entry}
use Rattle.shard_versions.specs.Sizes.{kind_bytes, entries_bytes}

-- the bytes of two lists of entries are those of both
pub entries_bytes-append : (xs ys : List Entry) → entries_bytes (xs ++ ys) ≡ entries_bytes xs + entries_bytes ys
entries_bytes-append [] ys = let e : entries_bytes ys ≡ 0 + entries_bytes ys = omega arith in e
entries_bytes-append (x ∷ xs) ys =
    ap (λ n. kind_bytes x.kind + n) (entries_bytes-append xs ys)
    ∙ add_sides (kind_bytes x.kind) (entries_bytes xs) (entries_bytes ys)
  where
    add_sides : (a b c : ℕ) → a + (b + c) ≡ (a + b) + c
    add_sides a b c = omega arith

-- the bytes with one more entry
pub entries_bytes-push : (xs : List Entry) (x : Entry) → entries_bytes (xs ++ x ∷ []) ≡ entries_bytes xs + kind_bytes x.kind
entries_bytes-push xs x =
    entries_bytes-append xs (x ∷ []) ∙ ap (λ n. entries_bytes xs + n) (let e : kind_bytes x.kind + 0 ≡ kind_bytes x.kind = omega arith in e)

-- the bytes of the first so many entries and one more
pub entries_bytes-more : (xs : List Entry) (i : ℕ) (x : Entry) → i < length xs → x ≡ get_or xs i x
    → entries_bytes (take (i + 1) xs) ≡ entries_bytes (take i xs) + kind_bytes x.kind
entries_bytes-more xs i x lt is =
    ap entries_bytes (take_more xs i x lt)
    ∙ (entries_bytes-push (take i xs) (get_or xs i x)
    ∙ ap (λ (e : Entry). entries_bytes (take i xs) + kind_bytes e.kind) (sym is))
