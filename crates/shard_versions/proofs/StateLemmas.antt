-- What a shard keeps beside its entries, after one more entry.
use Rattle.std.proofs.Common.{◌≡◌, ℕ, suc, ◌+◌, ◌-◌, ◌^◌, ◌≤◌, min, Bool, true, false, cond, List, [], ◌∷◌, ◌++◌, length, Option, Some, None, sym, ap, ◌∙◌, arith, length-append}
use Rattle.tuple_values.specs.Document.{ByteList}
use Rattle.shard_versions.specs.declared.entry.Entry.{Entry}
use Rattle.shard_versions.specs.Histories.{History, is_mark, settled}
use Rattle.shard_versions.specs.Sizes.{kind_bytes, entries_bytes}
use Rattle.shard_versions.specs.Indexes.{written_id, is_write_of, before_of, relinked, nexts_of, so_far, greatests_after}
use Rattle.shard_versions.proofs.PlaceLemmas.{last_where-bound}
use Rattle.shard_versions.proofs.IndexLemmas.{nexts_of-push, nexts_of-length, greatests_after-push}
use Rattle.shard_versions.proofs.SettledLemmas.{settled-length-push}
use Rattle.shard_versions.proofs.ByteLemmas.{entries_bytes-push}

-- the place of the write before is in the list of next places
pub before_of-bound : (w : Option ByteList) (h : History) (ns : List ℕ) → ns ≡ nexts_of 0 h → before_of w h ≤ length ns
before_of-bound None h ns e = omega arith
before_of-bound (Some id) h ns e =
    omega (arith, last_where-bound (λ (x : Entry). is_write_of id x.kind) h, ap length e, nexts_of-length 0 h)

-- the next places, relinked and with one more
pub nexts_with : (h : History) (e : Entry) (ns : List ℕ) (before place : ℕ) → ns ≡ nexts_of 0 h
    → before ≡ before_of (written_id e.kind) h → place ≡ length h + 1
    → relinked before place ns ++ 0 ∷ [] ≡ nexts_of 0 (h ++ e ∷ [])
nexts_with h e ns before place is b p =
    let q : place ≡ suc (0 + length h) = omega arith in
    rw (is, b, q) (sym (nexts_of-push 0 h e))

-- the greatest versions with one more
pub greatests_with : (h : History) (e : Entry) (gs : List ℕ) (g : ℕ) → gs ≡ greatests_after [] h
    → g ≡ so_far h e.kind → gs ++ g ∷ [] ≡ greatests_after [] (h ++ e ∷ [])
greatests_with h e gs g is f = rw (is, f) (sym (greatests_after-push [] h e))

-- where the last Mark stands, with one more entry
pub closed_with : (h : History) (e : Entry) (closed place now : ℕ) → closed ≡ length (settled h)
    → place ≡ length h + 1 → now ≡ cond (is_mark e.kind) place closed → now ≡ length (settled (h ++ e ∷ []))
closed_with h e closed place now is p n =
    n ∙ (go (is_mark e.kind) ∙ sym (settled-length-push h e))
  where
    go : (b : Bool) → cond b place closed ≡ cond b (length (h ++ e ∷ [])) (length (settled h))
    go true = omega (arith, p, length-append h (e ∷ []))
    go false = is

-- the counted bytes with one more entry
pub bytes_with : (h : History) (e : Entry) (bytes more now : ℕ) → bytes ≡ min (entries_bytes h) (2 ^ 64 - 1)
    → more ≡ min (kind_bytes e.kind) (2 ^ 64 - 1) → now ≡ min (bytes + more) (2 ^ 64 - 1)
    → now ≡ min (entries_bytes (h ++ e ∷ [])) (2 ^ 64 - 1)
bytes_with h e bytes more now b m n = omega (arith, b, m, n, entries_bytes-push h e)
