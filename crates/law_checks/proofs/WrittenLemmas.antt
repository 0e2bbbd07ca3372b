-- The write of a version is found at its place among the writes.
use Rattle.std.proofs.Common.{◌≡◌, ◌≢◌, ℕ, zero, suc, ◌+◌, ◌-◌, ◌<◌, not, Bool, true, false, cond, List, [], ◌∷◌, ◌++◌, map, Bor, Option, Some, None, option_map, refl, sym, ap, ◌∙◌, arith, eqb, bytes_eq}
use Rattle.std.specs.List.{slice_get}
use Rattle.std.proofs.lemmas.Bool.{eq-eqb, eqb-true}
use Rattle.tuple_values.specs.Document.{ByteList, Doc}
use Rattle.shard_versions.specs.Documents.{id_of}
use Rattle.shard_versions.specs.declared.entry.Kind.{Kind}
use Rattle.shard_versions.specs.declared.entry.Kind.TheVariants.{Put, Del, Sent, Mark}
use Rattle.shard_versions.specs.declared.entry.Entry.{Entry}
use Rattle.shard_versions.specs.Histories.{History, Slot, slots, slots_after, slot_of, version_after, is_mark, write_at}
use Rattle.shard_versions.specs.Readings.{left_under}
use Rattle.shard_versions.proofs.VersionLemmas.{slots_after-ascend}
use Rattle.once_core.proofs.CurrentLemmas.{write-above}
use Rattle.law_checks.specs.Written.{writes_in}

-- what the entry that is found left under the id
abbrev pub left_in : ByteList → Option Entry → Option Doc
left_in id None = None
left_in id (Some e) = left_under id (write_at 0 (slot_of 0 e.kind))

-- the first write in its version
first-write : (id : ByteList) (last : ℕ) (i : ByteList) (left : Option Doc) (ss : List Slot)
    → left_under id (write_at (suc (last + 0)) (record { version = last + 1; id = i; left = left } ∷ ss)) ≡ cond (bytes_eq id i) left None
first-write id last i left ss =
    ap (λ b. left_under id (cond b (Some (record { version = last + 1; id = i; left = left })) (write_at (suc (last + 0)) ss)))
    (eq-eqb (last + 1) (suc (last + 0)) (omega arith))

-- another one is passed
later-write : (id : ByteList) (last n : ℕ) (i : ByteList) (left : Option Doc) (ss : List Slot)
    → left_under id (write_at (suc (last + suc n)) (record { version = last + 1; id = i; left = left } ∷ ss))
    ≡ left_under id (write_at (suc (last + 1 + n)) ss)
later-write id last n i left ss =
    let v : ℕ = suc (last + suc n) in
    go (eqb (last + 1) v) refl ∙ ap (λ w. left_under id (write_at w ss)) (let e : suc (last + suc n) ≡ suc (last + 1 + n) = omega arith in e)
  where
    go : (b : Bool) → eqb (last + 1) (suc (last + suc n)) ≡ b
        → left_under id (cond b (Some (record { version = last + 1; id = i; left = left })) (write_at (suc (last + suc n)) ss))
        ≡ left_under id (write_at (suc (last + suc n)) ss)
    go true e = absurd (omega (arith, eqb-true (last + 1) (suc (last + suc n)) e))
    go false e = refl

-- the n-th write after a version
found-after : (id : ByteList) (last n : ℕ) (h : History)
    → left_under id (write_at (suc (last + n)) (slots_after last h)) ≡ left_in id (slice_get (writes_in h) n)
unfolding slots_after
found-after id last n [] = refl
found-after id last n (e ∷ h) = go e e.kind refl n (λ v m. found-after id v m h)
  where
    go : (x : Entry) (k : Kind) → x.kind ≡ k → (n : ℕ)
        → ((v m : ℕ) → left_under id (write_at (suc (v + m)) (slots_after v h)) ≡ left_in id (slice_get (writes_in h) m))
        → left_under id (write_at (suc (last + n)) (slot_of (version_after last k) k ++ slots_after (version_after last k) h))
        ≡ left_in id (slice_get (cond (not (is_mark k)) (x ∷ writes_in h) (writes_in h)) n)
    go x (Put d) is zero f = first-write id last (id_of d) (Some d) (slots_after (last + 1) h) ∙ ap (λ k. left_under id (write_at 0 (slot_of 0 k))) (sym is)
    go x (Put d) is (suc m) f = later-write id last m (id_of d) (Some d) (slots_after (last + 1) h) ∙ f (last + 1) m
    go x (Del i) is zero f = first-write id last i None (slots_after (last + 1) h) ∙ ap (λ k. left_under id (write_at 0 (slot_of 0 k))) (sym is)
    go x (Del i) is (suc m) f = later-write id last m i None (slots_after (last + 1) h) ∙ f (last + 1) m
    go x (Sent s v d) is zero f = first-write id last (id_of d) (Some d) (slots_after (last + 1) h) ∙ ap (λ k. left_under id (write_at 0 (slot_of 0 k))) (sym is)
    go x (Sent s v d) is (suc m) f = later-write id last m (id_of d) (Some d) (slots_after (last + 1) h) ∙ f (last + 1) m
    go x Mark is n f = f last n

-- what is got of a mapped list
got-mapped : {X Y : Type 0} (f : X → Y) (xs : List X) (n : ℕ) → slice_get (map f xs) n ≡ option_map f (slice_get xs n)
got-mapped f [] n = refl
got-mapped f (x ∷ xs) zero = refl
got-mapped f (x ∷ xs) (suc n) = got-mapped f xs n

module _ (id : ByteList) (h : History) (ws : List (Bor Entry)) (are : map (λ e. e.now) ws ≡ writes_in h) (version : ℕ) where
  found-version : 0 < version → left_under id (write_at version (slots h)) ≡ left_in id (option_map (λ e. e.now) (slice_get ws (version - 1)))
  unfolding slots
  found-version some =
      ap (λ v. left_under id (write_at v (slots_after 0 h))) (let e : version ≡ suc (0 + (version - 1)) = omega arith in e)
      ∙ (found-after id 0 (version - 1) h ∙ (ap (λ xs. left_in id (slice_get xs (version - 1))) (sym are)
      ∙ ap (left_in id) (got-mapped (λ e. e.now) ws (version - 1))))

  -- the write of a version is found
  pub found-some : (e : Bor Entry) → version ≢ 0 → Some e ≡ slice_get ws (version - 1)
      → left_under id (write_at 0 (slot_of 0 e.now.kind)) ≡ left_under id (write_at version (slots h))
  found-some e some got =
      sym (found-version (let p : 0 < version = omega arith in p) ∙ ap (λ o. left_in id (option_map (λ x. x.now) o)) (sym got))

  -- or there is none
  pub found-none : version ≢ 0 → None ≡ slice_get ws (version - 1) → None ≡ left_under id (write_at version (slots h))
  found-none some got =
      sym (found-version (let p : 0 < version = omega arith in p) ∙ ap (λ o. left_in id (option_map (λ x. x.now) o)) (sym got))

-- no write has version 0
pub found-zero : (id : ByteList) (h : History) (version : ℕ) → version ≡ 0 → None ≡ left_under id (write_at version (slots h))
unfolding slots
found-zero id h version e = go (write_at version (slots_after 0 h)) refl
  where
    go : (o : Option Slot) → write_at version (slots_after 0 h) ≡ o → None ≡ left_under id o
    go None w = refl
    go (Some s) w = absurd (let above : 0 < version = write-above version 0 s (slots_after 0 h) (slots_after-ascend 0 h) w in omega arith)
