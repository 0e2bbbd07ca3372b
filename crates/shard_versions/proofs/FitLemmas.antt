-- Tests of each entry and of each field.
use Rattle.std.proofs.Common.{◌≡◌, ℕ, zero, suc, ◌+◌, ◌<◌, ◌≤◌, ◌||◌, ◌&&◌, Bool, true, false, List, [], ◌∷◌, ◌++◌, length, get_or, take, drop, refl, sym, ap, subst, ◌∙◌, arith}
use Rattle.std.specs.List.{AllByRecursion}
use Rattle.std.proofs.lemmas.List.{take_more, take_all}
use Rattle.tuple_values.specs.Document.{ByteList, Datum, Doc}
use Rattle.shard_versions.specs.Documents.{is_group, has_group}
use Rattle.shard_versions.specs.Fitness.{is_storable_kind, is_routed, is_fit, AreStorable, IsFit}
use Rattle.shard_versions.specs.declared.entry.Kind.{Kind}
use Rattle.shard_versions.specs.declared.entry.Entry.{Entry}
use Rattle.shard_versions.proofs.ListLemmas.{each_more, each_at, each_end, each_weaker}

-- each of so many entries passes, and of one more
pub each_passes-more : (p : Kind → Bool) (es : List Entry) (i : ℕ) (d : Entry) → i < length es
    → AllByRecursion (λ e. p e.kind ≡ true) (take i es) → p (get_or es i d).kind ≡ true
    → AllByRecursion (λ e. p e.kind ≡ true) (take (i + 1) es)
each_passes-more p es i d lt a t = each_more (λ (e : Entry). p e.kind ≡ true) es i d lt a t

-- not each passes where one doesn't
pub each_passes-fails : (p : Kind → Bool) (es : List Entry) (i : ℕ) (d : Entry) → i < length es
    → p (get_or es i d).kind ≡ false → AllByRecursion (λ e. p e.kind ≡ true) es → ⊥
each_passes-fails p es i d lt fails a =
    let holds = each_at (λ (e : Entry). p e.kind ≡ true) es i d lt a in cc

-- what a shard may have it can keep
pub fit-storable : (shards shard : ℕ) (es : List Entry) → IsFit shards shard es → AreStorable es
unfolding IsFit AreStorable
fit-storable shards shard es f =
    each_weaker (λ (e : Entry). is_fit shards shard e.kind ≡ true) (λ e. is_storable_kind e.kind ≡ true)
    (λ e h. first (is_storable_kind e.kind) (is_routed shards shard e.kind) h) es f
  where
    first : (a b : Bool) → (a && b) ≡ true → a ≡ true
    first true b h = refl
    first false b h = absurd (cc)

-- a group stands among so many fields and one more where it did, or that one is a group
pub has_group-more : (doc : Doc) (i : ℕ) (d : ByteList × Datum) → i < length doc
    → has_group (take (i + 1) doc) ≡ (has_group (take i doc) || is_group (get_or doc i d).1)
has_group-more doc i d lt = ap has_group (take_more doc i d lt) ∙ pushed (take i doc) (get_or doc i d)
  where
    pushed : (xs : Doc) (f : ByteList × Datum) → has_group (xs ++ f ∷ []) ≡ (has_group xs || is_group f.1)
    pushed [] f = go (is_group f.1)
      where
        go : (b : Bool) → (b || false) ≡ b
        go true = refl
        go false = refl
    pushed (x ∷ xs) f = ap (λ b. is_group x.1 || b) (pushed xs f) ∙ assoc (is_group x.1) (has_group xs) (is_group f.1)
      where
        assoc : (a b c : Bool) → (a || (b || c)) ≡ ((a || b) || c)
        assoc true b c = refl
        assoc false b c = refl

-- a group that stands at a place stands in the document
pub has_group-at : (doc : Doc) (i : ℕ) (d : ByteList × Datum) → i < length doc
    → is_group (get_or doc i d).1 ≡ true → has_group doc ≡ true
has_group-at [] i d lt g = absurd (omega arith)
has_group-at (x ∷ doc) zero d lt g = ap (λ b. b || has_group doc) g
has_group-at (x ∷ doc) (suc i) d lt g = ap (λ b. is_group x.1 || b) (has_group-at doc i d (omega arith) g) ∙ right (is_group x.1)
  where
    right : (a : Bool) → (a || true) ≡ true
    right true = refl
    right false = refl

-- what loops over entries need
pub ruleset each_steps = (each_passes-more, each_passes-fails, each_end)

-- what a loop over fields needs
pub ruleset group_steps = (has_group-more, has_group-at, take_all)
