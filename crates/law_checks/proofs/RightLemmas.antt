-- Where no Sent of a history breaks the law, its Sents are right, and the other way round.
use Rattle.std.proofs.Common.{◌≡◌, ℕ, zero, suc, ◌+◌, ◌<◌, true, List, [], ◌∷◌, ◌++◌, take, drop, Option, Some, None, refl, sym, ap, subst, ◌∙◌, arith, append_assoc}
use Rattle.std.specs.List.{AllByRecursion, slice_get}
use Rattle.std.proofs.lemmas.List.{append-nil}
use Rattle.std.proofs.lemmas.Slice.Eq.{bytes_eq-Decides}
use Rattle.tuple_values.specs.Document.{ByteList, Doc}
use Rattle.tuple_values.specs.declared.names.NameShards.{NameShards}
use Rattle.shard_versions.specs.Documents.{id_of}
use Rattle.shard_versions.specs.declared.entry.Kind.{Kind}
use Rattle.shard_versions.specs.declared.entry.Kind.TheVariants.{Put, Del, Sent, Mark}
use Rattle.shard_versions.specs.declared.entry.Entry.{Entry}
use Rattle.shard_versions.specs.Histories.{History}
use Rattle.shard_versions.specs.Deliveries.{sent_version, sents, IsRising, AreRising, AreSentsSettled, IsSettledKind, admits, is_plain}
use Rattle.shard_versions.proofs.DeliveryLemmas.{sents-append, sent_version-plain, rising-entry, rising-silent}
use Rattle.once_core.specs.Cells.{history_at}
use Rattle.once_core.specs.Law.{IsTrueKind, AreTrue}
use Rattle.once_core.specs.declared.world.Histories.{Histories}
use Rattle.law_checks.specs.Sents.{IsBadAt, AreSentsRight}
use Rattle.law_checks.specs.Judged.{IsGoodKind, IsGoodEntry, IsFirstIn}
use Rattle.law_checks.proofs.SentLemmas.{below-from}
use Rattle.law_checks.proofs.FirstLemmas.{good-entry}

module _ (names : List NameShards) (hs : Histories) (cell : ℕ) where
  -- each entry keeps the law, where these stand before the first one
  abbrev AreGoodAfter : History → History → Type 0
  AreGoodAfter before [] = Unit {0}
  AreGoodAfter before (e ∷ h) = IsGoodKind names hs cell before e.kind h × AreGoodAfter (before ++ e ∷ []) h

  -- so does the entry at a place
  abbrev good_at : History → History → ℕ → Option Entry → Type 0
  good_at before h place None = Unit {0}
  good_at before h place (Some e) = IsGoodKind names hs cell (before ++ take place h) e.kind (drop (place + 1) h)

  -- an entry that keeps the law at its place does so behind the first one
  goes-on : (before : History) (e : Entry) (h : History) (p : ℕ) (o : Option Entry)
      → good_at before (e ∷ h) (suc p) o → good_at (before ++ e ∷ []) h p o
  goes-on before e h p None g = tt
  goes-on before e h p (Some x) g =
      let later : drop (suc p + 1) (e ∷ h) ≡ drop (p + 1) h = ap (λ k. drop k (e ∷ h)) (let s : suc p + 1 ≡ suc (p + 1) = omega arith in s) in
      subst (λ l. IsGoodKind names hs cell ((before ++ e ∷ []) ++ take p h) x.kind l) later
      (subst (λ b. IsGoodKind names hs cell b x.kind (drop (suc p + 1) (e ∷ h))) (sym (append_assoc before (e ∷ []) (take p h))) g)

  along : (before h : History) → ((p : ℕ) → good_at before h p (slice_get h p)) → AreGoodAfter before h
  along before [] f = tt
  along before (e ∷ h) f = (
    subst (λ b. IsGoodKind names hs cell b e.kind h) (append-nil before) (f 0),
    along (before ++ e ∷ []) h (λ p. goes-on before e h p (slice_get h p) (f (suc p))),
  )

  settled-kind : (before : History) (k : Kind) (h : History) → IsGoodKind names hs cell before k h → IsSettledKind k h
  settled-kind before (Put d) h g = tt
  settled-kind before (Del i) h g = tt
  settled-kind before (Sent s v d) h g = g.settled
  settled-kind before Mark h g = tt

  after-settled : (before h : History) → AreGoodAfter before h → AreSentsSettled h
  unfolding AreSentsSettled
  after-settled before [] g = tt
  after-settled before (e ∷ h) g = (settled-kind before e.kind h g.0, after-settled (before ++ e ∷ []) h g.1)

  true-kind : (before : History) (k : Kind) (h : History) → IsGoodKind names hs cell before k h → IsTrueKind names hs cell k
  true-kind before (Put d) h g = tt
  true-kind before (Del i) h g = tt
  true-kind before (Sent s v d) h g = g.delivery
  true-kind before Mark h g = tt

  after-true : (before h : History) → AreGoodAfter before h → AreTrue names hs cell h
  unfolding AreTrue
  after-true before [] g = tt
  after-true before (e ∷ h) g = (true-kind before e.kind h g.0, after-true (before ++ e ∷ []) h g.1)

  silent : (e : Entry) (k : Kind) → e.kind ≡ k → is_plain k ≡ true → (src i : ByteList) → sents src i (e ∷ []) ≡ []
  unfolding sents
  silent e k is plain src i = append-nil (sent_version src i e.kind) ∙ (ap (sent_version src i) is ∙ sent_version-plain k src i plain)

  rising-one : (before : History) (e : Entry) (k : Kind) (h : History) → e.kind ≡ k → IsGoodKind names hs cell before k h
      → AreRising before → AreRising (before ++ e ∷ [])
  unfolding admits
  rising-one before e (Put d) h is g r = rising-silent before (e ∷ []) (silent e (Put d) is refl) r
  rising-one before e (Del i) h is g r = rising-silent before (e ∷ []) (silent e (Del i) is refl) r
  rising-one before e (Sent s v d) h is g r =
      rising-entry before e r (rw is (below-from v (sents s (id_of d) before) g.above))
  rising-one before e Mark h is g r = rising-silent before (e ∷ []) (silent e Mark is refl) r

  after-rising : (before h : History) → AreGoodAfter before h → AreRising before → AreRising (before ++ h)
  after-rising before [] g r = subst AreRising (sym (append-nil before)) r
  after-rising before (e ∷ h) g r =
      subst AreRising (append_assoc before (e ∷ []) h)
      (after-rising (before ++ e ∷ []) h g.1 (rising-one before e e.kind h refl g.0 r))

  as-good : (h : History) (p : ℕ) (o : Option Entry) → IsGoodEntry names hs cell h p o → good_at [] h p o
  as-good h p None g = tt
  as-good h p (Some e) g = g

  module _ (h : History) (good : IsFirstIn names hs cell h None) where
    all : AreGoodAfter [] h
    all = along [] h (λ p. as-good h p (slice_get h p) (good p))

    pub good-settled : AreSentsSettled h
    good-settled = after-settled [] h all

    pub good-true : AreTrue names hs cell h
    good-true = after-true [] h all

    pub good-rising : AreRising h
    unfolding sents
    good-rising = after-rising [] h all (λ src id. tt)

  -- the versions before one of rising ones are below it
  rising-before : (xs : List ℕ) (v : ℕ) (ys : List ℕ) → IsRising (xs ++ v ∷ ys) → AllByRecursion (λ w. w < v) xs
  rising-before [] v ys r = tt
  rising-before (x ∷ xs) v ys r = (at xs r.0, rising-before xs v ys r.1)
    where
      at : (zs : List ℕ) → AllByRecursion (λ w. x < w) (zs ++ v ∷ ys) → x < v
      at [] a = a.0
      at (z ∷ zs) a = at zs a.1

  own-version : (s : ByteList) (v : ℕ) (d : Doc) → sent_version s (id_of d) (Sent s v d) ≡ v ∷ []
  own-version s v d = rw ((bytes_eq-Decides s s).1 refl, (bytes_eq-Decides (id_of d) (id_of d)).1 refl) refl

  low : (before : History) (e : Entry) (h : History) (s : ByteList) (v : ℕ) (d : Doc) → e.kind ≡ Sent s v d → AreRising (before ++ e ∷ h)
      → AllByRecursion (λ w. w < v) (sents s (id_of d) before)
  unfolding sents
  low before e h s v d is r =
      rising-before (sents s (id_of d) before) v (sents s (id_of d) h)
      (subst IsRising (sents-append s (id_of d) before (e ∷ h) ∙ ap (λ vs. sents s (id_of d) before ++ vs) first) (r s (id_of d)))
    where
      first : sents s (id_of d) (e ∷ h) ≡ v ∷ sents s (id_of d) h
      first = ap (λ k. sent_version s (id_of d) k ++ sents s (id_of d) h) is ∙ ap (λ vs. vs ++ sents s (id_of d) h) (own-version s v d)

  right-kind : (before : History) (e : Entry) (k : Kind) (h : History) → e.kind ≡ k → IsSettledKind k h → IsTrueKind names hs cell k
      → AreRising (before ++ e ∷ h) → IsGoodKind names hs cell before k h
  right-kind before e (Put d) h is s t r = tt
  right-kind before e (Del i) h is s t r = tt
  right-kind before e (Sent src v d) h is s t r = record { settled = s; delivery = t; above = low before e h src v d is r }
  right-kind before e Mark h is s t r = tt

  right-at : (before h : History) (p : ℕ) → AreSentsSettled h → AreTrue names hs cell h → AreRising (before ++ h)
      → good_at before h p (slice_get h p)
  unfolding AreSentsSettled AreTrue
  right-at before [] p s t r = tt
  right-at before (e ∷ h) zero s t r =
      subst (λ b. IsGoodKind names hs cell b e.kind h) (sym (append-nil before)) (right-kind before e e.kind h refl s.0 t.0 r)
  right-at before (e ∷ h) (suc p) s t r =
      back (slice_get h p) (right-at (before ++ e ∷ []) h p s.1 t.1 (subst AreRising (sym (append_assoc before (e ∷ []) h)) r))
    where
      back : (o : Option Entry) → good_at (before ++ e ∷ []) h p o → good_at before (e ∷ h) (suc p) o
      back None g = tt
      back (Some x) g =
          let later : drop (p + 1) h ≡ drop (suc p + 1) (e ∷ h) = ap (λ k. drop k (e ∷ h)) (let q : suc (p + 1) ≡ suc p + 1 = omega arith in q) in
          subst (λ l. IsGoodKind names hs cell (before ++ take (suc p) (e ∷ h)) x.kind l) later
          (subst (λ b. IsGoodKind names hs cell b x.kind (drop (p + 1) h)) (append_assoc before (e ∷ []) (take p h)) g)

  as-entry : (h : History) (p : ℕ) (o : Option Entry) → good_at [] h p o → IsGoodEntry names hs cell h p o
  as-entry h p None g = tt
  as-entry h p (Some e) g = g

-- where all Sents are right none breaks the law
pub right-none : (names : List NameShards) (hs : Histories) → AreSentsRight names hs → (cell place : ℕ) → IsBadAt names hs cell place → ⊥
right-none names hs right cell place bad =
    let h : History = history_at hs cell in
    good-entry names hs cell h place (slice_get h place)
    (as-entry names hs cell h place (slice_get h place)
    (right-at names hs cell [] h place (right.settled cell) (right.true_sents cell) (right.rising cell))) bad

-- and where none does all are right
pub none-right : (names : List NameShards) (hs : Histories) → ((cell : ℕ) → IsFirstIn names hs cell (history_at hs cell) None)
    → AreSentsRight names hs
none-right names hs good = record {
  settled = λ cell. good-settled names hs cell (history_at hs cell) (good cell);
  true_sents = λ cell. good-true names hs cell (history_at hs cell) (good cell);
  rising = λ cell. good-rising names hs cell (history_at hs cell) (good cell);
}
