-- What is delivered to a shard rises in each source and id, and a Mark follows it.
use Rattle.std.proofs.Common.{◌≡◌, ℕ, ◌<◌, ◌||◌, ◌&&◌, Bool, true, false, cond, List, [], ◌∷◌, ◌++◌, refl, sym, ap, subst, ◌∙◌, append_assoc, bytes_eq, inl, inr, ltb}
use Rattle.std.proofs.lemmas.List.{append-nil}
use Rattle.std.proofs.lemmas.Bool.{ltb-true}
use Rattle.std.proofs.lemmas.Slice.Eq.{bytes_eq-Decides}
use Rattle.std.specs.List.{AllByRecursion}
use Rattle.tuple_values.specs.Document.{ByteList}
use Rattle.shard_versions.specs.Documents.{id_of}
use Rattle.shard_versions.specs.declared.entry.Kind.{Kind}
use Rattle.shard_versions.specs.declared.entry.Kind.TheVariants.{Put, Del, Sent, Mark}
use Rattle.shard_versions.specs.declared.entry.Entry.{Entry}
use Rattle.shard_versions.specs.Histories.{History, is_mark, has_mark}
use Rattle.shard_versions.specs.Deliveries.{sent_version, sents, IsRising, AreRising, Reaches, are_below, admits, admits_kind, admitted, mark_by, marked, IsSettledKind, AreSentsSettled, is_plain, ArePlain}
use Rattle.shard_versions.proofs.ListLemmas.{each_append}
use Rattle.shard_versions.proofs.VersionLemmas.{has_mark-grows}

-- the deliveries of two lists of entries are those of the first, and then those of the second
pub sents-append : (src i : ByteList) (h e : History) → sents src i (h ++ e) ≡ sents src i h ++ sents src i e
unfolding sents
sents-append src i [] e = refl
sents-append src i (x ∷ h) e =
    ap (λ r. sent_version src i x.kind ++ r) (sents-append src i h e)
    ∙ sym (append_assoc (sent_version src i x.kind) (sents src i h) (sents src i e))

-- versions that reach a number reach it with more behind them
pub reaches-left : (v : ℕ) (xs ys : List ℕ) → Reaches v xs → Reaches v (xs ++ ys)
reaches-left v [] ys r = absurd r
reaches-left v (x ∷ xs) ys r = elim r [ inl h ↦ inl h | inr h ↦ inr (reaches-left v xs ys h) ]

-- what was sent stays sent
pub reaches-grows : (v : ℕ) (src i : ByteList) (h e : History)
    → Reaches v (sents src i h) → Reaches v (sents src i (h ++ e))
reaches-grows v src i h e r = rw (sents-append src i h e) (reaches-left v (sents src i h) (sents src i e) r)

-- versions that are tested to be below a number are below it
pub are_below-each : (v : ℕ) (ws : List ℕ) → are_below v ws ≡ true → AllByRecursion (λ w. w < v) ws
are_below-each v [] h = tt
are_below-each v (w ∷ ws) h = go (ltb w v) refl (are_below v ws) (are_below-each v ws) h
  where
    go : (a : Bool) → ltb w v ≡ a → (b : Bool) → (b ≡ true → AllByRecursion (λ w. w < v) ws)
        → (a && b) ≡ true → (w < v) × AllByRecursion (λ w. w < v) ws
    go true is true k m = (ltb-true w v is, k refl)
    go true is false k m = absurd (cc)
    go false is b k m = absurd (cc)

-- rising versions rise with a greater one behind them
pub rising-push : (vs : List ℕ) (v : ℕ)
    → IsRising vs → AllByRecursion (λ w. w < v) vs → IsRising (vs ++ v ∷ [])
rising-push [] v r a = (tt, tt)
rising-push (w ∷ vs) v r a = (each_append (λ u. w < u) vs (v ∷ []) r.0 (a.0, tt), rising-push vs v r.1 a.1)

-- entries that send nothing keep deliveries rising
pub rising-silent : (h e : History) → ((src i : ByteList) → sents src i e ≡ []) → AreRising h → AreRising (h ++ e)
rising-silent h e none r src i =
    subst IsRising
    (sym (sents-append src i h e ∙ (ap (λ vs. sents src i h ++ vs) (none src i) ∙ append-nil (sents src i h))))
    (r src i)

-- an entry that the history admits keeps them rising, by its kind
pub rising-kind : (h : History) (k : Kind) → AreRising h → admits_kind h k ≡ true → (src i : ByteList)
    → IsRising (sents src i h ++ sent_version src i k)
unfolding admits
rising-kind h (Put d) r a src i = absurd (cc)
rising-kind h (Del j) r a src i = absurd (cc)
rising-kind h Mark r a src i = absurd (cc)
rising-kind h (Sent s v d) r a src i = go (bytes_eq src s) refl (bytes_eq i (id_of d)) refl
  where
    go : (b : Bool) → bytes_eq src s ≡ b → (c : Bool) → bytes_eq i (id_of d) ≡ c
        → IsRising (sents src i h ++ cond (b && c) (v ∷ []) [])
    go true p true q =
        let e : src ≡ s = (bytes_eq-Decides src s).0 p in
        let f : i ≡ id_of d = (bytes_eq-Decides i (id_of d)).0 q in
        let low : are_below v (sents src i h) ≡ true = rw (e, f) a in
        rising-push (sents src i h) v (r src i) (are_below-each v (sents src i h) low)
    go true p false q = subst IsRising (sym (append-nil (sents src i h))) (r src i)
    go false p c q = subst IsRising (sym (append-nil (sents src i h))) (r src i)

-- an entry that the history admits keeps them rising
pub rising-entry : (h : History) (x : Entry)
    → AreRising h → admits_kind h x.kind ≡ true → AreRising (h ++ x ∷ [])
unfolding sents
rising-entry h x r a src i =
    subst IsRising
    (sym (sents-append src i h (x ∷ []) ∙ ap (λ vs. sents src i h ++ vs) (append-nil (sent_version src i x.kind))))
    (rising-kind h x.kind r a src i)

-- so do all that it admits, one after another
pub rising-admitted : (h xs : List Entry) → AreRising h → AreRising (h ++ admitted h xs)
unfolding admitted
rising-admitted h [] r = subst AreRising (sym (append-nil h)) r
rising-admitted h (x ∷ xs) r =
    go (admits_kind h x.kind) refl (λ s. rising-admitted (h ++ x ∷ []) xs s) (rising-admitted h xs r)
  where
    go : (b : Bool) → admits_kind h x.kind ≡ b
        → (AreRising (h ++ x ∷ []) → AreRising ((h ++ x ∷ []) ++ admitted (h ++ x ∷ []) xs))
        → AreRising (h ++ admitted h xs)
        → AreRising (h ++ cond b (x ∷ admitted (h ++ x ∷ []) xs) (admitted h xs))
    go true is k s =
        subst AreRising (append_assoc h (x ∷ []) (admitted (h ++ x ∷ []) xs)) (k (rising-entry h x r is))
    go false is k s = s

-- what is admitted is among the items
pub admitted-each : (P : Entry → Type 0) (h xs : List Entry) → AllByRecursion P xs → AllByRecursion P (admitted h xs)
unfolding admitted
admitted-each P h [] a = tt
admitted-each P h (x ∷ xs) a =
    go (admits_kind h x.kind) (admitted-each P (h ++ x ∷ []) xs a.1) (admitted-each P h xs a.1)
  where
    go : (b : Bool) → AllByRecursion P (admitted (h ++ x ∷ []) xs) → AllByRecursion P (admitted h xs)
        → AllByRecursion P (cond b (x ∷ admitted (h ++ x ∷ []) xs) (admitted h xs))
    go true s t = (a.0, s)
    go false s t = t

-- a Mark behind entries keeps deliveries rising
pub rising-marked : (writer : ℕ) (h xs : List Entry) → AreRising (h ++ xs) → AreRising (h ++ marked writer xs)
unfolding sents
rising-marked writer h [] r = r
rising-marked writer h (x ∷ xs) r =
    subst AreRising (append_assoc h (x ∷ xs) (mark_by writer ∷ []))
    (rising-silent (h ++ x ∷ xs) (mark_by writer ∷ []) (λ src i. refl) r)

-- what holds of each entry and of the Mark holds of all with the Mark
pub marked-each : (P : Entry → Type 0) (writer : ℕ) (xs : List Entry)
    → P (mark_by writer) → AllByRecursion P xs → AllByRecursion P (marked writer xs)
marked-each P writer [] m a = tt
marked-each P writer (x ∷ xs) m a = each_append P (x ∷ xs) (mark_by writer ∷ []) a (m, tt)

-- a Mark that follows still follows in a longer history
pub settled_kind-grows : (k : Kind) (h e : History) → IsSettledKind k h → IsSettledKind k (h ++ e)
settled_kind-grows (Put d) h e s = tt
settled_kind-grows (Del i) h e s = tt
settled_kind-grows (Sent src v d) h e s = has_mark-grows h e s
settled_kind-grows Mark h e s = tt

-- two lists of settled entries are settled together
pub settled-append : (h e : History) → AreSentsSettled h → AreSentsSettled e → AreSentsSettled (h ++ e)
unfolding AreSentsSettled
settled-append [] e s t = t
settled-append (x ∷ h) e s t = (settled_kind-grows x.kind h e s.0, settled-append h e s.1 t)

-- there is a Mark where one is at the end
pub has_mark-end : (writer : ℕ) (xs : History) → has_mark (xs ++ mark_by writer ∷ []) ≡ true
has_mark-end writer [] = refl
has_mark-end writer (x ∷ xs) = go (is_mark x.kind) (has_mark (xs ++ mark_by writer ∷ [])) (has_mark-end writer xs)
  where
    go : (a b : Bool) → b ≡ true → (a || b) ≡ true
    go true b e = refl
    go false b e = e

-- an entry that a Mark follows is settled
pub settled_kind-mark : (k : Kind) (h : History) → has_mark h ≡ true → IsSettledKind k h
settled_kind-mark (Put d) h m = tt
settled_kind-mark (Del i) h m = tt
settled_kind-mark (Sent src v d) h m = m
settled_kind-mark Mark h m = tt

-- entries with a Mark at the end are settled
pub settled-end : (writer : ℕ) (xs : History) → AreSentsSettled (xs ++ mark_by writer ∷ [])
unfolding AreSentsSettled
settled-end writer [] = (tt, tt)
settled-end writer (x ∷ xs) =
    (settled_kind-mark x.kind (xs ++ mark_by writer ∷ []) (has_mark-end writer xs), settled-end writer xs)

-- marked entries are settled
pub settled-marked : (writer : ℕ) (xs : History) → AreSentsSettled (marked writer xs)
unfolding AreSentsSettled
settled-marked writer [] = tt
settled-marked writer (x ∷ xs) = settled-end writer (x ∷ xs)

-- an entry that delivers nothing is settled
pub settled_kind-plain : (k : Kind) (h : History) → is_plain k ≡ true → IsSettledKind k h
settled_kind-plain (Put d) h p = tt
settled_kind-plain (Del i) h p = tt
settled_kind-plain (Sent src v d) h p = absurd (cc)
settled_kind-plain Mark h p = tt

-- so are all entries of a plain step
pub settled-plain : (e : History) → ArePlain e → AreSentsSettled e
unfolding AreSentsSettled ArePlain
settled-plain [] a = tt
settled-plain (x ∷ e) a = (settled_kind-plain x.kind e a.0, settled-plain e a.1)

-- an entry that delivers nothing sends no version
pub sent_version-plain : (k : Kind) (src i : ByteList) → is_plain k ≡ true → sent_version src i k ≡ []
sent_version-plain (Put d) src i p = refl
sent_version-plain (Del j) src i p = refl
sent_version-plain (Sent s v d) src i p = absurd (cc)
sent_version-plain Mark src i p = refl

-- a plain step sends nothing
pub sents-plain : (e : History) → ArePlain e → (src i : ByteList) → sents src i e ≡ []
unfolding sents ArePlain
sents-plain [] a src i = refl
sents-plain (x ∷ e) a src i =
    ap (λ vs. vs ++ sents src i e) (sent_version-plain x.kind src i a.0) ∙ sents-plain e a.1 src i
