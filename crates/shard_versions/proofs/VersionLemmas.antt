-- Versions rise along a history, so its top never falls, and what is current later in a version up
-- to the old top was current before.
use Rattle.std.proofs.Common.{◌≡◌, ℕ, ◌+◌, ◌<◌, ◌≤◌, ◌==◌, ◌||◌, Bool, true, false, cond, List, [], ◌∷◌, ◌++◌, Option, Some, None, refl, sym, ap, subst, ◌∙◌, arith, append_assoc, bytes_eq}
use Rattle.std.specs.List.{AllByRecursion}
use Rattle.tuple_values.specs.Document.{ByteList, Doc}
use Rattle.shard_versions.specs.Documents.{with_version}
use Rattle.shard_versions.specs.declared.entry.Kind.{Kind}
use Rattle.shard_versions.specs.declared.entry.Kind.TheVariants.{Put, Del, Sent, Mark}
use Rattle.shard_versions.specs.Histories.{History, Slot, slots, slots_after, slot_of, version_after, write_at, Ascend, IsVersioned, is_mark, has_mark, settled, committed, last_version, top, writes_id, kept, latest, current}
use Rattle.shard_versions.proofs.ListLemmas.{each_append, each_left, each_right, each_weaker}

-- the last version of two lists of writes is that of the second after that of the first
pub last_version-append : (version : ℕ) (xs ys : List Slot)
    → last_version version (xs ++ ys) ≡ last_version (last_version version xs) ys
last_version-append version [] ys = refl
last_version-append version (x ∷ xs) ys = last_version-append x.version xs ys

-- the last of versions above a number isn't below it
pub last_version-above : (t version : ℕ) (ss : List Slot) → t ≤ version
    → AllByRecursion (λ s. t < s.version) ss → t ≤ last_version version ss
last_version-above t version [] h a = h
last_version-above t version (s ∷ ss) h a = last_version-above t s.version ss (omega (arith, a.0)) a.1

-- the writes of two lists of entries are those of the first, and then those of the second
pub slots_after-append : (last : ℕ) (h e : History)
    → slots_after last (h ++ e) ≡ slots_after last h ++ slots_after (last_version last (slots_after last h)) e
unfolding slots_after
slots_after-append last [] e = refl
slots_after-append last (x ∷ h) e =
    let now : ℕ = version_after last x.kind in
    let first : List Slot = slot_of now x.kind in
    let same : last_version last (first ++ slots_after now h) ≡ last_version now (slots_after now h) =
    last_version-append last first (slots_after now h) ∙ ap (λ v. last_version v (slots_after now h)) (one last x.kind) in
    ap (λ r. first ++ r) (slots_after-append now h e)
    ∙ (sym (append_assoc first (slots_after now h) (slots_after (last_version now (slots_after now h)) e))
    ∙ ap (λ v. (first ++ slots_after now h) ++ slots_after v e) (sym same))
  where
    one : (last : ℕ) (k : Kind) → last_version last (slot_of (version_after last k) k) ≡ version_after last k
    one last (Put d) = refl
    one last (Del i) = refl
    one last (Sent src v d) = refl
    one last Mark = refl

-- the writes of a longer history are those of the shorter one, and then more
pub slots-grow : (h e : History) → (more : List Slot) × (slots (h ++ e) ≡ slots h ++ more)
unfolding slots
slots-grow h e = (slots_after (last_version 0 (slots_after 0 h)) e, slots_after-append 0 h e)

-- writes after a version rise from it
pub slots_after-ascend : (last : ℕ) (h : History) → Ascend last (slots_after last h)
unfolding slots_after
slots_after-ascend last [] = tt
slots_after-ascend last (e ∷ h) = go e.kind (λ v. slots_after-ascend v h)
  where
    go : (k : Kind) → ((v : ℕ) → Ascend v (slots_after v h))
        → Ascend last (slot_of (version_after last k) k ++ slots_after (version_after last k) h)
    go (Put d) f = (omega arith, f (last + 1))
    go (Del i) f = (omega arith, f (last + 1))
    go (Sent src v d) f = (omega arith, f (last + 1))
    go Mark f = f last

-- the versions of every history rise
pub versioned : (h : History) → IsVersioned h
unfolding IsVersioned slots
versioned h = slots_after-ascend 0 h

-- the first of two lists of rising versions rises
pub ascend_left : (last : ℕ) (xs ys : List Slot) → Ascend last (xs ++ ys) → Ascend last xs
ascend_left last [] ys a = tt
ascend_left last (x ∷ xs) ys a = (a.0, ascend_left x.version xs ys a.1)

-- the second rises from the last of the first
pub ascend_right : (last : ℕ) (xs ys : List Slot)
    → Ascend last (xs ++ ys) → Ascend (last_version last xs) ys
ascend_right last [] ys a = a
ascend_right last (x ∷ xs) ys a = ascend_right x.version xs ys a.1

-- rising versions are above each number that isn't above where they begin
pub ascend_above : (t last : ℕ) (ss : List Slot) → t ≤ last
    → Ascend last ss → AllByRecursion (λ s. t < s.version) ss
ascend_above t last [] le a = tt
ascend_above t last (s ∷ ss) le a =
    (omega (arith, a.0), ascend_above t s.version ss (omega (arith, a.0)) a.1)

-- a Mark stays as a history grows
pub has_mark-grows : (h e : History) → has_mark h ≡ true → has_mark (h ++ e) ≡ true
has_mark-grows [] e m = absurd (cc)
has_mark-grows (x ∷ h) e m = go (is_mark x.kind) (has_mark h) (has_mark (h ++ e)) (has_mark-grows h e) m
  where
    go : (a b c : Bool) → (b ≡ true → c ≡ true) → (a || b) ≡ true → (a || c) ≡ true
    go true b c k m = refl
    go false b c k m = k m

-- the settled part begins the history
pub settled-begins : (h : History) → (rest : History) × (h ≡ settled h ++ rest)
unfolding settled
settled-begins [] = ([], refl)
settled-begins (x ∷ h) = go (has_mark (x ∷ h)) (settled-begins h)
  where
    go : (b : Bool) → ((rest : History) × (h ≡ settled h ++ rest))
        → (rest : History) × (x ∷ h ≡ cond b (x ∷ settled h) [] ++ rest)
    go true r = (r.0, ap (λ xs. x ∷ xs) r.1)
    go false r = (x ∷ h, refl)

-- what is settled stays, and more may follow it
pub settled-grows : (h e : History) → (more : History) × (settled (h ++ e) ≡ settled h ++ more)
unfolding settled
settled-grows [] e = (settled e, refl)
settled-grows (x ∷ h) e =
    go (is_mark x.kind) (has_mark h) (has_mark (h ++ e)) (has_mark-grows h e) (settled-grows h e)
  where
    go : (a b c : Bool) → (b ≡ true → c ≡ true)
        → ((more : History) × (settled (h ++ e) ≡ settled h ++ more))
        → (more : History) × (cond (a || c) (x ∷ settled (h ++ e)) [] ≡ cond (a || b) (x ∷ settled h) [] ++ more)
    go true b c k r = (r.0, ap (λ xs. x ∷ xs) r.1)
    go false true true k r = (r.0, ap (λ xs. x ∷ xs) r.1)
    go false true false k r = absurd (let e : false ≡ true = k refl in cc)
    go false false c k r = (cond c (x ∷ settled (h ++ e)) [], refl)

-- the committed writes stay, and those that follow them have versions above the old top
pub committed-grows : (h e : History) → IsVersioned (h ++ e)
    → (new : List Slot) × (committed (h ++ e) ≡ committed h ++ new) × AllByRecursion (λ s. top h < s.version) new
unfolding committed top IsVersioned
committed-grows h e v =
    let g = settled-grows h e in
    let m = slots-grow (settled h) g.0 in
    let b = settled-begins (h ++ e) in
    let r = slots-grow (settled (h ++ e)) b.0 in
    let same : slots (settled (h ++ e)) ≡ slots (settled h) ++ m.0 = ap slots g.1 ∙ m.1 in
    let all : Ascend 0 (slots (settled (h ++ e)) ++ r.0) = subst (Ascend 0) (ap slots b.1 ∙ r.1) v in
    let part : Ascend 0 (slots (settled h) ++ m.0) =
    subst (Ascend 0) same (ascend_left 0 (slots (settled (h ++ e))) r.0 all) in
    (m.0, same, ascend_above (top h) (top h) m.0 (omega arith) (ascend_right 0 (slots (settled h)) m.0 part))

-- the top never falls
pub top-grows : (h e : History) → IsVersioned (h ++ e) → top h ≤ top (h ++ e)
unfolding committed top
top-grows h e v =
    let g = committed-grows h e v in
    let same : top (h ++ e) ≡ last_version (top h) g.0 =
    ap (last_version 0) g.1 ∙ last_version-append 0 (committed h) g.0 in
    let up : top h ≤ last_version (top h) g.0 = last_version-above (top h) (top h) g.0 (omega arith) g.2 in
    omega arith

-- a write that is found is found in a longer list
pub write_at-grows : (v : ℕ) (s : Slot) (xs ys : List Slot)
    → write_at v xs ≡ Some s → write_at v (xs ++ ys) ≡ Some s
write_at-grows v s [] ys h = absurd (cc)
write_at-grows v s (x ∷ xs) ys h = go (x.version == v) h (write_at-grows v s xs ys)
  where
    go : (b : Bool) → cond b (Some x) (write_at v xs) ≡ Some s
        → (write_at v xs ≡ Some s → write_at v (xs ++ ys) ≡ Some s)
        → cond b (Some x) (write_at v (xs ++ ys)) ≡ Some s
    go true h f = h
    go false h f = f h

-- a write stays as a history grows
pub write-stays : (v : ℕ) (s : Slot) (h e : History)
    → write_at v (slots h) ≡ Some s → write_at v (slots (h ++ e)) ≡ Some s
write-stays v s h e w =
    let g = slots-grow h e in
    subst (λ ss. write_at v ss ≡ Some s) (sym g.1) (write_at-grows v s (slots h) g.0 w)

-- what is read of a write has its version
pub kept-above : (t : ℕ) (s : Slot) (left : Option Doc) (later : List Slot) → t < s.version
    → AllByRecursion (λ p. t < p.0) (kept s left later)
kept-above t s None later h = tt
kept-above t s (Some d) later h = go (writes_id s.id later)
  where
    go : (b : Bool) → AllByRecursion {X = ℕ × Doc} (λ p. t < p.0) (cond b [] ((s.version, with_version s.version d) ∷ []))
    go true = tt
    go false = (h, tt)

-- what is latest among writes above a version is above it
pub latest-above : (t : ℕ) (ss : List Slot)
    → AllByRecursion (λ s. t < s.version) ss → AllByRecursion (λ p. t < p.0) (latest ss)
unfolding latest
latest-above t [] a = tt
latest-above t (s ∷ ss) a =
    each_append (λ p. t < p.0) (kept s s.left ss) (latest ss) (kept-above t s s.left ss a.0) (latest-above t ss a.1)

-- an id that is written is written in a longer list
pub writes_id-grows : (i : ByteList) (xs ys : List Slot) → writes_id i xs ≡ true → writes_id i (xs ++ ys) ≡ true
writes_id-grows i [] ys h = absurd (cc)
writes_id-grows i (x ∷ xs) ys h =
    go (bytes_eq i x.id) (writes_id i xs) (writes_id i (xs ++ ys)) (writes_id-grows i xs ys) h
  where
    go : (a b c : Bool) → (b ≡ true → c ≡ true) → (a || b) ≡ true → (a || c) ≡ true
    go true b c k m = refl
    go false b c k m = k m

-- what is read of a write before more writes is read of it before fewer
pub kept-fewer : (P : ℕ × Doc → Type 0) (s : Slot) (left : Option Doc) (xs ys : List Slot)
    → AllByRecursion P (kept s left xs) → AllByRecursion P (kept s left (xs ++ ys))
kept-fewer P s None xs ys a = tt
kept-fewer P s (Some d) xs ys a =
    go (writes_id s.id xs) (writes_id s.id (xs ++ ys)) (writes_id-grows s.id xs ys) a
  where
    go : (b c : Bool) → (b ≡ true → c ≡ true)
        → AllByRecursion P (cond b [] ((s.version, with_version s.version d) ∷ []))
        → AllByRecursion P (cond c [] ((s.version, with_version s.version d) ∷ []))
    go b true k a = tt
    go true false k a = absurd (let e : false ≡ true = k refl in cc)
    go false false k a = a

-- what is latest after more writes, in a version up to t, was latest before them
pub latest-old : (P : ℕ × Doc → Type 0) (t : ℕ) (xs new : List Slot)
    → AllByRecursion (λ s. t < s.version) new → AllByRecursion P (latest xs)
    → AllByRecursion (λ p. p.0 ≤ t → P p) (latest (xs ++ new))
unfolding latest
latest-old P t [] new above a =
    each_weaker (λ (p : ℕ × Doc). t < p.0) (λ p. p.0 ≤ t → P p) (λ p l u. absurd (omega arith)) (latest new) (latest-above t new above)
latest-old P t (s ∷ xs) new above a =
    each_append (λ p. p.0 ≤ t → P p) (kept s s.left (xs ++ new)) (latest (xs ++ new))
    (each_weaker P (λ p. p.0 ≤ t → P p) (λ p h u. h) (kept s s.left (xs ++ new))
    (kept-fewer P s s.left xs new (each_left P (kept s s.left xs) (latest xs) a)))
    (latest-old P t xs new above (each_right P (kept s s.left xs) (latest xs) a))

-- what is current in a longer history, in a version up to the shorter one's top, was current in it
pub current-old : (P : ℕ × Doc → Type 0) (h e : History) → IsVersioned (h ++ e)
    → AllByRecursion P (current h) → AllByRecursion (λ p. p.0 ≤ top h → P p) (current (h ++ e))
unfolding current
current-old P h e v a =
    let g = committed-grows h e v in
    subst (λ c. AllByRecursion (λ p. p.0 ≤ top h → P p) (latest c)) (sym g.1)
    (latest-old P (top h) (committed h) g.0 g.2 a)
