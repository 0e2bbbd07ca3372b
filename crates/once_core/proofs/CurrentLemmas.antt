-- What is current in a history: the last committed write of its id.
use Rattle.std.proofs.Common.{◌≡◌, ◌≢◌, ℕ, pos, ◌+◌, ◌<◌, ◌≤◌, ◌==◌, ◌||◌, Bool, true, false, cond, eqb, List, [], ◌∷◌, ◌++◌, Option, Some, None, refl, sym, ap, subst, ◌∙◌, arith, bytes_eq, Contains}
use Rattle.std.proofs.lemmas.Bool.{eqb-true, eq-eqb}
use Rattle.std.proofs.lemmas.Slice.Eq.{bytes_eq-Decides}
use Rattle.std.proofs.lemmas.List.Elements.{Contains-append_left, Contains-append_right}
use Rattle.std.specs.List.{AllByRecursion}
use Rattle.tuple_values.specs.Document.{ByteList, Doc, bytes_cmp, long}
use Rattle.tuple_values.proofs.MapLemmas.{value_put_other}
use Rattle.std.specs.declared.cmp.Ordering.TheVariants.{Less, Equal}
use Rattle.shard_versions.specs.Documents.{id_of, text_of, id_name, version_name, with_version}
use Rattle.shard_versions.specs.declared.entry.Kind.{Kind}
use Rattle.shard_versions.specs.declared.entry.Kind.TheVariants.{Put, Del, Sent, Mark}
use Rattle.shard_versions.specs.Histories.{History, Slot, slots, slots_after, slot_of, version_after, write_at, Ascend, IsVersioned, settled, committed, last_version, top, writes_id, kept, latest, current}
use Rattle.shard_versions.proofs.ListLemmas.{each_append}
use Rattle.shard_versions.proofs.VersionLemmas.{ascend_right, ascend_above, settled-begins, slots-grow, latest-above, slots_after-ascend}

-- a write whose document it left has that document's id
abbrev pub IsNamed : Option Doc → ByteList → Type 0
IsNamed None id = Unit {0}
IsNamed (Some doc) id = id ≡ id_of doc

-- the writes of entries have their documents' ids
pub slots-named : (last : ℕ) (h : History) → AllByRecursion (λ s. IsNamed s.left s.id) (slots_after last h)
unfolding slots_after
slots-named last [] = tt
slots-named last (e ∷ h) = go e.kind (λ v. slots-named v h)
  where
    go : (k : Kind) → ((v : ℕ) → AllByRecursion (λ s. IsNamed s.left s.id) (slots_after v h))
        → AllByRecursion (λ s. IsNamed s.left s.id) (slot_of (version_after last k) k ++ slots_after (version_after last k) h)
    go (Put doc) f = (refl, f (last + 1))
    go (Del id) f = (tt, f (last + 1))
    go (Sent src v doc) f = (refl, f (last + 1))
    go Mark f = f last

-- a document that is read of these writes is that of the last write of its id
pub record IsLast (ss : List Slot) (p : ℕ × Doc) : Type 0 where
  pub doc : Doc
  pub is : p.1 ≡ with_version p.0 doc
  pub written : write_at p.0 ss ≡ Some (record { version = p.0; id = id_of doc; left = Some doc })
  pub last : (w : ℕ) (s : Slot) → write_at w ss ≡ Some s → s.id ≡ id_of doc → w ≤ p.0

-- a write of an id shows that the id is written
pub write-writes : (w : ℕ) (s : Slot) (ss : List Slot) → write_at w ss ≡ Some s → writes_id s.id ss ≡ true
write-writes w s [] h = absurd (cc)
write-writes w s (x ∷ ss) h = go (x.version == w) h (write-writes w s ss)
  where
    or_true : (a : Bool) → (a || true) ≡ true
    or_true true = refl
    or_true false = refl

    go : (b : Bool) → cond b (Some x) (write_at w ss) ≡ Some s
        → (write_at w ss ≡ Some s → writes_id s.id ss ≡ true) → (bytes_eq s.id x.id || writes_id s.id ss) ≡ true
    go true e f =
        let same : x ≡ s = cc in
        rw ((bytes_eq-Decides s.id x.id).1 (ap (λ (t : Slot). t.id) (sym same))) refl
    go false e f = rw (f e) (or_true (bytes_eq s.id x.id))

-- a write that is found among rising ones is above where they begin
pub write-above : (w last : ℕ) (s : Slot) (ss : List Slot) → Ascend last ss → write_at w ss ≡ Some s → last < w
write-above w last s [] a h = absurd (cc)
write-above w last s (x ∷ ss) a h = go (eqb x.version w) refl h (write-above w x.version s ss a.1)
  where
    go : (b : Bool) → eqb x.version w ≡ b → cond b (Some x) (write_at w ss) ≡ Some s
        → (write_at w ss ≡ Some s → x.version < w) → last < w
    go true t e f = omega (arith, eqb-true x.version w t, a.0)
    go false t e f = omega (arith, f e, a.0)

-- what is last among later writes is last among all
last_later : (last : ℕ) (x : Slot) (ss : List Slot) → Ascend last (x ∷ ss) → (p : ℕ × Doc) → x.version < p.0 → IsLast ss p → IsLast (x ∷ ss) p
last_later last x ss a p above l = record {
  doc = l.doc;
  is = l.is;
  written = go (eqb x.version p.0) refl;
  last = λ w s h same. turn w s (eqb x.version w) refl h same;
}
  where
    go : (b : Bool) → eqb x.version p.0 ≡ b
        → cond b (Some x) (write_at p.0 ss) ≡ Some (record { version = p.0; id = id_of l.doc; left = Some l.doc })
    go true t = absurd (omega (arith, eqb-true x.version p.0 t, above))
    go false t = l.written

    turn : (w : ℕ) (s : Slot) (b : Bool) → eqb x.version w ≡ b → cond b (Some x) (write_at w ss) ≡ Some s
        → s.id ≡ id_of l.doc → w ≤ p.0
    turn w s true t e same = omega (arith, eqb-true x.version w t, above)
    turn w s false t e same = l.last w s e same

-- what is read of a write is last where no later write is of its id
last_here : (last : ℕ) (x : Slot) (left : Option Doc) (ss : List Slot) → x.left ≡ left → Ascend last (x ∷ ss) → IsNamed left x.id
    → AllByRecursion (IsLast (x ∷ ss)) (kept x left ss)
last_here last x None ss e a n = tt
last_here last x (Some doc) ss e a n = go (writes_id x.id ss) refl
  where
    self : eqb x.version x.version ≡ true
    self = eq-eqb x.version x.version refl

    whole : x ≡ record { version = x.version; id = id_of doc; left = Some doc }
    whole = ap (λ i. record { version = x.version; id = i; left = x.left }) n
        ∙ ap (λ l. record { version = x.version; id = id_of doc; left = l }) e

    turn : writes_id x.id ss ≡ false → (w : ℕ) (s : Slot) (b : Bool) → eqb x.version w ≡ b
        → cond b (Some x) (write_at w ss) ≡ Some s → s.id ≡ id_of doc → w ≤ x.version
    turn none w s true t f same = omega (arith, eqb-true x.version w t)
    turn none w s false t f same =
        absurd (let found : writes_id x.id ss ≡ true = subst (λ i. writes_id i ss ≡ true) (same ∙ sym n) (write-writes w s ss f) in cc)

    go : (b : Bool) → writes_id x.id ss ≡ b → AllByRecursion (IsLast (x ∷ ss)) (cond b [] ((x.version, with_version x.version doc) ∷ []))
    go true t = tt
    go false t = (
      record {
        doc = doc;
        is = refl;
        written = rw self (ap Some whole);
        last = λ w s f same. turn t w s (eqb x.version w) refl f same;
      },
      tt,
    )

-- each document that is read of rising writes is that of the last write of its id
pub latest-last : (last : ℕ) (ss : List Slot) → Ascend last ss → AllByRecursion (λ s. IsNamed s.left s.id) ss
    → AllByRecursion (IsLast ss) (latest ss)
unfolding latest
latest-last last [] a n = tt
latest-last last (x ∷ ss) a n =
    each_append (IsLast (x ∷ ss)) (kept x x.left ss) (latest ss) (last_here last x x.left ss refl a n.0)
    (both (latest ss) (latest-above x.version ss (ascend_above x.version x.version ss (omega arith) a.1)) (latest-last x.version ss a.1 n.1))
  where
    both : (ps : List (ℕ × Doc)) → AllByRecursion (λ p. x.version < p.0) ps → AllByRecursion (IsLast ss) ps → AllByRecursion (IsLast (x ∷ ss)) ps
    both [] b l = tt
    both (p ∷ ps) b l = (last_later last x ss a p b.0 l.0, both ps b.1 l.1)

-- a write up to the top is a committed one
pub write-committed : (h : History) (w : ℕ) (s : Slot) → IsVersioned h → w ≤ top h
    → write_at w (slots h) ≡ Some s → write_at w (committed h) ≡ Some s
unfolding committed top IsVersioned
write-committed h w s v le found =
    let b = settled-begins h in
    let m = slots-grow (settled h) b.0 in
    let all : slots h ≡ slots (settled h) ++ m.0 = ap slots b.1 ∙ m.1 in
    let above : Ascend (last_version 0 (slots (settled h))) m.0 =
    ascend_right 0 (slots (settled h)) m.0 (subst (Ascend 0) all v) in
    first (slots (settled h)) m.0 (last_version 0 (slots (settled h))) above le (subst (λ ss. write_at w ss ≡ Some s) all found)
  where
    first : (xs ys : List Slot) (t : ℕ) → Ascend t ys → w ≤ t → write_at w (xs ++ ys) ≡ Some s → write_at w xs ≡ Some s
    first [] ys t a le f = absurd (omega (arith, write-above w t s ys a f))
    first (x ∷ xs) ys t a le f = go (x.version == w) f (first xs ys t a le)
      where
        go : (b : Bool) → cond b (Some x) (write_at w (xs ++ ys)) ≡ Some s → (write_at w (xs ++ ys) ≡ Some s → write_at w xs ≡ Some s)
            → cond b (Some x) (write_at w xs) ≡ Some s
        go true e k = e
        go false e k = k e

-- a current document is that of the last committed write of its id
pub current-last : (h : History) → AllByRecursion (IsLast (committed h)) (current h)
unfolding current committed slots
current-last h =
    latest-last 0 (slots_after 0 (settled h)) (slots_after-ascend 0 (settled h)) (slots-named 0 (settled h))

-- the document of a write that no later one replaces is read
pub latest-contains : (xs : List Slot) (s : Slot) (doc : Doc) (ys : List Slot) → s.left ≡ Some doc → writes_id s.id ys ≡ false
    → Contains (latest (xs ++ s ∷ ys)) (s.version, with_version s.version doc)
unfolding latest
latest-contains [] s doc ys left none =
    Contains-append_left (kept s s.left ys) (latest ys) (s.version, with_version s.version doc)
    (rw (left, none) (0, omega arith, refl))
latest-contains (x ∷ xs) s doc ys left none =
    Contains-append_right (kept x x.left (xs ++ s ∷ ys)) (latest (xs ++ s ∷ ys)) (s.version, with_version s.version doc)
    (latest-contains xs s doc ys left none)

-- the putting of a version leaves the id
pub id_with_version : (version : ℕ) (doc : Doc) → id_of (with_version version doc) ≡ id_of doc
unfolding id_of with_version
id_with_version version doc = ap text_of (value_put_other id_name version_name (long (pos version)) doc apart)
  where
    apart : bytes_cmp version_name id_name ≢ Equal
    apart e = let other : Less ≡ Equal = e in cc
