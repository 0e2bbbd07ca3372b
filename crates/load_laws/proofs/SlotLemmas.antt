-- What is latest among writes: its versions, its ids, and that there is something of each id.
use Rattle.std.proofs.Common.{◌≡◌, ◌≢◌, ℕ, ◌<◌, ◌≤◌, ◌||◌, Bool, true, false, cond, List, [], ◌∷◌, ◌++◌, Contains, Option, Some, None, bytes_eq, refl, sym, ap, subst, ◌∙◌, arith, eq-eqb, ne_eqb}
use Rattle.std.specs.List.{AllByRecursion}
use Rattle.std.proofs.lemmas.List.Elements.{Contains-append_left, Contains-append_right}
use Rattle.std.proofs.lemmas.Slice.Eq.{bytes_eq-Decides}
use Rattle.tuple_values.specs.Document.{ByteList, Doc}
use Rattle.shard_versions.specs.Documents.{id_of, with_version}
use Rattle.shard_versions.specs.Histories.{Slot, Ascend, kept, last_version, latest, write_at, writes_id}
use Rattle.shard_versions.proofs.ListLemmas.{each_append, each_weaker}
use Rattle.shard_versions.proofs.VersionLemmas.{ascend_above, last_version-above}
use Rattle.once_core.proofs.CurrentLemmas.{id_with_version}
use Rattle.load_laws.proofs.CountingLemmas.{Contains-first}

-- no write's version is above that of the last one
pub slots-upto : (last : ℕ) (ss : List Slot) → Ascend last ss
    → AllByRecursion (λ s. s.version ≤ last_version last ss) ss
slots-upto last [] a = tt
slots-upto last (s ∷ ss) a = (
  last_version-above s.version s.version ss (omega arith)
      (ascend_above s.version s.version ss (omega arith) a.1),
  slots-upto s.version ss a.1,
)

-- what is read of writes up to a version is up to it
pub latest-upto : (t : ℕ) (ss : List Slot) → AllByRecursion (λ s. s.version ≤ t) ss
    → AllByRecursion (λ p. p.0 ≤ t) (latest ss)
unfolding latest
latest-upto t [] a = tt
latest-upto t (s ∷ ss) a =
    each_append (λ p. p.0 ≤ t) (kept s s.left ss) (latest ss) (go s.left) (latest-upto t ss a.1)
  where
    one : (b : Bool) (doc : Doc)
        → AllByRecursion {X = ℕ × Doc} (λ p. p.0 ≤ t)
        (cond b [] ((s.version, with_version s.version doc) ∷ []))
    one true doc = tt
    one false doc = (a.0, tt)

    go : (left : Option Doc) → AllByRecursion (λ p. p.0 ≤ t) (kept s left ss)
    go None = tt
    go (Some doc) = one (writes_id s.id ss) doc

-- each of rising writes is found in its version
pub slots-found : (last : ℕ) (ss : List Slot) → Ascend last ss
    → AllByRecursion (λ s. write_at s.version ss ≡ Some s) ss
slots-found last [] a = tt
slots-found last (x ∷ ss) a = (
  ap (λ b. cond b (Some x) (write_at x.version ss)) (eq-eqb x.version x.version refl),
  both ss (ascend_above x.version x.version ss (omega arith) a.1) (slots-found x.version ss a.1),
)
  where
    both : (later : List Slot) → AllByRecursion (λ s. x.version < s.version) later
        → AllByRecursion (λ s. write_at s.version ss ≡ Some s) later
        → AllByRecursion (λ s. write_at s.version (x ∷ ss) ≡ Some s) later
    both [] above found = tt
    both (s ∷ later) above found = (
      ap (λ b. cond b (Some x) (write_at s.version ss))
          (ne_eqb x.version s.version (λ is. absurd (omega (arith, above.0, is))))
          ∙ found.0,
      both later above.1 found.1,
    )

-- the write left a document, which has its id
abbrev pub IsWhole : Slot → Type 0
IsWhole s = (doc : Doc) × (s.left ≡ Some doc) × (s.id ≡ id_of doc)

-- texts that are equal pass the test
pub bytes-itself : (a b : ByteList) → a ≡ b → bytes_eq a b ≡ true
bytes-itself a b is = (bytes_eq-Decides a b).1 is

-- where the first of two tests holds
pub or_left : (a b : Bool) → a ≡ true → (a || b) ≡ true
or_left true b is = refl
or_left false b is = absurd (cc)

-- or the second one
pub or_right : (a b : Bool) → b ≡ true → (a || b) ≡ true
or_right true b is = refl
or_right false b is = is

-- the id of each latest document is written
pub latest-written : (ss : List Slot) → AllByRecursion IsWhole ss
    → AllByRecursion (λ p. writes_id (id_of p.1) ss ≡ true) (latest ss)
unfolding latest
latest-written [] a = tt
latest-written (s ∷ ss) a =
    each_append (λ p. writes_id (id_of p.1) (s ∷ ss) ≡ true) (kept s s.left ss) (latest ss)
    (subst
    (λ left. AllByRecursion (λ p. writes_id (id_of p.1) (s ∷ ss) ≡ true) (kept s left ss))
    (sym a.0.1) (here (writes_id s.id ss)))
    (each_weaker {X = ℕ × Doc} (λ p. writes_id (id_of p.1) ss ≡ true)
    (λ p. writes_id (id_of p.1) (s ∷ ss) ≡ true)
    (λ p is. or_right (bytes_eq (id_of p.1) s.id) (writes_id (id_of p.1) ss) is)
    (latest ss) (latest-written ss a.1))
  where
    doc : Doc
    doc = a.0.0

    here : (b : Bool)
        → AllByRecursion {X = ℕ × Doc} (λ p. writes_id (id_of p.1) (s ∷ ss) ≡ true)
        (cond b [] ((s.version, with_version s.version doc) ∷ []))
    here true = tt
    here false = (
      or_left (bytes_eq (id_of (with_version s.version doc)) s.id)
          (writes_id (id_of (with_version s.version doc)) ss)
          (bytes-itself (id_of (with_version s.version doc)) s.id
          (id_with_version s.version doc ∙ sym a.0.2)),
      tt,
    )

-- no two documents have one id
abbrev pub HaveOwnIds : List (ℕ × Doc) → Type 0
HaveOwnIds [] = Unit {0}
HaveOwnIds (p ∷ ps) = AllByRecursion (λ q. id_of q.1 ≢ id_of p.1) ps × HaveOwnIds ps

-- the latest documents have ids of their own
pub latest-own : (ss : List Slot) → AllByRecursion IsWhole ss → HaveOwnIds (latest ss)
unfolding latest
latest-own [] a = tt
latest-own (s ∷ ss) a =
    subst (λ left. HaveOwnIds (kept s left ss ++ latest ss)) (sym a.0.1)
    (go (writes_id s.id ss) refl (latest-written ss a.1) (latest-own ss a.1))
  where
    doc : Doc
    doc = a.0.0

    id : id_of (with_version s.version doc) ≡ s.id
    id = id_with_version s.version doc ∙ sym a.0.2

    apart : writes_id s.id ss ≡ false → (q : ℕ × Doc) → writes_id (id_of q.1) ss ≡ true
        → id_of q.1 ≢ id_of (with_version s.version doc)
    apart none q is same =
        let found : writes_id s.id ss ≡ true =
        subst (λ i. writes_id i ss ≡ true) (same ∙ id) is in
        let clash : true ≡ false = sym found ∙ none in
        cc

    go : (b : Bool) → writes_id s.id ss ≡ b
        → AllByRecursion (λ p. writes_id (id_of p.1) ss ≡ true) (latest ss)
        → HaveOwnIds (latest ss)
        → HaveOwnIds (cond b [] ((s.version, with_version s.version doc) ∷ []) ++ latest ss)
    go true is each later = later
    go false is each later = (
      each_weaker {X = ℕ × Doc} (λ p. writes_id (id_of p.1) ss ≡ true)
          (λ q. id_of q.1 ≢ id_of (with_version s.version doc)) (apart is) (latest ss) each,
      later,
    )

-- of each id that is written a document is latest
pub latest-found : (id : ByteList) (ss : List Slot) → AllByRecursion IsWhole ss
    → writes_id id ss ≡ true → (p : ℕ × Doc) × Contains (latest ss) p × (id_of p.1 ≡ id)
unfolding latest
latest-found id [] a is = absurd (cc)
latest-found id (s ∷ ss) a is =
    go (writes_id id ss) refl is (latest-found id ss a.1)
  where
    doc : Doc
    doc = a.0.0

    Found : List (ℕ × Doc) → Type 0
    Found ps = (p : ℕ × Doc) × Contains ps p × (id_of p.1 ≡ id)

    later : Found (latest ss) → Found (kept s s.left ss ++ latest ss)
    later f = (f.0, Contains-append_right (kept s s.left ss) (latest ss) f.0 f.1, f.2)

    here : bytes_eq id s.id ≡ true → writes_id id ss ≡ false
        → Found (kept s s.left ss ++ latest ss)
    here e none =
        let same : id ≡ s.id = (bytes_eq-Decides id s.id).0 e in
        let absent : writes_id s.id ss ≡ false = subst (λ i. writes_id i ss ≡ false) same none in
        let p : ℕ × Doc = (s.version, with_version s.version doc) in
        let one : kept s s.left ss ≡ p ∷ [] =
        ap (λ left. kept s left ss) a.0.1
        ∙ ap (λ b. cond b [] (p ∷ [])) absent in (
          p,
          Contains-append_left (kept s s.left ss) (latest ss) p
              (subst (λ l. Contains l p) (sym one) (Contains-first p [])),
          id_with_version s.version doc ∙ (sym a.0.2 ∙ sym same),
        )

    either : (b c : Bool) → c ≡ false → (b || c) ≡ true → b ≡ true
    either true c none t = refl
    either false c none t = absurd (cc)

    go : (c : Bool) → writes_id id ss ≡ c → (bytes_eq id s.id || writes_id id ss) ≡ true
        → (writes_id id ss ≡ true → Found (latest ss)) → Found (kept s s.left ss ++ latest ss)
    go true w t more = later (more w)
    go false w t more = here (either (bytes_eq id s.id) (writes_id id ss) w t) w
