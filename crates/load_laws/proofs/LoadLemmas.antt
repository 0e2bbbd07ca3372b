-- The documents that the indexers of a load write, as writes, as slots and as current documents.
use Rattle.std.proofs.Common.{◌≡◌, ◌≢◌, ◌⊎◌, inl, inr, ℕ, suc, ◌+◌, ◌%◌, ◌<◌, ◌≤◌, ◌==◌, ◌||◌, Bool, true, false, cond, List, [], ◌∷◌, ◌++◌, length, filter, map, Contains, bytes_eq, decimal, refl, sym, ap, subst, ◌∙◌, arith, eq-eqb, eqb-true}
use Rattle.std.proofs.lemmas.Bool.{eqb-false}
use Rattle.std.specs.List.{AllByRecursion}
use Rattle.std.proofs.lemmas.List.Elements.{Contains-append_left}
use Rattle.tuple_values.specs.Document.{ByteList, Doc}
use Rattle.tuple_values.specs.Keys.{shard_of}
use Rattle.shard_versions.specs.Documents.{id_of, with_version}
use Rattle.shard_versions.specs.Fitness.{is_routed}
use Rattle.shard_versions.specs.declared.entry.Kind.{Kind}
use Rattle.shard_versions.specs.declared.entry.Kind.TheVariants.{Put, Del, Sent, Mark}
use Rattle.shard_versions.specs.declared.entry.Entry.{Entry}
use Rattle.shard_versions.specs.Histories.{History, latest, slot_of, slots_after, version_after, writes_id}
use Rattle.shard_versions.proofs.ListLemmas.{each_append, each_weaker}
use Rattle.load_rules.specs.Documents.{again_of, below, indexed_documents, is_even, is_of, load_document, numbers_of, revision_of}
use Rattle.load_laws.proofs.Facts.{IsLoadCurrent, IsLoadSlot}
use Rattle.load_laws.proofs.CountingLemmas.{Contains-below, Contains-cases, Contains-filter, Contains-none, below-Contains, each-contained, filter-Contains}
use Rattle.load_laws.proofs.ListLemmas.{Contains-map, each_map, each_passing, filter-map, Ends, ends-before, ends-each, ends-filter, ends-map, ends-weaker}
use Rattle.load_laws.proofs.SlotLemmas.{IsWhole, bytes-itself, or_left, or_right}

-- the id of the kind's document, or the id that it deletes
abbrev pub kind_id : Kind → ByteList
kind_id (Put doc) = id_of doc
kind_id (Del id) = id
kind_id (Sent src version doc) = id_of doc
kind_id Mark = []

-- the id of a document of the load is its number
pub id_of-load_document : (number revision : ℕ)
    → id_of (load_document number revision) ≡ decimal number
unfolding id_of load_document
id_of-load_document number revision = refl

-- the write of a document of the load that routes to the shard, in one of its revisions
pub record IsLoadKind (n shard : ℕ) (k : Kind) : Type 0 where
  pub number : ℕ
  pub within : number < n
  pub revision : ℕ
  pub few : revision ≤ revision_of number
  pub routed : shard_of 4 (decimal number) ≡ shard
  pub is : k ≡ Put (load_document number revision)

-- in its last one
pub record IsFinalKind (n shard : ℕ) (k : Kind) : Type 0 where
  pub number : ℕ
  pub within : number < n
  pub routed : shard_of 4 (decimal number) ≡ shard
  pub is : k ≡ Put (load_document number (revision_of number))

-- the slots of such writes are those of the load
pub slots-load : (n shard last : ℕ) (w : History)
    → AllByRecursion (λ e. IsLoadKind n shard e.kind) w
    → AllByRecursion (IsLoadSlot n shard) (slots_after last w)
unfolding slots_after
slots-load n shard last [] a = tt
slots-load n shard last (e ∷ w) a = go e.kind a.0 (λ v. slots-load n shard v w a.1)
  where
    go : (k : Kind) → IsLoadKind n shard k
        → ((v : ℕ) → AllByRecursion (IsLoadSlot n shard) (slots_after v w))
        → AllByRecursion (IsLoadSlot n shard)
        (slot_of (version_after last k) k ++ slots_after (version_after last k) w)
    go k l later =
        subst (λ k. AllByRecursion (IsLoadSlot n shard)
        (slot_of (version_after last k) k ++ slots_after (version_after last k) w)) (sym l.is) (
          record {
            number = l.number;
            within = l.within;
            revision = l.revision;
            few = l.few;
            routed = l.routed;
            id = id_of-load_document l.number l.revision;
            left = refl;
          },
          later (last + 1),
        )

-- each left a document
pub slots-whole : (n shard last : ℕ) (w : History)
    → AllByRecursion (λ e. IsLoadKind n shard e.kind) w
    → AllByRecursion IsWhole (slots_after last w)
slots-whole n shard last w a =
    each_weaker (IsLoadSlot n shard) IsWhole
    (λ s l. (
      load_document l.number l.revision,
      l.left,
      l.id ∙ sym (id_of-load_document l.number l.revision),
    )) (slots_after last w) (slots-load n shard last w a)

-- there are as many slots as writes
pub length-slots : (n shard last : ℕ) (w : History)
    → AllByRecursion (λ e. IsLoadKind n shard e.kind) w
    → length (slots_after last w) ≡ length w
unfolding slots_after
length-slots n shard last [] a = refl
length-slots n shard last (e ∷ w) a = go e.kind a.0 (λ v. length-slots n shard v w a.1)
  where
    go : (k : Kind) → IsLoadKind n shard k → ((v : ℕ) → length (slots_after v w) ≡ length w)
        → length (slot_of (version_after last k) k ++ slots_after (version_after last k) w)
        ≡ suc (length w)
    go k l later =
        subst
        (λ k. length (slot_of (version_after last k) k ++ slots_after (version_after last k) w)
        ≡ suc (length w)) (sym l.is) (ap suc (later (last + 1)))

-- the id of a write is written
pub writes_id-later : (n shard last : ℕ) (w : History)
    → AllByRecursion (λ e. IsLoadKind n shard e.kind) w → (e : Entry) → Contains w e
    → writes_id (kind_id e.kind) (slots_after last w) ≡ true
unfolding slots_after
writes_id-later n shard last [] a e c = absurd (Contains-none e c)
writes_id-later n shard last (x ∷ w) a e c =
    go x.kind a.0 (here (Contains-cases x e w c)) (λ v. writes_id-later n shard v w a.1 e)
  where
    here : (x ≡ e) ⊎ Contains w e → (kind_id e.kind ≡ kind_id x.kind) ⊎ Contains w e
    here (inl is) = inl (ap (λ (z : Entry). kind_id z.kind) (sym is))
    here (inr later) = inr later

    go : (k : Kind) → IsLoadKind n shard k → (kind_id e.kind ≡ kind_id k) ⊎ Contains w e
        → ((v : ℕ) → Contains w e → writes_id (kind_id e.kind) (slots_after v w) ≡ true)
        → writes_id (kind_id e.kind)
        (slot_of (version_after last k) k ++ slots_after (version_after last k) w) ≡ true
    go k l at more =
        subst
        (λ k. (kind_id e.kind ≡ kind_id k) ⊎ Contains w e
        → writes_id (kind_id e.kind)
        (slot_of (version_after last k) k ++ slots_after (version_after last k) w) ≡ true)
        (sym l.is) by at
      where
        id : ByteList
        id = id_of (load_document l.number l.revision)

        by : (kind_id e.kind ≡ id) ⊎ Contains w e
            → (bytes_eq (kind_id e.kind) id
            || writes_id (kind_id e.kind) (slots_after (last + 1) w)) ≡ true
        by (inl same) =
            or_left (bytes_eq (kind_id e.kind) id)
            (writes_id (kind_id e.kind) (slots_after (last + 1) w))
            (bytes-itself (kind_id e.kind) id same)
        by (inr later) =
            or_right (bytes_eq (kind_id e.kind) id)
            (writes_id (kind_id e.kind) (slots_after (last + 1) w)) (more (last + 1) later)

-- the latest documents of such writes are those of the load in their last revisions, where each
-- behind which none of its id stands is in its last one
pub latest-load : (n shard last : ℕ) (w : History)
    → AllByRecursion (λ e. IsLoadKind n shard e.kind) w
    → Ends (λ (e : Entry). kind_id e.kind) (λ (e : Entry). IsFinalKind n shard e.kind) w
    → AllByRecursion (IsLoadCurrent n shard) (latest (slots_after last w))
unfolding slots_after latest
latest-load n shard last [] a ends = tt
latest-load n shard last (e ∷ w) a ends =
    go e.kind a.0 (λ none. ends.0 none)
    (λ y c. writes_id-later n shard (last + 1) w a.1 y c)
    (λ v. latest-load n shard v w a.1 ends.1)
  where
    go : (k : Kind) → IsLoadKind n shard k
        → (((y : Entry) → Contains w y → kind_id y.kind ≢ kind_id k) → IsFinalKind n shard k)
        → ((y : Entry) → Contains w y
        → writes_id (kind_id y.kind) (slots_after (last + 1) w) ≡ true)
        → ((v : ℕ) → AllByRecursion (IsLoadCurrent n shard) (latest (slots_after v w)))
        → AllByRecursion (IsLoadCurrent n shard)
        (latest (slot_of (version_after last k) k ++ slots_after (version_after last k) w))
    go k l final written later =
        subst
        (λ k. (((y : Entry) → Contains w y → kind_id y.kind ≢ kind_id k) → IsFinalKind n shard k)
        → AllByRecursion (IsLoadCurrent n shard)
        (latest (slot_of (version_after last k) k ++ slots_after (version_after last k) w)))
        (sym l.is) (λ f. here f (writes_id id (slots_after (last + 1) w)) refl) final
      where
        doc : Doc
        doc = load_document l.number l.revision

        id : ByteList
        id = id_of doc

        here : (((y : Entry) → Contains w y → kind_id y.kind ≢ id) → IsFinalKind n shard (Put doc))
            → (b : Bool) → writes_id id (slots_after (last + 1) w) ≡ b
            → AllByRecursion (IsLoadCurrent n shard)
            (cond b [] ((last + 1, with_version (last + 1) doc) ∷ [])
            ++ latest (slots_after (last + 1) w))
        here f true is = later (last + 1)
        here f false is = (current (f none), later (last + 1))
          where
            none : (y : Entry) → Contains w y → kind_id y.kind ≢ id
            none y c same =
                let found : writes_id id (slots_after (last + 1) w) ≡ true =
                subst (λ i. writes_id i (slots_after (last + 1) w) ≡ true) same (written y c) in
                let clash : true ≡ false = sym found ∙ is in
                cc

            current : IsFinalKind n shard (Put doc)
                → IsLoadCurrent n shard (last + 1, with_version (last + 1) doc)
            current k =
                let same : doc ≡ load_document k.number (revision_of k.number) =
                let put : Put doc ≡ Put (load_document k.number (revision_of k.number)) = k.is in
                cc in
                record {
                  number = k.number;
                  within = k.within;
                  routed = k.routed;
                  is = ap (with_version (last + 1)) same;
                }

-- the number is below this one, and where it is even the indexer writes it again
abbrev pub IsNumberOf : ℕ → ℕ → ℕ → Type 0
IsNumberOf n indexer i = (i < n) × (is_even i ≡ true → Contains (again_of n indexer) i)

-- so it is of the numbers that an indexer writes
numbers-of : (n indexer : ℕ) → AllByRecursion (IsNumberOf n indexer) (numbers_of n indexer)
unfolding numbers_of again_of
numbers-of n indexer =
    each-contained (IsNumberOf n indexer) (numbers_of n indexer)
    (λ i c. (
      Contains-below n i (Contains-filter (is_of indexer) (below n) i c).0,
      filter-Contains is_even (numbers_of n indexer) i c,
    ))

-- those that it writes again are even
again-of : (n indexer : ℕ)
    → AllByRecursion (λ i. (i < n) × (is_even i ≡ true)) (again_of n indexer)
unfolding numbers_of again_of
again-of n indexer =
    each-contained (λ i. (i < n) × (is_even i ≡ true)) (again_of n indexer)
    (λ i c. let even = Contains-filter is_even (numbers_of n indexer) i c in
    (Contains-below n i (Contains-filter (is_of indexer) (below n) i even.0).0, even.1))

-- an even number has a second revision, an odd one hasn't
revision-even : (i : ℕ) → is_even i ≡ true → 1 ≡ revision_of i
revision-even i even = let e : i % 2 ≡ 0 = eqb-true (i % 2) 0 even in omega arith

revision-odd : (i : ℕ) → is_even i ≡ false → 0 ≡ revision_of i
revision-odd i odd = let e : i % 2 ≢ 0 = eqb-false (i % 2) 0 odd in omega arith

-- the document is one of the load
abbrev pub IsLoadDocument : ℕ → Doc → Type 0
IsLoadDocument n doc =
    (i : ℕ) × (revision : ℕ) × (i < n) × (revision ≤ revision_of i)
    × (doc ≡ load_document i revision)

-- in its last revision
abbrev pub IsFinalDocument : ℕ → Doc → Type 0
IsFinalDocument n doc = (i : ℕ) × (i < n) × (doc ≡ load_document i (revision_of i))

-- each document of an indexer is one of the load
indexed-load : (n indexer : ℕ)
    → AllByRecursion (IsLoadDocument n) (indexed_documents n indexer)
unfolding indexed_documents
indexed-load n indexer =
    each_append (IsLoadDocument n) (map (λ i. load_document i 0) (numbers_of n indexer))
    (map (λ i. load_document i 1) (again_of n indexer))
    (each_map (IsLoadDocument n) (λ i. load_document i 0) (numbers_of n indexer)
    (each_weaker (IsNumberOf n indexer) (λ i. IsLoadDocument n (load_document i 0))
    (λ i of. (i, 0, of.0, omega arith, refl)) (numbers_of n indexer) (numbers-of n indexer)))
    (each_map (IsLoadDocument n) (λ i. load_document i 1) (again_of n indexer)
    (each_weaker (λ i. (i < n) × (is_even i ≡ true)) (λ i. IsLoadDocument n (load_document i 1))
    (λ i of. (i, 1, of.0, omega (arith, revision-even i of.1), refl))
    (again_of n indexer) (again-of n indexer)))

-- each behind which none of its id stands is in its last revision
indexed-final : (n indexer : ℕ)
    → Ends id_of (IsFinalDocument n) (indexed_documents n indexer)
unfolding indexed_documents
indexed-final n indexer =
    ends-before id_of (IsFinalDocument n) (map (λ i. load_document i 0) (numbers_of n indexer))
    (map (λ i. load_document i 1) (again_of n indexer))
    (each_map Before (λ i. load_document i 0) (numbers_of n indexer)
    (each_weaker (IsNumberOf n indexer) (λ i. Before (load_document i 0))
    (λ i of none. first i of none (is_even i) refl) (numbers_of n indexer) (numbers-of n indexer)))
    (ends-each id_of (IsFinalDocument n) (map (λ i. load_document i 1) (again_of n indexer))
    (each_map (IsFinalDocument n) (λ i. load_document i 1) (again_of n indexer)
    (each_weaker (λ i. (i < n) × (is_even i ≡ true)) (λ i. IsFinalDocument n (load_document i 1))
    (λ i of. (i, of.0, ap (load_document i) (revision-even i of.1)))
    (again_of n indexer) (again-of n indexer))))
  where
    IsNone : Doc → Type 0
    IsNone doc =
        (y : Doc) → Contains (map (λ i. load_document i 1) (again_of n indexer)) y
        → id_of y ≢ id_of doc

    Before : Doc → Type 0
    Before doc = IsNone doc → IsFinalDocument n doc

    first : (i : ℕ) → IsNumberOf n indexer i → IsNone (load_document i 0) → (b : Bool)
        → is_even i ≡ b → IsFinalDocument n (load_document i 0)
    first i of none true even =
        absurd (none (load_document i 1)
        (Contains-map (λ i. load_document i 1) (again_of n indexer) i (of.1 even))
        (id_of-load_document i 1 ∙ sym (id_of-load_document i 0)))
    first i of none false odd = (i, of.0, ap (load_document i) (revision-odd i odd))

-- whether the document routes to the shard
abbrev pub is_here : ℕ → Doc → Bool
is_here shard doc = is_routed 4 shard (Put doc)

-- what an indexer writes at a shard
abbrev pub indexed_kinds : ℕ → ℕ → ℕ → List Kind
indexed_kinds n indexer shard =
    filter (is_routed 4 shard) (map Put (indexed_documents n indexer))

-- the shard of a document of the load is that of its number
routed-here : (i revision shard : ℕ) (doc : Doc) → doc ≡ load_document i revision
    → is_here shard doc ≡ true → shard_of 4 (decimal i) ≡ shard
routed-here i revision shard doc is here =
    sym (ap (shard_of 4) (ap id_of is ∙ id_of-load_document i revision))
    ∙ eqb-true (shard_of 4 (id_of doc)) shard here

-- each write of an indexer at a shard is of the load
pub indexed-kinds : (n indexer shard : ℕ)
    → AllByRecursion (IsLoadKind n shard) (indexed_kinds n indexer shard)
indexed-kinds n indexer shard =
    each_passing (IsLoadKind n shard) (is_routed 4 shard) (map Put (indexed_documents n indexer))
    (each_map (λ k. is_routed 4 shard k ≡ true → IsLoadKind n shard k) Put
    (indexed_documents n indexer)
    (each_weaker (IsLoadDocument n) (λ doc. is_here shard doc ≡ true → IsLoadKind n shard (Put doc))
    (λ doc l here. record {
      number = l.0;
      within = l.2;
      revision = l.1;
      few = l.3;
      routed = routed-here l.0 l.1 shard doc l.4 here;
      is = ap Put l.4;
    }) (indexed_documents n indexer) (indexed-load n indexer)))

-- each behind which none of its id stands is in its last revision
pub indexed-ends : (n indexer shard : ℕ)
    → Ends kind_id (IsFinalKind n shard) (indexed_kinds n indexer shard)
indexed-ends n indexer shard =
    subst (Ends kind_id (IsFinalKind n shard))
    (sym (filter-map (is_routed 4 shard) Put (indexed_documents n indexer)))
    (ends-map kind_id (IsFinalKind n shard) Put
    (filter (is_here shard) (indexed_documents n indexer))
    (ends-filter id_of (λ doc. IsFinalKind n shard (Put doc)) (is_here shard)
    (λ x y same. ap (λ id. shard_of 4 id == shard) same) (indexed_documents n indexer)
    (ends-weaker id_of (IsFinalDocument n)
    (λ doc. is_here shard doc ≡ true → IsFinalKind n shard (Put doc))
    (λ doc f here. record {
      number = f.0;
      within = f.1;
      routed = routed-here f.0 (revision_of f.0) shard doc f.2 here;
      is = ap Put f.2;
    }) (indexed_documents n indexer) (indexed-final n indexer))))

-- a number that routes to the shard is written there by its indexer
pub indexed-there : (n number shard : ℕ) → number < n → shard_of 4 (decimal number) ≡ shard
    → Contains (indexed_kinds n (number % 4) shard) (Put (load_document number 0))
unfolding indexed_documents numbers_of
indexed-there n number shard lt routed =
    filter-Contains (is_routed 4 shard) (map Put (indexed_documents n (number % 4)))
    (Put (load_document number 0))
    (Contains-map Put (indexed_documents n (number % 4)) (load_document number 0)
    (Contains-append_left (map (λ i. load_document i 0) (numbers_of n (number % 4)))
    (map (λ i. load_document i 1) (again_of n (number % 4))) (load_document number 0)
    (Contains-map (λ i. load_document i 0) (numbers_of n (number % 4)) number
    (filter-Contains (is_of (number % 4)) (below n) number (below-Contains n number lt)
    (eq-eqb (number % 4) (number % 4) refl)))))
    (eq-eqb (shard_of 4 (id_of (load_document number 0))) shard
    (ap (shard_of 4) (id_of-load_document number 0) ∙ routed))
