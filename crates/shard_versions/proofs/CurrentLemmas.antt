-- What a shard reads where each of its writes is current.
use Rattle.std.proofs.Common.{◌≡◌, ℕ, ◌+◌, Bool, true, false, cond, not, ◌&&◌, ◌||◌, List, [], ◌∷◌}
use Rattle.std.proofs.Common.{◌++◌, zero, suc, ◌<◌, Option, Some, None, length, get_or, map, refl, sym, ap, subst, ◌∙◌, arith, eqb-true}
use Rattle.std.specs.Prelude.{is_some, nat_eq, bytes_eq, IsSome, unwrap_or}
use Rattle.std.specs.List.{range_with_len}
use Rattle.std.proofs.lemmas.List.{append-nil, length-map, get_or_default}
use Rattle.std.proofs.lemmas.List.FromFn.{length-range_with_len, get_or-range_with_len}
use Rattle.tuple_values.specs.Document.{ByteList, Doc}
use Rattle.shard_segments.specs.declared.slot.Slot as segments
use Rattle.shard_versions.specs.Documents.{id_of}
use Rattle.shard_versions.specs.declared.entry.Kind.{Kind}
use Rattle.shard_versions.specs.declared.entry.Kind.TheVariants.{Put, Del, Sent, Mark}
use Rattle.shard_versions.specs.declared.entry.Entry.{Entry}
use Rattle.shard_versions.specs.Histories.{History, Slot, slots, slots_after, slot_of}
use Rattle.shard_versions.specs.Histories.{version_after, last_version, settled, committed, writes_id}
use Rattle.shard_versions.specs.Stored.{kept_slot, latest_places, stored, places_of, AreLatest}
use Rattle.shard_versions.specs.Stored.{no_slot, pair_at}
use Rattle.shard_versions.specs.Snapshots.{places_among, AreHeld}
use Rattle.shard_versions.specs.Places.{placed, last_where}
use Rattle.shard_versions.specs.Indexes.{written_id, is_write_of, before_of, stays_current}
use Rattle.shard_versions.proofs.IndexLemmas.{and-both, bytes_eq-flipped}
use Rattle.shard_versions.proofs.SnapshotLemmas.{writes_id-slot}
use Rattle.shard_versions.proofs.VersionLemmas.{slots_after-append, settled-begins, slots-grow}

-- an id that neither of two lists writes
writes_id-left : (id : ByteList) (xs ys : List Slot) → writes_id id (xs ++ ys) ≡ false
    → writes_id id xs ≡ false
writes_id-left id [] ys none = refl
writes_id-left id (x ∷ xs) ys none = go (bytes_eq id x.id) none (writes_id-left id xs ys)
  where
    go : (b : Bool) → (b || writes_id id (xs ++ ys)) ≡ false
        → (writes_id id (xs ++ ys) ≡ false → writes_id id xs ≡ false)
        → (b || writes_id id xs) ≡ false
    go true h later = absurd (cc)
    go false h later = later h

-- one that a list doesn't write, and one more write of another id
writes_id-push : (id : ByteList) (xs : List Slot) (s : Slot) → writes_id id xs ≡ false
    → bytes_eq id s.id ≡ false → writes_id id (xs ++ s ∷ []) ≡ false
writes_id-push id [] s none other = rw other refl
writes_id-push id (x ∷ xs) s none other =
    go (bytes_eq id x.id) none (λ h. writes_id-push id xs s h other)
  where
    go : (b : Bool) → (b || writes_id id xs) ≡ false
        → (writes_id id xs ≡ false → writes_id id (xs ++ s ∷ []) ≡ false)
        → (b || writes_id id (xs ++ s ∷ [])) ≡ false
    go true h later = absurd (cc)
    go false h later = later h

-- neither of two ids is the one, where no write is of it
neither : (a b : Bool) → (a || b) ≡ false → (a ≡ false) × (b ≡ false)
neither true b h = absurd (cc)
neither false b h = (refl, h)

-- the first of writes that are current are current
AreLatest-left : (xs ys : List Slot) → AreLatest (xs ++ ys) → AreLatest xs
AreLatest-left [] ys a = tt
AreLatest-left (x ∷ xs) ys a = (a.0, writes_id-left x.id xs ys a.1, AreLatest-left xs ys a.2)

-- and one more write of another id, that leaves a document
AreLatest-push : (xs : List Slot) (s : Slot) → AreLatest xs → is_some s.left ≡ true
    → writes_id s.id xs ≡ false → AreLatest (xs ++ s ∷ [])
AreLatest-push [] s a left none = (left, refl, tt)
AreLatest-push (x ∷ xs) s a left none =
    let apart = neither (bytes_eq s.id x.id) (writes_id s.id xs) none in (
      a.0,
      writes_id-push x.id xs s a.1 (bytes_eq-flipped s.id x.id apart.0),
      AreLatest-push xs s a.2 left apart.1,
    )

-- the places of writes that are current are all places
AreLatest-places : (at : ℕ) (ss : List Slot) → AreLatest ss
    → latest_places at ss ≡ range_with_len at (length ss)
unfolding latest_places
AreLatest-places at [] a = refl
AreLatest-places at (s ∷ ss) a =
    ap (λ b. cond (b && not (writes_id s.id ss)) (at ∷ []) [] ++ latest_places (at + 1) ss) a.0
    ∙ ap (λ b. cond (not b) (at ∷ []) [] ++ latest_places (at + 1) ss) a.1
    ∙ ap (λ (r : List ℕ). at ∷ r) (AreLatest-places (at + 1) ss a.2)

-- an id that no entry writes is none of their writes'
unwritten : (id : ByteList) (v : ℕ) (h : History)
    → last_where (λ e. is_write_of id e.kind) h ≡ 0 → writes_id id (slots_after v h) ≡ false
unfolding last_where slots_after
unwritten id v [] none = refl
unwritten id v (x ∷ h) none =
    writes_id-slot id (version_after v x.kind) x.kind (slots_after (version_after v x.kind) h)
    ∙ go (last_where (λ e. is_write_of id e.kind) h) (is_write_of id x.kind) none
    (unwritten id (version_after v x.kind) h)
  where
    go : (n : ℕ) (b : Bool) → placed n b ≡ 0
        → (n ≡ 0 → writes_id id (slots_after (version_after v x.kind) h) ≡ false)
        → (b || writes_id id (slots_after (version_after v x.kind) h)) ≡ false
    go zero true z f = absurd (omega arith)
    go zero false z f = f refl
    go (suc n) b z f = absurd (omega arith)

-- each write is current with one more entry where it stays so
pub current-push : (h : History) (e : Entry) (all : Bool) (before : ℕ)
    → (all ≡ true → AreLatest (slots h)) → before ≡ before_of (written_id e.kind) h
    → stays_current all before e.kind ≡ true → AreLatest (slots (h ++ e ∷ []))
unfolding slots slots_after
current-push h e all before are is stays =
    let now : ℕ = version_after (last_version 0 (slots_after 0 h)) e.kind in
    let more : slots_after 0 (h ++ e ∷ []) ≡ slots_after 0 h ++ slot_of now e.kind =
    slots_after-append 0 h (e ∷ [])
    ∙ ap (λ r. slots_after 0 h ++ r) (append-nil (slot_of now e.kind)) in
    subst AreLatest (sym more) (go e.kind now is stays)
  where
    one : (s : Slot) → is_some s.left ≡ true → (all && nat_eq before 0) ≡ true
        → before ≡ last_where (λ (x : Entry). is_write_of s.id x.kind) h
        → AreLatest (slots_after 0 h ++ s ∷ [])
    one s left stays is =
        let both = and-both all (nat_eq before 0) stays in
        AreLatest-push (slots_after 0 h) s (are both.0) left
        (unwritten s.id 0 h (sym is ∙ eqb-true before 0 both.1))

    go : (k : Kind) (v : ℕ) → before ≡ before_of (written_id k) h
        → stays_current all before k ≡ true → AreLatest (slots_after 0 h ++ slot_of v k)
    go (Put d) v is stays =
        one (record { version = v; id = id_of d; left = Some d }) refl stays is
    go (Del i) v is stays = absurd (cc)
    go (Sent s w d) v is stays =
        one (record { version = v; id = id_of d; left = Some d }) refl stays is
    go Mark v is stays = subst AreLatest (sym (append-nil (slots_after 0 h))) (are stays)

-- the places of the current ones up to the last Mark
pub among-places : (h : History) (slots_are : List segments.Slot) (all : Bool) (places : List ℕ)
    → slots_are ≡ stored h → (all ≡ true → AreLatest (slots h))
    → (all ≡ false → places ≡ places_of h) → places_among all (length slots_are) places ≡ places_of h
unfolding stored places_of committed
among-places h slots_are false places held are kept = kept refl
among-places h slots_are true places held are kept =
    let b = settled-begins h in
    let g = slots-grow (settled h) b.0 in
    let all : slots h ≡ slots (settled h) ++ g.0 = ap slots b.1 ∙ g.1 in
    ap (range_with_len 0) (ap length held ∙ length-map (slots (settled h)) kept_slot)
    ∙ sym (AreLatest-places 0 (slots (settled h))
    (AreLatest-left (slots (settled h)) g.0 (subst AreLatest all (are refl))))

-- ---- a snapshot of slots that are all current

-- a slot with a document is its version with the document
with-document : (slot : segments.Slot) → IsSome slot.document
    → slot ≡ record { version = slot.version; document = Some (unwrap_or slot.document []) }
with-document slot some =
    ap (λ (o : Option Doc). record { version = slot.version; document = o })
    (go slot.document some)
  where
    go : (o : Option Doc) → IsSome o → o ≡ Some (unwrap_or o [])
    go None some = absurd (cc)
    go (Some d) some = refl

-- the slot at a place is that of the document there
held-slot : (slots : List segments.Slot) (places : List ℕ) (k at : ℕ) (d : segments.Slot)
    (e : ℕ × Doc) → AreHeld slots places → k < length places → at ≡ get_or places k 0
    → get_or slots at d ≡ record {
      version = (get_or (map (pair_at slots) places) k e).0;
      document = Some (get_or (map (pair_at slots) places) k e).1;
    }
held-slot slots [] k at d e held lt is = absurd (omega arith)
held-slot slots (p ∷ places) zero at d e held lt is =
    ap (λ n. get_or slots n d) is
    ∙ get_or_default slots p d no_slot held.0.0
    ∙ with-document (get_or slots p no_slot) held.0.1
held-slot slots (p ∷ places) (suc k) at d e held lt is =
    held-slot slots places k at d e held.1 (omega arith) is

module _ (slots : List segments.Slot) (places : List ℕ) where
  -- there are as many documents as slots
  pub current-count : (all : Bool) → all ≡ true
      → length (map (pair_at slots) (places_among all (length slots) places)) ≡ length slots
  current-count false is = absurd (cc)
  current-count true is =
      length-map (range_with_len 0 (length slots)) (pair_at slots)
      ∙ length-range_with_len 0 (length slots)

  -- each stands at its own number
  pub current-place : (all : Bool) (k : ℕ) → all ≡ true → k < length slots
      → k ≡ get_or (places_among all (length slots) places) k 0
  current-place false k is lt = absurd (cc)
  current-place true k is lt =
      omega (arith, get_or-range_with_len 0 (length slots) k 0 lt)

  -- in the slot there
  pub current-slot : (all : Bool) (k : ℕ) (d : segments.Slot) (e : ℕ × Doc) → all ≡ true
      → k < length slots → AreHeld slots (places_among all (length slots) places)
      → get_or slots k d ≡ record {
        version =
            (get_or (map (pair_at slots) (places_among all (length slots) places)) k e).0;
        document = Some
            (get_or (map (pair_at slots) (places_among all (length slots) places)) k e).1;
      }
  current-slot false k d e is lt held = absurd (cc)
  current-slot true k d e is lt held =
      held-slot slots (range_with_len 0 (length slots)) k k d e held
      (omega (arith, length-range_with_len 0 (length slots))) (current-place true k is lt)
