-- Where cells are, and that what stands in a cell belongs there.
use Rattle.std.proofs.Common.{◌≡◌, ℕ, ◌+◌, ◌-◌, ◌<◌, ◌≢◌, ◌&&◌, Bool, true, false, cond, ltb, eqb, List, [], ◌∷◌, ◌++◌, Option, Some, None, refl, sym, ap, subst, ◌∙◌, arith, bytes_eq}
use Rattle.std.proofs.lemmas.Bool.{lt-ltb, eqb-true}
use Rattle.std.proofs.lemmas.Bool.Decides.{nat_tests}
use Rattle.std.proofs.lemmas.Slice.Eq.{bytes_eq-Decides}
use Rattle.std.specs.List.{AllByRecursion}
use Rattle.tuple_values.specs.Document.{ByteList, Doc}
use Rattle.tuple_values.specs.Keys.{shard_of}
use Rattle.tuple_values.specs.declared.names.NameShards.{NameShards}
use Rattle.shard_versions.specs.Documents.{id_of, with_version}
use Rattle.shard_versions.specs.declared.entry.Kind.{Kind}
use Rattle.shard_versions.specs.declared.entry.Kind.TheVariants.{Put, Del, Sent, Mark}
use Rattle.shard_versions.specs.Histories.{History, Slot, slots, slots_after, slot_of, version_after, settled, committed, writes_id, kept, latest, current}
use Rattle.shard_versions.specs.Deliveries.{sents, sent_version}
use Rattle.shard_versions.specs.Fitness.{IsFit, is_fit, is_storable_kind}
use Rattle.shard_versions.proofs.ListLemmas.{each_append, each_left}
use Rattle.shard_versions.proofs.VersionLemmas.{settled-begins}
use Rattle.topic_book.specs.Fitness.{shards_of}
use Rattle.once_core.specs.Cells.{place_of, cell_of}
use Rattle.once_core.proofs.CurrentLemmas.{id_with_version}

-- the shard of a collection is at the place of its cell
pub place-cell : (names : List NameShards) (collection : ByteList) (shard : ℕ) → shard < shards_of names collection
    → (name : ByteList) × (place_of names (cell_of names collection shard)
    ≡ Some (record { collection = name; shard = shard; shards = shards_of names collection }))
unfolding place_of cell_of shards_of
place-cell [] collection shard lt = absurd (omega arith)
place-cell (n ∷ names) collection shard lt =
    go (bytes_eq n.name collection) lt (λ l. place-cell names collection shard l)
  where
    cells : Bool → ℕ
    cells b = cond b shard (n.shards + cell_of names collection shard)

    go : (b : Bool) → shard < cond b n.shards (shards_of names collection)
        → (shard < shards_of names collection → (name : ByteList) × (place_of names (cell_of names collection shard)
        ≡ Some (record { collection = name; shard = shard; shards = shards_of names collection })))
        → (name : ByteList) × (cond (ltb (cond b shard (n.shards + cell_of names collection shard)) n.shards)
        (Some (record { collection = n.name; shard = cond b shard (n.shards + cell_of names collection shard); shards = n.shards }))
        (place_of names (cond b shard (n.shards + cell_of names collection shard) - n.shards))
        ≡ Some (record { collection = name; shard = shard; shards = cond b n.shards (shards_of names collection) }))
    go true l more = (n.name, rw (lt-ltb shard n.shards l) refl)
    go false l more =
        let m = more l in
        let past : ltb (n.shards + cell_of names collection shard) n.shards ≡ false = grind (arith, nat_tests) in
        let left : n.shards + cell_of names collection shard - n.shards ≡ cell_of names collection shard = omega arith in
        (m.0, rw (past, left) m.1)

-- a write's document belongs to this shard of so many
abbrev pub IsHere : ℕ → ℕ → Option Doc → Type 0
IsHere shards shard None = Unit {0}
IsHere shards shard (Some doc) = shard_of shards (id_of doc) ≡ shard

-- the document of an entry that fits a shard belongs there
routed : (shards shard : ℕ) (doc : Doc) (a : Bool)
    → (a && eqb (shard_of shards (id_of doc)) shard) ≡ true → shard_of shards (id_of doc) ≡ shard
routed shards shard doc a e =
    eqb-true (shard_of shards (id_of doc)) shard (second a (eqb (shard_of shards (id_of doc)) shard) e)
  where
    second : (a b : Bool) → (a && b) ≡ true → b ≡ true
    second true b e = e
    second false b e = absurd (cc)

-- what fits a shard delivers nothing under an id that routes to another one
pub sents-elsewhere : (src id : ByteList) (shards shard : ℕ) (h : History) → IsFit shards shard h
    → shard ≢ shard_of shards id → sents src id h ≡ []
unfolding IsFit sents
sents-elsewhere src id shards shard [] fit away = refl
sents-elsewhere src id shards shard (e ∷ h) fit away =
    go e.kind fit.0 (sents-elsewhere src id shards shard h fit.1 away)
  where
    go : (k : Kind) → is_fit shards shard k ≡ true → sents src id h ≡ []
        → sent_version src id k ++ sents src id h ≡ []
    go (Put doc) f none = none
    go (Del other) f none = none
    go Mark f none = none
    go (Sent from v doc) f none = turn (bytes_eq src from) (bytes_eq id (id_of doc)) refl
      where
        here : bytes_eq id (id_of doc) ≡ true → ⊥
        here same =
            let is : id ≡ id_of doc = (bytes_eq-Decides id (id_of doc)).0 same in
            let at : shard_of shards (id_of doc) ≡ shard = routed shards shard doc (is_storable_kind (Sent from v doc)) f in
            away (sym (ap (shard_of shards) is ∙ at))

        turn : (a b : Bool) → bytes_eq id (id_of doc) ≡ b
            → cond (a && b) (v ∷ []) [] ++ sents src id h ≡ []
        turn false b e = none
        turn true false e = none
        turn true true e = absurd (here e)

-- the documents of what fits a shard belong there
slots_here : (shards shard last : ℕ) (h : History) → IsFit shards shard h → AllByRecursion (λ s. IsHere shards shard s.left) (slots_after last h)
unfolding IsFit slots_after
slots_here shards shard last [] fit = tt
slots_here shards shard last (e ∷ h) fit = go e.kind fit.0 (λ v. slots_here shards shard v h fit.1)
  where
    go : (k : Kind) → is_fit shards shard k ≡ true → ((v : ℕ) → AllByRecursion (λ s. IsHere shards shard s.left) (slots_after v h))
        → AllByRecursion (λ s. IsHere shards shard s.left) (slot_of (version_after last k) k ++ slots_after (version_after last k) h)
    go (Put doc) f more = (routed shards shard doc (is_storable_kind (Put doc)) f, more (last + 1))
    go (Del id) f more = (tt, more (last + 1))
    go (Sent src v doc) f more = (routed shards shard doc (is_storable_kind (Sent src v doc)) f, more (last + 1))
    go Mark f more = more last

-- so do those that are read of such writes
latest_here : (shards shard : ℕ) (ss : List Slot) → AllByRecursion (λ s. IsHere shards shard s.left) ss
    → AllByRecursion (λ p. shard_of shards (id_of p.1) ≡ shard) (latest ss)
unfolding latest
latest_here shards shard [] a = tt
latest_here shards shard (s ∷ ss) a =
    each_append (λ p. shard_of shards (id_of p.1) ≡ shard) (kept s s.left ss) (latest ss) (go s.left a.0) (latest_here shards shard ss a.1)
  where
    go : (left : Option Doc) → IsHere shards shard left → AllByRecursion (λ p. shard_of shards (id_of p.1) ≡ shard) (kept s left ss)
    go None here = tt
    go (Some doc) here = turn (writes_id s.id ss)
      where
        turn : (b : Bool) → AllByRecursion {X = ℕ × Doc} (λ p. shard_of shards (id_of p.1) ≡ shard) (cond b [] ((s.version, with_version s.version doc) ∷ []))
        turn true = tt
        turn false = (ap (shard_of shards) (id_with_version s.version doc) ∙ here, tt)

-- each current document of a history that fits a shard belongs there
pub current-here : (shards shard : ℕ) (h : History) → IsFit shards shard h
    → AllByRecursion (λ p. shard_of shards (id_of p.1) ≡ shard) (current h)
unfolding current committed slots IsFit
current-here shards shard h fit =
    let b = settled-begins h in
    let part = each_left (λ e. is_fit shards shard e.kind ≡ true) (settled h) b.0
    (subst (AllByRecursion (λ e. is_fit shards shard e.kind ≡ true)) b.1 fit) in
    latest_here shards shard (slots_after 0 (settled h)) (slots_here shards shard 0 (settled h) part)
