-- What is current is what a walk over the settled entries finds.
use Rattle.std.proofs.Common.{◌≡◌, ℕ, zero, suc, ◌+◌, ◌-◌, ◌<◌, ◌≤◌, ◌||◌, ◌&&◌, not, Bool, true, false, cond, List, [], ◌∷◌, ◌++◌, length, get_or, take, drop, Some, refl, sym, ap, ◌∙◌, arith, append_assoc, add-one, drop-cons}
use Rattle.std.specs.Prelude.{is_some}
use Rattle.std.proofs.lemmas.List.{append-nil, drop-take, drop_all, get_or-take, take_more}
use Rattle.std.proofs.lemmas.Bool.Decides.{nat_tests}
use Rattle.tuple_values.specs.Document.{ByteList}
use Rattle.shard_versions.specs.Documents.{id_of}
use Rattle.shard_versions.specs.declared.entry.Kind.{Kind}
use Rattle.shard_versions.specs.declared.entry.Kind.TheVariants.{Put, Del, Sent, Mark}
use Rattle.shard_versions.specs.declared.entry.Entry.{Entry}
use Rattle.shard_versions.specs.Histories.{History, Slot, slots, slots_after, slot_of, version_after, settled, committed, last_version, writes_id}
use Rattle.shard_versions.specs.Stored.{latest_places, places_of}
use Rattle.shard_versions.specs.Logs.{width}
use Rattle.shard_versions.specs.Indexes.{written_id, is_write_of, first_place, next_of, nexts_of, left_of, is_replaced}
use Rattle.shard_versions.proofs.LogLemmas.{writes, writes-append, last-push}
use Rattle.shard_versions.proofs.IndexLemmas.{nexts_of-at}
use Rattle.shard_versions.proofs.SettledLemmas.{settled-take, settled-short}

-- the first place is behind where it is counted from
first_place-above : (id : ByteList) (at : ℕ) (h : History) (n : ℕ) → first_place id at h ≡ suc n → at ≤ n
unfolding first_place
first_place-above id at [] n e = absurd (omega arith)
first_place-above id at (x ∷ h) n e = go (is_write_of id x.kind) e (first_place-above id (suc at) h n)
  where
    go : (b : Bool) → cond b (suc at) (first_place id (suc at) h) ≡ suc n
        → (first_place id (suc at) h ≡ suc n → suc at ≤ n) → at ≤ n
    go true e f = omega arith
    go false e f = omega (arith, f e)

-- an id is written among slots that begin with an entry's
pub writes_id-slot : (id : ByteList) (v : ℕ) (k : Kind) (ss : List Slot)
    → writes_id id (slot_of v k ++ ss) ≡ (is_write_of id k || writes_id id ss)
writes_id-slot id v (Put d) ss = refl
writes_id-slot id v (Del i) ss = refl
writes_id-slot id v (Sent s w d) ss = refl
writes_id-slot id v Mark ss = refl

-- the next write stands among so many entries where the id is written there
pub replaced-writes : (id : ByteList) (at count v : ℕ) (h : History)
    → is_replaced (first_place id at h) (at + count) ≡ writes_id id (slots_after v (take count h))
unfolding first_place slots_after
replaced-writes id at zero v [] = grind (arith, nat_tests)
replaced-writes id at (suc count) v [] = grind (arith, nat_tests)
replaced-writes id at zero v (x ∷ h) = go (first_place id at (x ∷ h)) (first_place-above id at (x ∷ h))
  where
    go : (f : ℕ) → ((n : ℕ) → f ≡ suc n → at ≤ n) → is_replaced f (at + 0) ≡ false
    go zero above = refl
    go (suc n) above = let le : at ≤ n = above n refl in late n le
      where
        late : (n : ℕ) → at ≤ n → is_replaced (suc n) (at + 0) ≡ false
        late n le = grind (arith, nat_tests)
replaced-writes id at (suc count) v (x ∷ h) =
    go (is_write_of id x.kind) (replaced-writes id (suc at) count (version_after v x.kind) h)
    ∙ sym (writes_id-slot id (version_after v x.kind) x.kind (slots_after (version_after v x.kind) (take count h)))
  where
    ss : List Slot
    ss = slots_after (version_after v x.kind) (take count h)

    near : is_replaced (suc at) (at + suc count) ≡ true
    near = grind (arith, nat_tests)

    go : (b : Bool) → is_replaced (first_place id (suc at) h) (suc at + count) ≡ writes_id id ss
        → is_replaced (cond b (suc at) (first_place id (suc at) h)) (at + suc count) ≡ (b || writes_id id ss)
    go true e = near
    go false e =
        ap (is_replaced (first_place id (suc at) h)) (let s : at + suc count ≡ suc at + count = omega arith in s) ∙ e

and_true : (b : Bool) → b ≡ (b && true)
and_true true = refl
and_true false = refl

and_false : (b : Bool) → false ≡ (b && false)
and_false true = refl
and_false false = refl

-- the places of what is latest among slots that begin with an entry's
latest_places-slot : (at v : ℕ) (k : Kind) (ss : List Slot) (replaced : Bool)
    → ((id : ByteList) → written_id k ≡ Some id → replaced ≡ writes_id id ss)
    → latest_places at (slot_of v k ++ ss) ≡ cond (not replaced && is_some (left_of k)) (at ∷ []) [] ++ latest_places (at + width k) ss
unfolding latest_places
latest_places-slot at v (Put d) ss replaced f =
    ap (λ b. cond (not b) (at ∷ []) [] ++ latest_places (at + 1) ss) (sym (f (id_of d) refl))
    ∙ ap (λ b. cond b (at ∷ []) [] ++ latest_places (at + 1) ss) (and_true (not replaced))
latest_places-slot at v (Del i) ss replaced f = ap (λ b. cond b (at ∷ []) [] ++ latest_places (at + 1) ss) (and_false (not replaced))
latest_places-slot at v (Sent s w d) ss replaced f =
    ap (λ b. cond (not b) (at ∷ []) [] ++ latest_places (at + 1) ss) (sym (f (id_of d) refl))
    ∙ ap (λ b. cond b (at ∷ []) [] ++ latest_places (at + 1) ss) (and_true (not replaced))
latest_places-slot at v Mark ss replaced f =
    ap (λ n. latest_places n ss) (let z : at ≡ at + 0 = omega arith in z)
    ∙ ap (λ b. cond b (at ∷ []) [] ++ latest_places (at + 0) ss) (and_false (not replaced))

-- the version after an entry's slot
pub last_version-slot : (v : ℕ) (k : Kind) (ss : List Slot)
    → last_version v (slot_of (version_after v k) k ++ ss) ≡ last_version (version_after v k) ss
last_version-slot v (Put d) ss = refl
last_version-slot v (Del i) ss = refl
last_version-slot v (Sent s w d) ss = refl
last_version-slot v Mark ss = refl

-- the next version is at most one more
pub version_after-next : (v : ℕ) (k : Kind) → version_after v k ≤ v + 1
version_after-next v (Put d) = omega arith
version_after-next v (Del i) = omega arith
version_after-next v (Sent s w d) = omega arith
version_after-next v Mark = omega arith

-- how far a walk over a history has come: the places so far and those of the rest
pub record IsPlacing (h : History) (place : ℕ) (ps : List ℕ) : Type 0 where
  pub places : ps
      ++ latest_places (writes (take place h))
      (slots_after (last_version 0 (slots (take place h))) (drop place (settled h)))
      ≡ places_of h

-- it begins with no place
pub placing-begins : (h : History) (ps : List ℕ) → ps ≡ [] → IsPlacing h 0 ps
unfolding places_of committed slots slots_after
placing-begins h ps e = record {
  places = ap (λ r. r ++ latest_places 0 (slots_after 0 (settled h))) e;
}

-- it ends at the last Mark
pub placing-ends : (h : History) (place : ℕ) (ps : List ℕ) → length (settled h) ≤ place → IsPlacing h place ps
    → ps ≡ places_of h
unfolding latest_places slots_after
placing-ends h place ps le r =
    let over : drop place (settled h) ≡ [] = drop_all place (settled h) le in
    sym (append-nil ps)
    ∙ (ap (λ e. ps ++ latest_places (writes (take place h)) (slots_after (last_version 0 (slots (take place h))) e)) (sym over)
    ∙ r.places)

module _ (h : History) (place : ℕ) (x : Entry) (inside : place < length (settled h)) (is : x ≡ get_or h place x) where
  private_rest : drop place (settled h) ≡ x ∷ drop (suc place) (settled h)
  private_rest =
      drop-cons (settled h) place x inside
      ∙ ap (λ e. e ∷ drop (suc place) (settled h))
      (ap (λ s. get_or s place x) (sym (settled-take h))
      ∙ (get_or-take (length (settled h)) h place x inside ∙ sym is))

  -- the next write of the entry's id stands in the settled part where the id is written in the rest
  replaced-right : (next : ℕ) (ns : List ℕ) → ns ≡ nexts_of 0 h → next ≡ get_or ns place next → (id : ByteList) → written_id x.kind ≡ Some id
      → (v : ℕ) → is_replaced next (length (settled h)) ≡ writes_id id (slots_after v (drop (suc place) (settled h)))
  replaced-right next ns right at id wrote v =
      let lt : place < length h = omega (arith, inside, settled-short h) in
      let count : ℕ = length (settled h) - suc place in
      let n : next ≡ first_place id (suc place) (drop (suc place) h) =
      at ∙ (ap (λ m. get_or m place next) right
      ∙ (nexts_of-at 0 h place next x lt
      ∙ (ap (λ (e : Entry). next_of (written_id e.kind) (suc (0 + place)) (drop (suc place) h)) (sym is)
      ∙ (ap (λ w. next_of w (suc (0 + place)) (drop (suc place) h)) wrote
      ∙ ap (λ m. first_place id (suc m) (drop (suc place) h)) (let z : 0 + place ≡ place = omega arith in z))))) in
      let all : length (settled h) ≡ suc place + count = omega arith in
      let rest : drop (suc place) (settled h) ≡ take count (drop (suc place) h) =
      ap (drop (suc place)) (sym (settled-take h))
      ∙ (ap (λ m. drop (suc place) (take m h)) all ∙ drop-take (suc place) count h) in
      ap (is_replaced next) all
      ∙ (ap (λ m. is_replaced m (suc place + count)) n
      ∙ (replaced-writes id (suc place) count v (drop (suc place) h)
      ∙ ap (λ e. writes_id id (slots_after v e)) (sym rest)))

  -- it goes on by one entry, of which it is known whether a later one replaces it
  pub placing-goes_by : (replaced : Bool)
      → ((id : ByteList) → written_id x.kind ≡ Some id → (v : ℕ) → replaced ≡ writes_id id (slots_after v (drop (suc place) (settled h))))
      → (at : ℕ) (ps qs : List ℕ) → IsPlacing h place ps → at ≡ writes (take place h)
      → qs ≡ ps ++ cond (not replaced && is_some (left_of x.kind)) (at ∷ []) [] → IsPlacing h (place + 1) qs
  unfolding slots_after
  placing-goes_by replaced f at ps qs r a q =
      let v : ℕ = last_version 0 (slots (take place h)) in
      let now : ℕ = version_after v x.kind in
      let ss : List Slot = slots_after now (drop (suc place) (settled h)) in
      let lt : place < length h = omega (arith, inside, settled-short h) in
      let here : List ℕ = cond (not replaced && is_some (left_of x.kind)) (at ∷ []) [] in
      let longer : take (place + 1) h ≡ take place h ++ x ∷ [] = take_more h place x lt ∙ ap (λ y. take place h ++ y ∷ []) (sym is) in
      let last : last_version 0 (slots (take (place + 1) h)) ≡ now =
      ap (λ s. last_version 0 (slots s)) longer ∙ last-push (take place h) x in
      let count : writes (take (place + 1) h) ≡ at + width x.kind =
      ap writes longer ∙ omega (arith, writes-append (take place h) (x ∷ []), a) in
      let first : latest_places at (slot_of now x.kind ++ ss) ≡ here ++ latest_places (at + width x.kind) ss =
      latest_places-slot at now x.kind ss replaced (λ id w. f id w now) in
      let all : latest_places (writes (take place h)) (slots_after v (drop place (settled h))) ≡ here ++ latest_places (at + width x.kind) ss =
      ap (λ e. latest_places (writes (take place h)) (slots_after v e)) private_rest
      ∙ (ap (λ n. latest_places n (slot_of now x.kind ++ ss)) (sym a) ∙ first) in
      let rest : latest_places (writes (take (place + 1) h)) (slots_after (last_version 0 (slots (take (place + 1) h))) (drop (place + 1) (settled h)))
      ≡ latest_places (at + width x.kind) ss =
      ap (λ n. latest_places n (slots_after (last_version 0 (slots (take (place + 1) h))) (drop (place + 1) (settled h)))) count
      ∙ (ap (λ w. latest_places (at + width x.kind) (slots_after w (drop (place + 1) (settled h)))) last
      ∙ ap (λ n. latest_places (at + width x.kind) (slots_after now (drop n (settled h)))) (add-one place)) in
      record {
        places = ap (λ r. qs ++ r) rest
            ∙ (ap (λ r. r ++ latest_places (at + width x.kind) ss) q
            ∙ (append_assoc ps here (latest_places (at + width x.kind) ss)
            ∙ (ap (λ r. ps ++ r) (sym all) ∙ r.places)));
      }

  -- it goes on by one entry
  pub placing-goes : (next at : ℕ) (ns ps qs : List ℕ) → IsPlacing h place ps → ns ≡ nexts_of 0 h
      → next ≡ get_or ns place next → at ≡ writes (take place h)
      → qs ≡ ps ++ cond (not (is_replaced next (length (settled h))) && is_some (left_of x.kind)) (at ∷ []) []
      → IsPlacing h (place + 1) qs
  placing-goes next at ns ps qs r right reads a q =
      placing-goes_by (is_replaced next (length (settled h))) (λ id w n. replaced-right next ns right reads id w n)
      at ps qs r a q
