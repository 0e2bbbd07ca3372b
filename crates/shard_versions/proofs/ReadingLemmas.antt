-- What a walk over the entries of a history finds.
use Rattle.std.proofs.Common.{◌≡◌, ℕ, suc, ◌+◌, ◌-◌, ◌<◌, ◌≤◌, ◌||◌, ◌&&◌, ◌==◌, not, Bool, true, false, cond, List, [], ◌∷◌, ◌++◌, length, get_or, take, drop, map, Bor, Option, Some, None, refl, sym, ap, ◌∙◌, arith, add-one, drop-cons}
use Rattle.std.proofs.lemmas.List.{take_more, take_all, drop_all, length-take, length-take-le, length-drop, get_or-take, length-map}
use Rattle.tuple_values.specs.Document.{ByteList}
use Rattle.shard_versions.specs.Documents.{id_of}
use Rattle.shard_versions.specs.declared.entry.Kind.{Kind}
use Rattle.shard_versions.specs.declared.entry.Kind.TheVariants.{Put, Del, Sent, Mark}
use Rattle.shard_versions.specs.declared.entry.Entry.{Entry}
use Rattle.shard_versions.specs.Histories.{History, Slot, slots, slots_after, slot_of, version_after, is_mark, settled, committed, last_version, top, write_at, writes_id}
use Rattle.shard_versions.specs.Indexes.{written_id, is_write_of, left_of}
use Rattle.shard_versions.specs.Readings.{left_under, is_written}
use Rattle.shard_versions.proofs.SettledLemmas.{settled-length-push, settled-take, settled-short}
use Rattle.shard_versions.proofs.SnapshotLemmas.{writes_id-slot, last_version-slot, IsPlacing, placing-goes_by}
use Rattle.shard_versions.proofs.LogLemmas.{writes, slots-length, kept-push, last-push}
use Rattle.std.specs.Prelude.{is_some, option_copied}
use Rattle.shard_segments.specs.declared.slot.Slot as segments
use Rattle.shard_versions.specs.Stored.{kept_slot, stored}

-- whether a write has an id doesn't depend on versions
writes_id-any : (id : ByteList) (v w : ℕ) (h : History) → writes_id id (slots_after v h) ≡ writes_id id (slots_after w h)
unfolding slots_after
writes_id-any id v w [] = refl
writes_id-any id v w (e ∷ h) =
    writes_id-slot id (version_after v e.kind) e.kind (slots_after (version_after v e.kind) h)
    ∙ ap (λ b. is_write_of id e.kind || b) (writes_id-any id (version_after v e.kind) (version_after w e.kind) h)
    ∙ sym (writes_id-slot id (version_after w e.kind) e.kind (slots_after (version_after w e.kind) h))

skip : (b : Bool) (x y : Option Slot) → (b && true) ≡ false → cond b x y ≡ y
skip true x y e = absurd (cc)
skip false x y e = refl

stop : (b : Bool) (x y : Option Slot) → (b && true) ≡ true → cond b x y ≡ x
stop true x y e = refl
stop false x y e = absurd (cc)

never : (b : Bool) → (b && false) ≡ true → ⊥
never true e = absurd (cc)
never false e = absurd (cc)

-- an entry that isn't the write of the version is passed
write_at-goes : (v now : ℕ) (k : Kind) (ss : List Slot) → ((now == v) && not (is_mark k)) ≡ false
    → write_at v (slot_of now k ++ ss) ≡ write_at v ss
write_at-goes v now (Put d) ss e = skip (now == v) (Some (record { version = now; id = id_of d; left = Some d })) (write_at v ss) e
write_at-goes v now (Del i) ss e = skip (now == v) (Some (record { version = now; id = i; left = None })) (write_at v ss) e
write_at-goes v now (Sent s w d) ss e = skip (now == v) (Some (record { version = now; id = id_of d; left = Some d })) (write_at v ss) e
write_at-goes v now Mark ss e = refl

-- the write of the version left what it left in any version
write_at-here : (id : ByteList) (v now : ℕ) (k : Kind) (ss : List Slot) → ((now == v) && not (is_mark k)) ≡ true
    → left_under id (write_at v (slot_of now k ++ ss)) ≡ left_under id (write_at 0 (slot_of 0 k))
write_at-here id v now (Put d) ss e = ap (left_under id) (stop (now == v) (Some (record { version = now; id = id_of d; left = Some d })) (write_at v ss) e)
write_at-here id v now (Del i) ss e = ap (left_under id) (stop (now == v) (Some (record { version = now; id = i; left = None })) (write_at v ss) e)
write_at-here id v now (Sent s w d) ss e = ap (left_under id) (stop (now == v) (Some (record { version = now; id = id_of d; left = Some d })) (write_at v ss) e)
write_at-here id v now Mark ss e = absurd (never (now == v) e)

module _ (h : History) (i : ℕ) (x : Entry) (lt : i < length h) (is : x ≡ get_or h i x) where
  -- the history from a place on begins with the entry there
  rest-at : drop i h ≡ x ∷ drop (i + 1) h
  rest-at = drop-cons h i x lt ∙ ap (λ e. e ∷ drop (suc i) h) (sym is) ∙ ap (λ k. x ∷ drop k h) (sym (add-one i))

  front-more : take (i + 1) h ≡ take i h ++ x ∷ []
  front-more = take_more h i x lt ∙ ap (λ e. take i h ++ e ∷ []) (sym is)

  length-more : length (settled (take (i + 1) h)) ≡ cond (is_mark x.kind) (length (take i h ++ x ∷ [])) (length (settled (take i h)))
  length-more = ap (λ s. length (settled s)) front-more ∙ settled-length-push (take i h) x

  -- all is settled up to a Mark
  pub closed-mark : is_mark x.kind ≡ true → i + 1 ≡ length (settled (take (i + 1) h))
  closed-mark mark =
      let le : i + 1 ≤ length h = omega arith in
      sym (length-more ∙ ap (λ b. cond b (length (take i h ++ x ∷ [])) (length (settled (take i h)))) mark
      ∙ ap length (sym front-more) ∙ length-take-le (i + 1) h le)

  -- a write settles nothing
  pub closed-write : (closed : ℕ) → is_mark x.kind ≡ false → closed ≡ length (settled (take i h))
      → closed ≡ length (settled (take (i + 1) h))
  closed-write closed mark inv =
      inv ∙ sym (length-more ∙ ap (λ b. cond b (length (take i h ++ x ∷ [])) (length (settled (take i h)))) mark)

  -- the last version of the rest, one entry on
  pub last-goes : (version : ℕ) → last_version (version_after version x.kind) (slots_after (version_after version x.kind) (drop (i + 1) h))
      ≡ last_version version (slots_after version (drop i h))
  unfolding slots_after
  last-goes version =
      sym (ap (λ e. last_version version (slots_after version e)) rest-at
      ∙ last_version-slot version x.kind (slots_after (version_after version x.kind) (drop (i + 1) h)))

  -- the document is left by the entry here
  pub document-here : (id : ByteList) (v last : ℕ) → ((version_after last x.kind == v) && not (is_mark x.kind)) ≡ true
      → left_under id (write_at v (slots_after last (drop i h))) ≡ left_under id (write_at 0 (slot_of 0 x.kind))
  unfolding slots_after
  document-here id v last e =
      ap (λ r. left_under id (write_at v (slots_after last r))) rest-at
      ∙ write_at-here id v (version_after last x.kind) x.kind (slots_after (version_after last x.kind) (drop (i + 1) h)) e

  -- or is to come
  pub document-goes : (id : ByteList) (v last : ℕ) → ((version_after last x.kind == v) && not (is_mark x.kind)) ≡ false
      → left_under id (write_at v (slots_after last (drop i h)))
      ≡ left_under id (write_at v (slots_after (version_after last x.kind) (drop (i + 1) h)))
  unfolding slots_after
  document-goes id v last e =
      ap (λ r. left_under id (write_at v (slots_after last r))) rest-at
      ∙ ap (left_under id) (write_at-goes v (version_after last x.kind) x.kind (slots_after (version_after last x.kind) (drop (i + 1) h)) e)

  -- the id is written here or later
  pub written-more : (id : ByteList) → writes_id id (slots (drop i h)) ≡ (is_write_of id x.kind || writes_id id (slots (drop (i + 1) h)))
  unfolding slots slots_after
  written-more id =
      ap (λ r. writes_id id (slots_after 0 r)) rest-at
      ∙ writes_id-slot id (version_after 0 x.kind) x.kind (slots_after (version_after 0 x.kind) (drop (i + 1) h))
      ∙ ap (λ b. is_write_of id x.kind || b) (writes_id-any id (version_after 0 x.kind) 0 (drop (i + 1) h))

-- no more is settled than there is
pub closed-short : (h : History) (i closed : ℕ) → closed ≡ length (settled (take i h)) → closed ≤ length h
closed-short h i closed e = omega (arith, settled-short (take i h), length-take i h)

-- the settled part of all
pub closed-all : (h : History) (i closed : ℕ) → length h ≤ i → closed ≡ length (settled (take i h)) → take closed h ≡ settled h
closed-all h i closed le e =
    ap (λ k. take k h) (e ∙ ap (λ s. length (settled s)) (take_all i h le)) ∙ settled-take h

-- nothing is settled of nothing
pub closed-none : (h : History) → 0 ≡ length (settled (take 0 h))
unfolding settled
closed-none h = refl

-- a walk over the settled part begins at version 0
pub top-begins : (h entries : History) → entries ≡ settled h → last_version 0 (slots_after 0 (drop 0 entries)) ≡ top h
unfolding top committed slots
top-begins h entries e = ap (λ s. last_version 0 (slots_after 0 s)) e

-- it ends at the top
pub top-ends : (h entries : History) (i version : ℕ) → length entries ≤ i
    → last_version version (slots_after version (drop i entries)) ≡ top h → version ≡ top h
unfolding slots_after
top-ends h entries i version le inv =
    ap (λ s. last_version version (slots_after version s)) (sym (drop_all i entries le)) ∙ inv

-- nothing is left where no entry is
pub document-none : (id : ByteList) (v last i : ℕ) (h : History) → length h ≤ i
    → left_under id (write_at v (slots_after last (drop i h))) ≡ None
unfolding slots_after
document-none id v last i h le = ap (λ r. left_under id (write_at v (slots_after last r))) (drop_all i h le)

-- nor is an id written
pub written-none : (id : ByteList) (i : ℕ) (h : History) → length h ≤ i → writes_id id (slots (drop i h)) ≡ false
unfolding slots slots_after
written-none id i h le = ap (λ r. writes_id id (slots_after 0 r)) (drop_all i h le)

-- one more place is found in the settled part
pub placing-more : (h entries : History) (place : ℕ) (x : Entry) → entries ≡ settled h → place < length entries
    → x ≡ get_or entries place x → (replaced : Bool)
    → replaced ≡ is_written (written_id x.kind) (take (length entries - (place + 1)) (drop (place + 1) entries))
    → (at : ℕ) (ps qs : List ℕ) → IsPlacing h place ps → at ≡ writes (take place h)
    → qs ≡ ps ++ cond (not replaced && is_some (left_of x.kind)) (at ∷ []) [] → IsPlacing h (place + 1) qs
unfolding slots
placing-more h entries place x all lt is replaced tested at ps qs r a q =
    let inside : place < length (settled h) = omega (arith, ap length all) in
    let here : x ≡ get_or h place x =
    is ∙ ap (λ s. get_or s place x) (all ∙ sym (settled-take h)) ∙ get_or-take (length (settled h)) h place x inside in
    placing-goes_by h place x inside here replaced
    (λ id w n. tested
    ∙ ap (is_written (written_id x.kind)) (take_all (length entries - (place + 1)) (drop (place + 1) entries) (omega (arith, length-drop (place + 1) entries)))
    ∙ ap (λ o. is_written o (drop (place + 1) entries)) w
    ∙ ap (λ s. writes_id id (slots_after 0 s)) (ap (drop (place + 1)) all ∙ ap (λ k. drop k (settled h)) (add-one place))
    ∙ writes_id-any id 0 n (drop (suc place) (settled h)))
    at ps qs r a q

-- what is lent is there where what it points to is
pub is_some-copied : {X : Type 0} (o : Option (Bor X)) → is_some (option_copied o) ≡ is_some o
is_some-copied None = refl
is_some-copied (Some x) = refl

-- one more entry of the settled part is read into a snapshot
pub snapshot-more : (h entries : History) (p : ℕ) (x : Entry) → entries ≡ settled h → p < length entries
    → x ≡ get_or entries p x → (replaced held : Bool)
    → replaced ≡ is_written (written_id x.kind) (take (length entries - (p + 1)) (drop (p + 1) entries))
    → held ≡ is_some (left_of x.kind) → (at v w : ℕ) (ps qs : List ℕ) (ss new : List segments.Slot)
    → IsPlacing h p ps → ss ≡ map kept_slot (slots (take p h)) → v ≡ last_version 0 (slots (take p h)) → at ≡ length ss
    → qs ≡ ps ++ cond (not replaced && held) (at ∷ []) [] → w ≡ version_after v x.kind
    → new ≡ ss ++ map kept_slot (slot_of w x.kind)
    → record {
      places : IsPlacing h (p + 1) qs;
      kept : new ≡ map kept_slot (slots (take (p + 1) h));
      version : w ≡ last_version 0 (slots (take (p + 1) h));
    }
snapshot-more h entries p x all lt is replaced held tested holds at v w ps qs ss new r k l a q after n =
    let inside : p < length (settled h) = omega (arith, ap length all) in
    let here : x ≡ get_or h p x =
    is ∙ ap (λ s. get_or s p x) (all ∙ sym (settled-take h)) ∙ get_or-take (length (settled h)) h p x inside in
    let lies : p < length h = omega (arith, inside, settled-short h) in
    let longer : take (p + 1) h ≡ take p h ++ x ∷ [] = take_more h p x lies ∙ ap (λ y. take p h ++ y ∷ []) (sym here) in
    let now : w ≡ version_after (last_version 0 (slots (take p h))) x.kind = after ∙ ap (λ m. version_after m x.kind) l in
    let count : at ≡ writes (take p h) = a ∙ (ap length k ∙ (length-map (slots (take p h)) kept_slot ∙ slots-length (take p h))) in
    record {
      places = placing-more h entries p x all lt is replaced tested at ps qs r count
          (q ∙ ap (λ b. ps ++ cond (not replaced && b) (at ∷ []) []) holds);
      kept = n
          ∙ (kept-push (take p h) x ss (map kept_slot (slot_of w x.kind)) k (ap (λ m. map kept_slot (slot_of m x.kind)) now)
          ∙ ap (λ g. map kept_slot (slots g)) (sym longer));
      version = now ∙ (sym (last-push (take p h) x) ∙ ap (λ g. last_version 0 (slots g)) (sym longer));
    }

-- the slots of the settled part
pub snapshot-ends : (h : History) (p : ℕ) (ss : List segments.Slot) → length (settled h) ≤ p → p ≤ length (settled h)
    → ss ≡ map kept_slot (slots (take p h)) → ss ≡ stored h
unfolding stored committed
snapshot-ends h p ss low high k =
    let at : p ≡ length (settled h) = omega arith in
    k ∙ ap (λ g. map kept_slot (slots g)) (ap (λ n. take n h) at ∙ settled-take h)

-- what the walk for the settled part needs
pub ruleset settled_steps = (closed-mark, closed-write, closed-short, closed-all, closed-none)

-- what the search for an id needs
pub ruleset written_steps = (written-more, written-none)
