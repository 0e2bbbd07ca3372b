-- What is current is what a walk over the settled entries from their end finds.
use Rattle.std.proofs.Common.{◌≡◌, ℕ, ◌+◌, ◌-◌, ◌≤◌, ◌||◌, not, Bool, true, false, cond, List, [], ◌∷◌, ◌++◌, length, take, drop, Option, Some, None, refl, sym, ap, ◌∙◌, arith, bytes_eq}
use Rattle.std.proofs.lemmas.Cmp.{nat_list_eq_equiv}
use Rattle.std.proofs.lemmas.List.{take_all, drop_all}
use Rattle.tuple_values.specs.Document.{ByteList, Doc, is_named}
use Rattle.shard_versions.specs.Documents.{id_of, with_version}
use Rattle.shard_versions.specs.declared.entry.Kind.{Kind}
use Rattle.shard_versions.specs.declared.entry.Kind.TheVariants.{Put, Del, Sent, Mark}
use Rattle.shard_versions.specs.declared.entry.Entry.{Entry}
use Rattle.shard_versions.specs.Histories.{History, Slot, slots, slots_after, slot_of, version_after, settled, committed, last_version, top, writes_id, latest, current}
use Rattle.shard_versions.specs.Indexes.{written_id, is_write_of, left_of}
use Rattle.shard_versions.proofs.SnapshotLemmas.{writes_id-slot}
use Rattle.shard_versions.proofs.LogLemmas.{last-push}
use Rattle.law_checks.specs.Walks.{read_of, turned, shown_with, IsWalked}
use Rattle.law_checks.specs.declared.walk.Shown.{Shown}
use Rattle.law_checks.specs.declared.walk.Walk.{Walk}

-- one more document comes first
pub turned-push : (ss : List Shown) (s : Shown) (ps : List (ℕ × Doc)) → turned (ss ++ s ∷ []) ps ≡ read_of s ∷ turned ss ps
turned-push [] s ps = refl
turned-push (x ∷ ss) s ps = turned-push ss s (read_of x ∷ ps)

-- a document is shown
pub show-new : (old new : List Shown) (s : Shown) (left : Option Doc) (t : Bool) → t ≡ true → left ≡ Some s.document.now → new ≡ old ++ s ∷ []
    → turned new [] ≡ shown_with t left s.version ++ turned old []
show-new old new s left t is some e =
    ap (λ ss. turned ss []) e ∙ (turned-push old s [] ∙ sym (rw (is, some) refl))

-- whether a write has an id doesn't depend on versions
writes-any : (id : ByteList) (v w : ℕ) (h : History) → writes_id id (slots_after v h) ≡ writes_id id (slots_after w h)
unfolding slots_after
writes-any id v w [] = refl
writes-any id v w (e ∷ h) =
    writes_id-slot id (version_after v e.kind) e.kind (slots_after (version_after v e.kind) h)
    ∙ (ap (λ b. is_write_of id e.kind || b) (writes-any id (version_after v e.kind) (version_after w e.kind) h)
    ∙ sym (writes_id-slot id (version_after w e.kind) e.kind (slots_after (version_after w e.kind) h)))

-- an id is written by an entry, or behind it
writes-first : (id : ByteList) (e : Entry) (h : History) → writes_id id (slots (e ∷ h)) ≡ (is_write_of id e.kind || writes_id id (slots h))
unfolding slots slots_after
writes-first id e h =
    writes_id-slot id (version_after 0 e.kind) e.kind (slots_after (version_after 0 e.kind) h)
    ∙ ap (λ b. is_write_of id e.kind || b) (writes-any id (version_after 0 e.kind) 0 h)

-- a write has the next version
next-version : (v : ℕ) (k : Kind) (id : ByteList) → written_id k ≡ Some id → version_after v k ≡ v + 1
next-version v (Put d) id w = refl
next-version v (Del i) id w = refl
next-version v (Sent s n d) id w = refl
next-version v Mark id w = absurd (cc)

-- and a Mark none
same-version : (v : ℕ) (k : Kind) → written_id k ≡ None → version_after v k ≡ v
same-version v (Put d) w = absurd (cc)
same-version v (Del i) w = absurd (cc)
same-version v (Sent s n d) w = absurd (cc)
same-version v Mark w = refl

-- what is latest among writes that begin with an entry's
latest-first : (v : ℕ) (e : Entry) (id : ByteList) (rest : History) (new : Bool) → written_id e.kind ≡ Some id
    → new ≡ not (writes_id id (slots rest))
    → latest (slots_after v (e ∷ rest)) ≡ shown_with new (left_of e.kind) (v + 1) ++ latest (slots_after (v + 1) rest)
unfolding latest slots slots_after
latest-first v e id rest new w n = go e.kind w
  where
    ss : List Slot
    ss = slots_after (v + 1) rest

    picked : (d : Doc) (b : Bool) → cond b [] ((v + 1, with_version (v + 1) d) ∷ []) ++ latest ss
        ≡ cond (not b) ((v + 1, with_version (v + 1) d) ∷ []) [] ++ latest ss
    picked d true = refl
    picked d false = refl

    kept-first : (d : Doc) → id_of d ≡ id → cond (writes_id (id_of d) ss) [] ((v + 1, with_version (v + 1) d) ∷ []) ++ latest ss
        ≡ cond new ((v + 1, with_version (v + 1) d) ∷ []) [] ++ latest ss
    kept-first d same =
        picked d (writes_id (id_of d) ss)
        ∙ ap (λ b. cond b ((v + 1, with_version (v + 1) d) ∷ []) [] ++ latest ss)
        (sym (n ∙ ap not (sym (ap (λ i. writes_id i ss) same ∙ writes-any id (v + 1) 0 rest))))

    go : (k : Kind) → written_id k ≡ Some id
        → latest (slot_of (version_after v k) k ++ slots_after (version_after v k) rest) ≡ shown_with new (left_of k) (v + 1) ++ latest ss
    go (Put d) w = kept-first d (let s : id_of d ≡ id = cc in s)
    go (Del i) w = refl
    go (Sent s m d) w = kept-first d (let t : id_of d ≡ id = cc in t)
    go Mark w = absurd (cc)

-- a Mark leaves it
latest-mark : (v : ℕ) (e : Entry) (rest : History) → written_id e.kind ≡ None → latest (slots_after v (e ∷ rest)) ≡ latest (slots_after v rest)
unfolding slots_after
latest-mark v e rest w = go e.kind w
  where
    go : (k : Kind) → written_id k ≡ None → latest (slot_of (version_after v k) k ++ slots_after (version_after v k) rest) ≡ latest (slots_after v rest)
    go (Put d) w = absurd (cc)
    go (Del i) w = absurd (cc)
    go (Sent s m d) w = absurd (cc)
    go Mark w = refl

module _ (w : Walk) (before : History) (e : Entry) (rest : History) (walked : IsWalked w (before ++ e ∷ []) rest) where
  -- a Mark is taken
  pub take-mark : None ≡ written_id e.kind → IsWalked w before (e ∷ rest)
  take-mark none =
      let last : last_version 0 (slots (before ++ e ∷ [])) ≡ last_version 0 (slots before) =
      last-push before e ∙ same-version (last_version 0 (slots before)) e.kind (sym none) in
      record {
        version = walked.version ∙ last;
        ids = λ id. walked.ids id
            ∙ sym (writes-first id e rest ∙ ap (λ b. b || writes_id id (slots rest)) (let s : is_write_of id e.kind ≡ false = rw (sym none) refl in s));
        shown = walked.shown ∙ (ap (λ v. latest (slots_after v rest)) last
            ∙ sym (latest-mark (last_version 0 (slots before)) e rest (sym none)));
      }

  -- a write is taken
  pub take-write : (u : Walk) (id : ByteList) (new : Bool) → Some id ≡ written_id e.kind → new ≡ not (is_named id w.ids)
      → ((other : ByteList) → is_named other u.ids ≡ (bytes_eq id other || is_named other w.ids))
      → turned u.shown.items [] ≡ shown_with new (left_of e.kind) w.version ++ turned w.shown.items []
      → u.version ≡ w.version - 1 → IsWalked u before (e ∷ rest)
  take-write u id new some is added shows down =
      let v : ℕ = last_version 0 (slots before) in
      let last : last_version 0 (slots (before ++ e ∷ [])) ≡ v + 1 = last-push before e ∙ next-version v e.kind id (sym some) in
      let up : w.version ≡ v + 1 = walked.version ∙ last in
      record {
        version = let r : u.version ≡ v = omega arith in r;
        ids = λ other. added other
            ∙ (ap (λ b. bytes_eq id other || b) (walked.ids other)
            ∙ (ap (λ b. b || writes_id other (slots rest)) (nat_list_eq_equiv.symm id other
            ∙ (let s : bytes_eq other id ≡ is_write_of other e.kind = rw (sym some) refl in s)) ∙ sym (writes-first other e rest)));
        shown = shows
            ∙ (ap (λ n. shown_with new (left_of e.kind) n ++ turned w.shown.items []) up
            ∙ (ap (λ ps. shown_with new (left_of e.kind) (v + 1) ++ ps) (walked.shown ∙ ap (λ n. latest (slots_after n rest)) last)
            ∙ sym (latest-first v e id rest new (sym some) (is ∙ ap not (walked.ids id)))));
      }

-- it begins behind the last entry
pub walk-begins : (w : Walk) (h es : History) (n : ℕ) → es ≡ settled h → length es ≤ n → w.version ≡ top h → w.ids ≡ [] → w.shown.items ≡ []
    → IsWalked w (take n es) (drop n es)
unfolding top committed slots slots_after latest
walk-begins w h es n all le version ids shown = record {
  version = version ∙ ap (λ x. last_version 0 (slots_after 0 x)) (sym (take_all n es le ∙ all));
  ids = λ id. ap (is_named id) ids ∙ ap (λ r. writes_id id (slots_after 0 r)) (sym (drop_all n es le));
  shown = ap (λ s. turned s []) shown
      ∙ ap (λ r. latest (slots_after (last_version 0 (slots (take n es))) r)) (sym (drop_all n es le));
}

-- and ends at the first one
pub walk-ends : (w : Walk) (h es : History) → es ≡ settled h → IsWalked w (take 0 es) (drop 0 es) → turned w.shown.items [] ≡ current h
unfolding current committed slots slots_after
walk-ends w h es all walked = walked.shown ∙ ap (λ s. latest (slots_after 0 s)) all
