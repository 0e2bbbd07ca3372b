-- What a walk over a history from its end keeps.
use Rattle.std.proofs.Common.{◌≡◌, ℕ, suc, ◌+◌, ◌<◌, ◌≤◌, ◌||◌, Bool, true, false, not, cond, [], ◌∷◌, length, get_or, drop, Bor, Option, Some, None, refl, sym, ap, subst, ◌∙◌, arith, zero-add, add-one, drop-cons, codes}
use Rattle.std.specs.List.{list_any}
use Rattle.std.specs.Ordering.{is_eq, nat_cmp}
use Rattle.std.specs.Cmp.Lexicographic.{slice_cmp}
use Rattle.std.specs.Prelude.{bytes_eq}
use Rattle.std.specs.BTreeSet.{BTreeSet, Updates}
use Rattle.std.proofs.lemmas.Cmp.{nat_list_eq_equiv}
use Rattle.std.proofs.lemmas.Map.Text.{is_eq-slice_cmp}
use Rattle.tuple_values.specs.Document.{ByteList, Doc}
use Rattle.shard_versions.specs.declared.entry.Entry.{Entry}
use Rattle.shard_versions.specs.Histories.{History, committed, current, latest, has_mark, settled, slots, slots_after, writes_id}
use Rattle.shard_versions.specs.Indexes.{is_id, left_of, written_id}
use Rattle.load_rules.specs.Summary.{number_in, tally_of}
use Rattle.load_rules.specs.Walks.{IsCount, IsWalked, Notes, counted_with, has_id}
use Rattle.load_rules.specs.declared.counts.Counts.{Counts}
use Rattle.load_rules.specs.declared.walk.Walk.{Walk}
use Rattle.load_rules.proofs.TallyLemmas.{amount-blind, an-id, documents-mark, documents-pending, documents-write, no-id, one, revision-blind, settled-cons, settled-none, slots-few, slots-mark, slots-write, sum-mark, sum-pending, sum-write, written-cons}

-- a test with one more id
either : (b c : Bool) → cond b true c ≡ (b || c)
either true c = refl
either false c = refl

-- the set has the id that is put in, and those that it had
pub noted-ids : (id : Bor ByteList) (old new : BTreeSet (Bor ByteList))
    → Updates (λ x y. slice_cmp nat_cmp x.now y.now) old new id true → (other : ByteList)
    → list_any (λ k. is_eq (slice_cmp nat_cmp other k.now)) new.keys
    ≡ (bytes_eq other id.now || list_any (λ k. is_eq (slice_cmp nat_cmp other k.now)) old.keys)
noted-ids id old new updates other =
    updates.0 (record { ref_ptr = (0, 0); now = other })
    ∙ either (is_eq (slice_cmp nat_cmp id.now other)) (list_any (λ k. is_eq
    (slice_cmp nat_cmp other k.now)) old.keys)
    ∙ ap (λ b. b || list_any (λ k. is_eq (slice_cmp nat_cmp other k.now)) old.keys)
    (is_eq-slice_cmp id.now other ∙ nat_list_eq_equiv.symm id.now other)

-- a document is counted whose id is new
pub noted-added : (had last : Bool) (doc : Doc) (left : Option Doc) (old new : Counts)
    → last ≡ not had → last ≡ true → left ≡ Some doc
    → new ≡ record {
      documents = old.documents + 1;
      writes = old.writes;
      amounts = old.amounts + number_in (codes "a_i") doc;
      revisions = old.revisions + number_in (codes "rev_i") doc;
    }
    → new ≡ counted_with had left old
noted-added true last doc left old new is true_ some counts = absurd (cc)
noted-added false last doc left old new is true_ some counts =
    counts ∙ sym (ap (λ o. counted_with false o old) some)

-- nothing is counted of an id that isn't new
pub noted-old : (had last : Bool) (left : Option Doc) (old : Counts)
    → last ≡ not had → last ≡ false → old ≡ counted_with had left old
noted-old true last left old is false_ = refl
noted-old false last left old is false_ = absurd (cc)

-- nor of a write that leaves no document
pub noted-none : (had : Bool) (left : Option Doc) (old : Counts) → left ≡ None
    → old ≡ counted_with had left old
noted-none true left old none = refl
noted-none false left old none = sym (ap (λ o. counted_with false o old) none)

-- what was noted of a document was noted of the same one
pub noted-left : {id : ByteList} {a b : Option Doc} {old new : Walk} → a ≡ b → Notes id a old new
    → Notes id b old new
noted-left {id = id} {old = old} {new = new} same noted =
    let P : Option Doc → Type 0 = λ left. Notes id left old new in
    subst P same noted

-- how many documents there are with one that is counted or not
with-documents : (b : Bool) (o : Option Doc) (c : Counts)
    → (counted_with b o c).documents ≡ one (λ d. 1) b o + c.documents
with-documents true o c = sym (zero-add c.documents)
with-documents false None c = sym (zero-add c.documents)
with-documents false (Some d) c = omega arith

-- as many writes
with-writes : (b : Bool) (o : Option Doc) (c : Counts) → (counted_with b o c).writes ≡ c.writes
with-writes true o c = refl
with-writes false None c = refl
with-writes false (Some d) c = refl

-- the sum of amounts
with-amounts : (b : Bool) (o : Option Doc) (c : Counts)
    → (counted_with b o c).amounts ≡ one (number_in (codes "a_i")) b o + c.amounts
with-amounts true o c = sym (zero-add c.amounts)
with-amounts false None c = sym (zero-add c.amounts)
with-amounts false (Some d) c = omega arith

-- the sum of revisions
with-revisions : (b : Bool) (o : Option Doc) (c : Counts)
    → (counted_with b o c).revisions ≡ one (number_in (codes "rev_i")) b o + c.revisions
with-revisions true o c = sym (zero-add c.revisions)
with-revisions false None c = sym (zero-add c.revisions)
with-revisions false (Some d) c = omega arith

-- the ids of the settled writes with one more entry, where a Mark follows
settled-ids : (e : Entry) (h : History) (o : Option ByteList) → written_id e.kind ≡ o
    → has_mark (e ∷ h) ≡ true
    → (id : ByteList) → writes_id id (slots (settled (e ∷ h))) ≡ (is_id id o || writes_id id
    (slots (settled h)))
settled-ids e h o is mark id =
    ap (λ s. writes_id id (slots s)) (settled-cons e h mark) ∙ written-cons id e (settled h)
    ∙ ap (λ p. is_id id p || writes_id id (slots (settled h))) is

module _ (w : Walk) (e : Entry) (h : History) (walked : IsWalked w h) where
  -- a Mark is taken
  pub took-mark : written_id e.kind ≡ None → IsWalked
      (record { counts = w.counts; marked = true; ids = w.ids }) (e ∷ h)
  unfolding tally_of
  took-mark none =
      let mark : has_mark (e ∷ h) ≡ true = ap (λ b. b || has_mark h) (no-id e.kind none).0 in
      record {
        marked = sym mark;
        ids = λ id. walked.ids id ∙ sym (settled-ids e h None none mark id);
        counts = record {
          documents = walked.counts.documents ∙ sym (documents-mark e h none);
          writes = walked.counts.writes ∙ sym (slots-mark e h none);
          amounts = walked.counts.amounts ∙ sym (sum-mark (λ p. number_in (codes "a_i") p.1)
              (number_in (codes "a_i")) amount-blind e h none);
          revisions = walked.counts.revisions ∙ sym (sum-mark (λ p. number_in (codes "rev_i") p.1)
              (number_in (codes "rev_i")) revision-blind e h none);
        };
      }

  module _ (id : ByteList) (some : written_id e.kind ≡ Some id) where
    -- the walk with one more write counted
    abbrev written : Walk
    written = record {
      counts = record {
        documents = w.counts.documents;
        writes = w.counts.writes + 1;
        amounts = w.counts.amounts;
        revisions = w.counts.revisions;
      };
      marked = w.marked;
      ids = w.ids;
    }

    -- a write is no Mark
    mark-is : (b : Bool) → has_mark h ≡ b → has_mark (e ∷ h) ≡ b
    mark-is b is = ap (λ m. m || has_mark h) (an-id e.kind id some).0 ∙ is

    -- a pending write is taken
    pub took-pending : w.marked ≡ false → IsWalked written (e ∷ h)
    unfolding tally_of slots slots_after
    took-pending unmarked =
        let none : has_mark h ≡ false = sym walked.marked ∙ unmarked in
        record {
          marked = unmarked ∙ sym (mark-is false none);
          ids = λ other. walked.ids other
              ∙ ap (λ s. writes_id other (slots s)) (settled-none h none
              ∙ sym (settled-none (e ∷ h) (mark-is false none)));
          counts = record {
            documents = walked.counts.documents ∙ sym (documents-pending e h id some none);
            writes = ap (λ n. n + 1) walked.counts.writes ∙ sym (slots-write e h id some);
            amounts = walked.counts.amounts ∙ sym (sum-pending (λ p. number_in (codes "a_i") p.1)
                (number_in (codes "a_i")) amount-blind e h id some none);
            revisions = walked.counts.revisions ∙ sym (sum-pending (λ p. number_in
                (codes "rev_i") p.1) (number_in (codes "rev_i")) revision-blind e h id some none);
          };
        }

    -- a committed write is taken
    pub took-committed : (v : Walk) → w.marked ≡ true → Notes id (left_of e.kind) written v
        → IsWalked v (e ∷ h)
    unfolding tally_of
    took-committed v closed noted =
        let mark : has_mark h ≡ true = sym walked.marked ∙ closed in
        let had : Bool = has_id id w in
        let is : had ≡ writes_id id (slots (settled h)) = walked.ids id in
        record {
          marked = noted.marked ∙ closed ∙ sym (mark-is true mark);
          ids = λ other. noted.ids other ∙ ap (λ b. bytes_eq other id || b) (walked.ids other)
              ∙ sym (settled-ids e h (Some id) some (mark-is true mark) other);
          counts = record {
            documents = ap (λ c. c.documents) noted.counts
                ∙ with-documents had (left_of e.kind) written.counts
                ∙ ap (λ b. one (λ d. 1) b (left_of e.kind) + w.counts.documents) is
                ∙ ap (λ n. one (λ d. 1) (writes_id id (slots (settled h)))
                (left_of e.kind) + n) walked.counts.documents
                ∙ sym (documents-write e h id some mark);
            writes = ap (λ c. c.writes) noted.counts
                ∙ with-writes had (left_of e.kind) written.counts
                ∙ ap (λ n. n + 1) walked.counts.writes ∙ sym (slots-write e h id some);
            amounts = ap (λ c. c.amounts) noted.counts
                ∙ with-amounts had (left_of e.kind) written.counts
                ∙ ap (λ b. one (number_in (codes "a_i")) b (left_of e.kind) + w.counts.amounts) is
                ∙ ap (λ n. one (number_in (codes "a_i")) (writes_id id (slots (settled h)))
                (left_of e.kind) + n) walked.counts.amounts
                ∙ sym (sum-write (λ p. number_in (codes "a_i") p.1) (number_in
                (codes "a_i")) amount-blind e h id some mark);
            revisions = ap (λ c. c.revisions) noted.counts
                ∙ with-revisions had (left_of e.kind) written.counts
                ∙ ap (λ b. one (number_in (codes "rev_i")) b
                (left_of e.kind) + w.counts.revisions) is
                ∙ ap (λ n. one (number_in (codes "rev_i")) (writes_id id (slots (settled h)))
                (left_of e.kind) + n) walked.counts.revisions
                ∙ sym (sum-write (λ p. number_in (codes "rev_i") p.1) (number_in
                (codes "rev_i")) revision-blind e h id some mark);
          };
        }

-- the entries from a place on begin with the one there
pub walked-at : (w : Walk) (h : History) (at : ℕ) (x : Entry) → at < length h → x ≡ get_or h at x
    → IsWalked w (x ∷ drop (at + 1) h) → IsWalked w (drop at h)
walked-at w h at x lt is walked =
    let P : History → Type 0 = IsWalked w in
    subst P
    (ap (λ k. x ∷ drop k h) (add-one at) ∙ ap (λ e. e ∷ drop (suc at) h) is
    ∙ sym (drop-cons h at x lt)) walked

-- of no entry nothing is counted
tally-none : tally_of [] ≡ record { documents = 0; writes = 0; amounts = 0; revisions = 0 }
unfolding tally_of current committed settled slots slots_after latest
tally-none = refl

-- where there is no history nothing is counted
pub count-none : (c : Counts) (h : History) → c ≡ record {
  documents = 0;
  writes = 0;
  amounts = 0;
  revisions = 0;
}
    → h ≡ [] → IsCount (tally_of h) c
count-none c h none empty =
    let is : tally_of h ≡ record { documents = 0; writes = 0; amounts = 0; revisions = 0 } =
    ap tally_of empty ∙ tally-none in
    record {
      documents = ap (λ d. d.documents) none ∙ sym (ap (λ t. t.documents) is);
      writes = ap (λ d. d.writes) none ∙ sym (ap (λ t. t.writes) is);
      amounts = ap (λ d. d.amounts) none ∙ sym (ap (λ t. t.amounts) is);
      revisions = ap (λ d. d.revisions) none ∙ sym (ap (λ t. t.revisions) is);
    }

-- and no id is written
ids-none : (id : ByteList) → false ≡ writes_id id (slots (settled []))
unfolding settled slots slots_after
ids-none id = refl

-- before a walk nothing is counted
pub walked-none : (c : Counts) (ids : BTreeSet (Bor ByteList))
    → c ≡ record { documents = 0; writes = 0; amounts = 0; revisions = 0 } → ids.keys ≡ []
    → IsWalked (record { counts = c; marked = false; ids = ids }) []
walked-none c ids none empty = record {
  marked = refl;
  ids = λ id. ap (λ ks. list_any (λ k. is_eq (slice_cmp nat_cmp id k.now)) ks) empty ∙ ids-none id;
  counts = count-none c [] none refl;
}

-- writes so far are fewer than entries
pub writes-below : (w : Walk) (h : History) → IsWalked w h → w.counts.writes ≤ length h
unfolding tally_of
writes-below w h walked = omega (arith, walked.counts.writes, slots-few h)
