-- What the topic of a load leaves in a shard of its destination.
use Rattle.std.proofs.Common.{◌≡◌, ◌≢◌, ℕ, zero, suc, ◌<◌, ◌≤◌, ◌==◌, ◌&&◌, Bool, true, false, cond, codes, pos, List, [], ◌∷◌, Some, take, drop, refl, sym, ap, subst, ◌∙◌, arith, eqb-true, inl, inr, Contains, decimal, slice_index}
use Rattle.std.specs.List.{AllByRecursion}
use Rattle.std.proofs.lemmas.List.{take-append-drop}
use Rattle.std.specs.declared.cmp.Ordering.TheVariants.{Less, Equal}
use Rattle.tuple_values.specs.Document.{ByteList, Doc, bytes_cmp, long, value_at}
use Rattle.tuple_values.specs.Keys.{shard_of}
use Rattle.tuple_values.proofs.MapLemmas.{value_put_other}
use Rattle.shard_versions.specs.Documents.{id_of, is_storable, version_name, with_version}
use Rattle.shard_versions.specs.declared.entry.Kind.{Kind}
use Rattle.shard_versions.specs.declared.entry.Kind.TheVariants.{Put, Del, Sent, Mark}
use Rattle.shard_versions.specs.Histories.{History, Slot, slots, slots_after, write_at, settled, committed, current}
use Rattle.shard_versions.specs.Deliveries.{sents, Reaches}
use Rattle.shard_versions.specs.Fitness.{IsFit, is_fit}
use Rattle.shard_versions.proofs.ListLemmas.{each_two, each_weaker}
use Rattle.shard_versions.proofs.VersionLemmas.{settled-begins, slots_after-ascend, write-stays}
use Rattle.topic_book.specs.Books.{checkpoint}
use Rattle.topic_book.specs.Fitness.{shards_of}
use Rattle.once_core.specs.declared.world.Histories.{Histories}
use Rattle.once_core.specs.Cells.{cell_of, shard_history, home_history}
use Rattle.once_core.specs.Law.{takes, IsFitAt, IsFitCell, IsSent, IsSentIfTaken, AreSent}
use Rattle.once_core.proofs.PlaceLemmas.{place-cell}
use Rattle.once_core.proofs.CurrentLemmas.{IsLast, current-last, id_with_version, write-above}
use Rattle.load_rules.specs.Documents.{amount_of, load_document, revision_of}
use Rattle.load_rules.specs.Summary.{is_taken}
use Rattle.load_rules.specs.Topic.{dest_name, load_binding, load_key, load_names, src_name}
use Rattle.load_rules.specs.Loaded.{IsDelivered, IsDeliveredKind, IsLoaded}
use Rattle.load_laws.proofs.Facts.{IsLoadSlot, IsSource}
use Rattle.load_laws.proofs.CountingLemmas.{contained-each, Contains-first, Contains-rest}
use Rattle.load_laws.proofs.QueryLemmas.{takes_amount}
use Rattle.load_laws.proofs.SentLemmas.{IsSentKind, AreAllSent, IsNewest, IsReadOf, current_newest, current_of_sent}

-- the source has four shards
src_shards : shards_of load_names src_name ≡ 4
unfolding shards_of
src_shards = refl

-- so has the destination
dest_shards : shards_of load_names dest_name ≡ 4
unfolding shards_of
dest_shards = refl

-- the amount that is read of a document of a load
read_amount : (v i r : ℕ) → value_at (codes "a_i") (with_version v (load_document i r)) ≡ Some
    (long (pos (amount_of i)))
unfolding with_version load_document
read_amount v i r = refl

-- and its revision
read_revision : (v i r : ℕ) → value_at (codes "rev_i") (with_version v (load_document i r)) ≡ Some
    (long (pos r))
unfolding with_version load_document
read_revision v i r = refl

-- and its id
read_id : (v i r : ℕ) → id_of (with_version v (load_document i r)) ≡ decimal i
unfolding with_version load_document id_of
read_id v i r = refl

-- a field of another name than a version's is the same in each version
read_other : (name : ByteList) (v : ℕ) (doc : Doc) → bytes_cmp version_name name ≡ Less
    → value_at name (with_version v doc) ≡ value_at name doc
unfolding with_version
read_other name v doc below = value_put_other name version_name (long (pos v)) doc apart
  where
    apart : bytes_cmp version_name name ≢ Equal
    apart e = let other : Less ≡ Equal = sym below ∙ e in cc

-- the topic takes a document of a load, as it is read, where its amount is taken
read_takes : (v i r : ℕ) → is_taken i ≡ true → takes load_binding (with_version v
    (load_document i r))
unfolding takes
read_takes v i r t = takes_amount (with_version v (load_document i r)) (amount_of i)
    (read_amount v i r) ∙ t

-- and only there
read_taken : (v i r : ℕ) → takes load_binding (with_version v (load_document i r))
    → is_taken i ≡ true
unfolding takes
read_taken v i r t = sym (takes_amount (with_version v (load_document i r)) (amount_of i)
    (read_amount v i r)) ∙ t

-- the topic begins at no version
begins_at_none : (shard : ℕ) → slice_index load_binding.init shard ≡ 0
begins_at_none zero = refl
begins_at_none (suc zero) = refl
begins_at_none (suc (suc zero)) = refl
begins_at_none (suc (suc (suc zero))) = refl
begins_at_none (suc (suc (suc (suc k)))) = refl

-- a write that is found is among the writes
write_contained : (w : ℕ) (s : Slot) (ss : List Slot) → write_at w ss ≡ Some s → Contains ss s
write_contained w s [] e = absurd (cc)
write_contained w s (x ∷ ss) e = go (x.version == w) e (write_contained w s ss)
  where
    go : (b : Bool) → cond b (Some x) (write_at w ss) ≡ Some s → (write_at w ss ≡ Some s
        → Contains ss s) → Contains (x ∷ ss) s
    go true e more = let same : x ≡ s = cc in subst (Contains (x ∷ ss)) same (Contains-first x ss)
    go false e more = Contains-rest x s ss (more e)

-- a committed write is a write
committed_is_written : (w : ℕ) (s : Slot) (h : History) → write_at w (committed h) ≡ Some s
    → write_at w (slots h) ≡ Some s
unfolding committed
committed_is_written w s h e =
    let b = settled-begins h in
    subst (λ t. write_at w (slots t) ≡ Some s) (sym b.1) (write-stays w s (settled h) b.0 e)

-- a write of a first part of a history is one of it
part_is_written : (w : ℕ) (s : Slot) (upto : ℕ) (h : History)
    → write_at w (slots (take upto h)) ≡ Some s → write_at w (slots h) ≡ Some s
part_is_written w s upto h e =
    subst (λ t. write_at w (slots t) ≡ Some s) (take-append-drop upto h) (write-stays w s
    (take upto h) (drop upto h) e)

-- a committed write has a version from 1 on
committed_above : (w : ℕ) (s : Slot) (h : History) → write_at w (committed h) ≡ Some s → 0 < w
unfolding committed slots
committed_above w s h e = write-above w 0 s (slots_after 0 (settled h)) (slots_after-ascend 0
    (settled h)) e

-- one version has one write, and that leaves one document
one_left : (w : ℕ) (ss : List Slot) (i j : ByteList) (a b : Doc)
    → write_at w ss ≡ Some (record { version = w; id = i; left = Some a })
    → write_at w ss ≡ Some (record { version = w; id = j; left = Some b }) → a ≡ b
one_left w ss i j a b e f =
    let s : Slot = record { version = w; id = i; left = Some a } in
    let t : Slot = record { version = w; id = j; left = Some b } in
    let both : Some s ≡ Some t = sym e ∙ f in
    let same : s ≡ t = cc in
    let lefts : Some a ≡ Some b = ap (λ (x : Slot). x.left) same in
    cc

-- each shard of the source is known
abbrev pub AreSources : ℕ → Histories → Type 0
AreSources n hs = (shard : ℕ) → shard < 4 → IsSource n shard (checkpoint load_key hs.book shard)
    (shard_history load_names hs src_name shard)

-- a delivery of a load to a shard of the destination: in this version the same shard of the
-- source has
-- a write of a document that the topic takes, and the delivery has its id, amount and revision
pub record IsLoadSent (n : ℕ) (hs : Histories) (shard version : ℕ) (sent : Doc) : Type 0 where
  pub number : ℕ
  pub within : number < n
  pub revision : ℕ
  pub taken : is_taken number ≡ true
  pub routed : shard_of 4 (decimal number) ≡ shard
  pub id : id_of sent ≡ decimal number
  pub amount : value_at (codes "a_i") sent ≡ Some (long (pos (amount_of number)))
  pub again : value_at (codes "rev_i") sent ≡ Some (long (pos revision))
  pub written : write_at version (slots (shard_history load_names hs src_name shard))
      ≡ Some (record {
        version = version;
        id = decimal number;
        left = Some
            (load_document number revision);
      })

-- the write of a document that is current in a first part of a shard of the source
record IsLoadWrite (n : ℕ) (shard version : ℕ) (doc : Doc) (h : History) : Type 0 where
  number : ℕ
  within : number < n
  revision : ℕ
  routed : shard_of 4 (decimal number) ≡ shard
  read : doc ≡ with_version version (load_document number revision)
  written : write_at version (slots h)
      ≡ Some (record {
        version = version;
        id = decimal number;
        left = Some
            (load_document number revision);
      })

-- where a write is found and is of a load, it is such a write
write_of_slot : (n shard version : ℕ) (doc left : Doc) (h : History)
    → doc ≡ with_version version left
    → write_at version (slots h) ≡ Some (record {
      version = version;
      id = id_of left;
      left = Some
          left;
    })
    → IsLoadSlot n shard (record { version = version; id = id_of left; left = Some left })
    → IsLoadWrite n shard version doc h
write_of_slot n shard version doc left h is found w =
    let same : left ≡ load_document w.number w.revision =
    let lefts : Some left ≡ Some (load_document w.number w.revision) = w.left in cc in
    record {
      number = w.number;
      within = w.within;
      revision = w.revision;
      routed = w.routed;
      read = is ∙ ap (with_version version) same;
      written = subst (λ d. write_at version (slots h) ≡ Some
          (record { version = version; id = decimal w.number; left = Some d })) same
          (subst (λ i. write_at version (slots h) ≡ Some
          (record { version = version; id = i; left = Some left })) w.id found);
    }

-- what is current in a first part of a shard of the source is there by such a write
write_of_current : (n shard version upto at : ℕ) (doc : Doc) (h : History) → IsSource n shard at h
    → Contains (current (take upto h)) (version, doc) → IsLoadWrite n shard version doc h
write_of_current n shard version upto at doc h source there =
    let l : IsLast (committed (take upto h)) (version, doc) =
    contained-each (IsLast (committed (take upto h))) (current (take upto h)) (version, doc)
    (current-last (take upto h)) there in
    let s : Slot = record { version = version; id = id_of l.doc; left = Some l.doc } in
    let found : write_at version (slots h) ≡ Some s =
    part_is_written version s upto h (committed_is_written version s (take upto h) l.written) in
    write_of_slot n shard version doc l.doc h l.is found (source.written s
    (write_contained version s (slots h) found))

-- what was delivered from such a write to the shard to which its id routes is such a delivery
sent_of_write : (n : ℕ) (hs : Histories) (shard version : ℕ) (sent : Doc)
    → shard_of 4 (id_of sent) ≡ shard
    → (d : IsDelivered hs version sent) → IsLoadWrite n d.shard version d.doc
    (shard_history load_names hs src_name d.shard)
    → IsLoadSent n hs shard version sent
sent_of_write n hs shard version sent here d w =
    let id : id_of sent ≡ decimal w.number = d.same_id ∙ (ap id_of w.read
    ∙ read_id version w.number w.revision) in
    let routed : shard_of 4 (decimal w.number) ≡ shard = sym (ap (shard_of 4) id) ∙ here in
    let same : d.shard ≡ shard = sym w.routed ∙ routed in
    record {
      number = w.number;
      within = w.within;
      revision = w.revision;
      taken = read_taken version w.number w.revision (subst (takes load_binding) w.read d.taken);
      routed = routed;
      id = id;
      amount = d.same_amount ∙ (ap (value_at (codes "a_i")) w.read
          ∙ read_amount version w.number w.revision);
      again = d.same_revision ∙ (ap (value_at (codes "rev_i")) w.read
          ∙ read_revision version w.number w.revision);
      written = subst (λ g. write_at version (slots (shard_history load_names hs src_name g))
          ≡ Some (record {
            version = version;
            id = decimal w.number;
            left = Some
                (load_document w.number w.revision);
          })) same
          w.written;
    }

-- a version that is reached is at most the greatest
reached_most : (v m : ℕ) (vs : List ℕ) → Reaches v vs → AllByRecursion (λ w. w ≤ m) vs → v ≤ m
reached_most v m [] r a = absurd r
reached_most v m (w ∷ vs) r a = elim r [
  | inl le ↦ omega
      (arith, le, a.0)
  | inr later ↦ reached_most v m vs later a.1
]

-- some version reaches another
reached_some : (v : ℕ) (vs : List ℕ) → Reaches v vs → (w : ℕ) × (ws : List ℕ) × (vs ≡ w ∷ ws)
reached_some v [] r = absurd r
reached_some v (w ∷ ws) r = (w, ws, refl)

-- a current document of the shard of the destination: one of the load that the topic takes and that
-- routes there, with its amount, in its last revision
pub record IsDestCurrent (n shard : ℕ) (p : ℕ × Doc) : Type 0 where
  pub number : ℕ
  pub within : number < n
  pub taken : is_taken number ≡ true
  pub routed : shard_of 4 (decimal number) ≡ shard
  pub id : id_of p.1 ≡ decimal number
  pub amount : value_at (codes "a_i") p.1 ≡ Some (long (pos (amount_of number)))
  pub again : value_at (codes "rev_i") p.1 ≡ Some (long (pos (revision_of number)))

-- a document of the load is current in the source in this version, which or a later one was
-- delivered
record IsLastSent (hs : Histories) (shard i : ℕ) : Type 0 where
  version : ℕ
  there : Contains (current (shard_history load_names hs src_name shard))
      (version, with_version version (load_document i (revision_of i)))
  sent : Reaches version (sents src_name (decimal i) (shard_history load_names hs dest_name shard))

-- the shard of the destination to which the id of a document of a load routes
home_of : (hs : Histories) (v i r shard : ℕ) → shard_of 4 (decimal i) ≡ shard
    → IsSent load_names hs load_binding dest_name (v, with_version v (load_document i r))
    → Reaches v (sents src_name (decimal i) (shard_history load_names hs dest_name shard))
home_of hs v i r shard routed sent =
    subst (λ g. Reaches v (sents src_name (decimal i)
    (shard_history load_names hs dest_name g))) routed
    (subst (λ k. Reaches v (sents src_name (decimal i) (shard_history load_names hs dest_name
    (shard_of k (decimal i))))) dest_shards
    (subst (λ id. Reaches v (sents src_name id (home_history load_names hs dest_name id)))
    (read_id v i r) sent))

module _ (n : ℕ) (hs : Histories) (l : IsLoaded n hs) (sources : AreSources n hs) (shard : ℕ)
    (within : shard < 4) where
  -- what stands in the shard of the destination belongs there
  dest_fit : IsFit 4 shard (shard_history load_names hs dest_name shard)
  unfolding IsFitCell
  dest_fit =
      let h : History = shard_history load_names hs dest_name shard in
      let place = place-cell load_names dest_name shard (subst (λ k. shard < k)
      (sym dest_shards) within) in
      subst (λ k. IsFit k shard h) dest_shards
      (subst (λ o. IsFitAt o h) place.1 (l.law.fit (cell_of load_names dest_name shard)))

  -- each entry there is a delivery of the load or a Mark
  dest_sent : AreAllSent (IsLoadSent n hs shard) src_name
      (shard_history load_names hs dest_name shard)
  unfolding IsFit
  dest_sent =
      each_two (λ e. IsDeliveredKind hs e.kind) (λ e. is_fit 4 shard e.kind ≡ true)
      (λ e. IsSentKind (IsLoadSent n hs shard) src_name e.kind) (λ e d f. go e.kind d f)
      (shard_history load_names hs dest_name shard) (l.delivered shard within) dest_fit
    where
      right : (a b : Bool) → (a && b) ≡ true → b ≡ true
      right true b e = e
      right false b e = absurd (cc)

      go : (k : Kind) → IsDeliveredKind hs k → is_fit 4 shard k ≡ true
          → IsSentKind (IsLoadSent n hs shard) src_name k
      go (Put doc) d f = absurd d
      go (Del id) d f = absurd d
      go Mark d f = tt
      go (Sent from v doc) d f =
          let h : History = shard_history load_names hs src_name d.1.shard in
          let here : shard_of 4 (id_of doc) ≡ shard =
          eqb-true (shard_of 4 (id_of doc)) shard (right (is_storable doc) (shard_of 4
          (id_of doc) == shard) f) in (
            d.0,
            sent_of_write n hs shard v doc here d.1
                (write_of_current n d.1.shard v d.1.upto
                (checkpoint load_key hs.book d.1.shard) d.1.doc h
                (sources d.1.shard d.1.within) d.1.current),
          )

  -- the last revision of a document that the topic takes was delivered there
  last_sent : (i : ℕ) → i < n → is_taken i ≡ true → shard_of 4 (decimal i) ≡ shard
      → IsLastSent hs shard i
  unfolding AreSent
  last_sent i lt taken routed =
      let h : History = shard_history load_names hs src_name shard in
      let source = sources shard within in
      let there = source.there i lt routed in
      let v : ℕ = there.0 in
      let p : ℕ × Doc = (v, with_version v (load_document i (revision_of i))) in
      let last : IsLast (committed h) p = contained-each (IsLast (committed h)) (current h) p
      (current-last h) there.1 in
      let above : 0 < v = committed_above v (record {
        version = v;
        id = id_of last.doc;
        left =
            Some last.doc;
      }) h last.written in
      let low : slice_index load_binding.init shard < v = subst (λ k. k < v) (sym
      (begins_at_none shard)) above in
      let covered = (l.law.covered load_key load_binding l.bound shard (subst (λ k. shard < k)
      (sym src_shards) within)).sent dest_name refl in
      let sent : IsSent load_names hs load_binding dest_name p =
      contained-each (IsSentIfTaken load_names hs load_binding dest_name
      (slice_index load_binding.init shard) (checkpoint load_key hs.book shard))
      (current h) p covered there.1 (read_takes v i (revision_of i) taken) low
      (source.reached p there.1) in
      record {
        version = v;
        there = there.1;
        sent = home_of hs v i (revision_of i) shard routed sent;
      }

  -- a delivery in the version of the last revision of its document has that revision
  of_last : (i r v : ℕ)
      → Contains (current (shard_history load_names hs src_name shard)) (
        v,
        with_version v
            (load_document i (revision_of i)),
      )
      → write_at v (slots (shard_history load_names hs src_name shard))
      ≡ Some (record { version = v; id = decimal i; left = Some (load_document i r) })
      → revision_of i ≡ r
  of_last i r v there found =
      let h : History = shard_history load_names hs src_name shard in
      let p : ℕ × Doc = (v, with_version v (load_document i (revision_of i))) in
      let last : IsLast (committed h) p = contained-each (IsLast (committed h)) (current h) p
      (current-last h) there in
      let left : last.doc ≡ load_document i r =
      one_left v (slots h) (id_of last.doc) (decimal i) last.doc (load_document i r)
      (committed_is_written v (record { version = v; id = id_of last.doc; left = Some last.doc })
      h last.written) found in
      let whole : with_version v (load_document i (revision_of i)) ≡ with_version v
      (load_document i r) =
      last.is ∙ ap (with_version v) left in
      let read : Some (long (pos (revision_of i))) ≡ Some (long (pos r)) =
      sym (read_revision v i (revision_of i)) ∙ (ap (value_at (codes "rev_i")) whole
      ∙ read_revision v i r) in
      cc

  -- the newest delivery of an id is that of the last revision of its document
  last_of_newest : (version : ℕ) (sent : Doc) → (s : IsLoadSent n hs shard version sent)
      → AllByRecursion (λ v. v ≤ version) (sents src_name (id_of sent)
      (shard_history load_names hs dest_name shard))
      → revision_of s.number ≡ s.revision
  last_of_newest version sent s most =
      let h : History = shard_history load_names hs src_name shard in
      let t = last_sent s.number s.within s.taken s.routed in
      let slot : Slot = record {
        version = version;
        id = decimal s.number;
        left = Some
            (load_document s.number s.revision);
      } in
      let most_here : AllByRecursion (λ v. v ≤ version) (sents src_name (decimal s.number)
      (shard_history load_names hs dest_name shard)) =
      subst (λ id. AllByRecursion (λ v. v ≤ version) (sents src_name id
      (shard_history load_names hs dest_name shard))) s.id most in
      let low : t.version ≤ version =
      reached_most t.version version (sents src_name (decimal s.number)
      (shard_history load_names hs dest_name shard)) t.sent most_here in
      let high : version ≤ t.version =
      (sources shard within).greatest (
        t.version,
        with_version t.version (load_document s.number
            (revision_of s.number)),
      ) t.there slot
      (write_contained version slot (slots h) s.written) (sym (read_id t.version s.number
      (revision_of s.number))) in
      let same : version ≡ t.version = omega (arith, low, high) in
      of_last s.number s.revision t.version t.there
      (subst (λ v. write_at v (slots h)
      ≡ Some (record {
        version = v;
        id = decimal s.number;
        left = Some
            (load_document s.number s.revision);
      })) same s.written)

  -- each current document of the shard of the destination is such a one
  pub dest_current : AllByRecursion (IsDestCurrent n shard) (current
      (shard_history load_names hs dest_name shard))
  dest_current =
      each_weaker (IsNewest (IsLoadSent n hs shard) src_name
      (shard_history load_names hs dest_name shard)) (IsDestCurrent n shard)
      one (current (shard_history load_names hs dest_name shard))
      (current_newest (IsLoadSent n hs shard) src_name
      (shard_history load_names hs dest_name shard) dest_sent
      (l.law.settled (cell_of load_names dest_name shard)) (λ id. l.law.rising
      (cell_of load_names dest_name shard) src_name id))
    where
      one : (p : ℕ × Doc) → IsNewest (IsLoadSent n hs shard) src_name
          (shard_history load_names hs dest_name shard) p
          → IsDestCurrent n shard p
      one p w =
          let s = w.holds in
          let last : revision_of s.number ≡ s.revision = last_of_newest w.version w.doc s w.most in
          record {
            number = s.number;
            within = s.within;
            taken = s.taken;
            routed = s.routed;
            id = ap id_of w.is ∙ (id_with_version p.0 w.doc ∙ s.id);
            amount = ap (value_at (codes "a_i")) w.is ∙ (read_other (codes "a_i") p.0 w.doc refl
                ∙ s.amount);
            again = ap (value_at (codes "rev_i")) w.is ∙ (read_other (codes "rev_i") p.0 w.doc refl
                ∙ (s.again ∙ ap (λ r. Some (long (pos r))) (sym last)));
          }

  -- each document of the load that the topic takes and that routes to the shard is current there
  pub dest_there : (i : ℕ) → i < n → is_taken i ≡ true → shard_of 4 (decimal i) ≡ shard
      → IsReadOf (decimal i) (current (shard_history load_names hs dest_name shard))
  dest_there i lt taken routed =
      let h : History = shard_history load_names hs dest_name shard in
      let t = last_sent i lt taken routed in
      let some = reached_some t.version (sents src_name (decimal i) h) t.sent in
      current_of_sent (IsLoadSent n hs shard) src_name (decimal i) h dest_sent
      (l.law.settled (cell_of load_names dest_name shard)) some.0 some.1 some.2
