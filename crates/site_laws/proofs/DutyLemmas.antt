-- What a writer may append after a look, by what it had seen before.
use Rattle.std.proofs.Common.{◌≡◌, ◌≢◌, ℕ, ◌+◌, ◌-◌, ◌<◌, ◌≤◌, ◌&&◌, Bool, true, false, cond, ltb, List, [], ◌∷◌, ◌++◌, Some, length, get_or, set, map, slice_index, bytes_eq, refl, sym, ap, subst, ◌∙◌, arith}
use Rattle.std.specs.Prelude.{filter}
use Rattle.std.proofs.lemmas.Bool.{lt-ltb}
use Rattle.std.proofs.lemmas.Bool.Decides.{nat_tests}
use Rattle.std.proofs.lemmas.List.{get_or-set_same}
use Rattle.std.proofs.lemmas.Slice.Eq.{bytes_eq-Decides}
use Rattle.std.specs.List.{AllByRecursion}
use Rattle.tuple_values.specs.Document.{ByteList, Doc}
use Rattle.tuple_values.specs.declared.names.NameShards.{NameShards}
use Rattle.shard_versions.specs.Deliveries.{is_sent_of, AreSentsOf}
use Rattle.shard_versions.specs.Fitness.{is_fit, is_routed, is_storable_kind, IsFit}
use Rattle.shard_versions.specs.Histories.{History, current}
use Rattle.shard_versions.specs.declared.entry.Entry.{Entry}
use Rattle.shard_versions.specs.declared.entry.Kind.{Kind}
use Rattle.shard_versions.specs.declared.entry.Kind.TheVariants.{Put, Del, Sent, Mark}
use Rattle.shard_versions.proofs.ListLemmas.{each_weaker}
use Rattle.topic_book.specs.Books.{Book, binding_of, checkpoint}
use Rattle.topic_book.specs.Cells.{place_of, cells_in, cell_of}
use Rattle.topic_book.specs.Fitness.{shards_of}
use Rattle.topic_book.specs.declared.topic.TopicKey.{TopicKey}
use Rattle.topic_book.specs.declared.topic.Binding.{Binding}
use Rattle.topic_book.proofs.BookLemmas.{binding-stays, checkpoint-append}
use Rattle.once_core.specs.Allowed.{IsElsewhere, IsDispatch, MayStore}
use Rattle.once_core.specs.Cells.{shard_history}
use Rattle.once_core.specs.Law.{takes, IsDelivery, IsFitAt, IsFitCell, IsSent, IsTrueKind, AreSent, AreTrue}
use Rattle.once_core.specs.declared.world.Histories.{Histories}
use Rattle.once_core.proofs.GrowthLemmas.{true_up}
use Rattle.exchange_rules.specs.Cells.{Log, book_in}
use Rattle.exchange_rules.specs.Deliveries.{sent_kind, sent_share}
use Rattle.exchange_rules.specs.Steps.{entries_by, AreBy}
use Rattle.exchange_rules.specs.declared.batch.BatchItem.{BatchItem}
use Rattle.exchange_rules.proofs.StepLemmas.{entries_by_are}
use Rattle.site_laws.specs.Duties.{IsItem, MaySend, MayDeliver}
use Rattle.site_laws.specs.SiteCells.{histories_in, AreSeenOf}
use Rattle.site_laws.proofs.CellLemmas.{book-append, seen-grows, shard-below, shard-same}
use Rattle.site_laws.proofs.WriteLemmas.{both-true}

-- the shard of a collection that is there is at the place of its cell
pub place-named : (names : List NameShards) (collection : ByteList) (shard : ℕ)
    → shard < shards_of names collection
    → place_of names (cell_of names collection shard)
    ≡ Some (record { collection = collection; shard = shard; shards = shards_of names collection })
unfolding place_of cell_of shards_of
place-named [] collection shard lt = absurd (omega arith)
place-named (n ∷ names) collection shard lt =
    go (bytes_eq n.name collection) refl lt (λ l. place-named names collection shard l)
  where
    go : (b : Bool) → bytes_eq n.name collection ≡ b
        → shard < cond b n.shards (shards_of names collection)
        → (shard < shards_of names collection
        → place_of names (cell_of names collection shard)
        ≡ Some (record {
          collection = collection;
          shard = shard;
          shards = shards_of names collection;
        }))
        → cond (ltb (cond b shard (n.shards + cell_of names collection shard)) n.shards)
        (Some (record {
          collection = n.name;
          shard = cond b shard (n.shards + cell_of names collection shard);
          shards = n.shards;
        }))
        (place_of names (cond b shard (n.shards + cell_of names collection shard) - n.shards))
        ≡ Some (record {
          collection = collection;
          shard = shard;
          shards = cond b n.shards (shards_of names collection);
        })
    go true e l more =
        let same : n.name ≡ collection = (bytes_eq-Decides n.name collection).0 e in
        rw (lt-ltb shard n.shards l)
        (ap (λ c. Some (record { collection = c; shard = shard; shards = n.shards })) same)
    go false e l more =
        let past : ltb (n.shards + cell_of names collection shard) n.shards ≡ false =
        grind (arith, nat_tests) in
        let left : n.shards + cell_of names collection shard - n.shards
        ≡ cell_of names collection shard = omega arith in
        rw (past, left) (more l)

-- an item's entry is a delivery of its source
sent_of : (src : ByteList) → bytes_eq src src ≡ true
sent_of src = (bytes_eq-Decides src src).1 refl

-- what is known of each entry of a share: it may stand there, comes from the source, and is true
record AreItems (names : List NameShards) (hs : Histories) (cell shards shard : ℕ)
    (src : ByteList) (es : List Entry) : Type 0 where
  fit : AllByRecursion (λ (e : Entry). is_fit shards shard e.kind ≡ true) es
  sent : AllByRecursion (λ (e : Entry). is_sent_of src e.kind ≡ true) es
  are : AllByRecursion (λ (e : Entry). IsTrueKind names hs cell e.kind) es

-- to which cell a delivery goes doesn't matter
moved : (names : List NameShards) (hs : Histories) (cell other : ℕ) (src : ByteList) (v : ℕ)
    (doc : Doc) → IsDelivery names hs cell src v doc → IsDelivery names hs other src v doc
moved names hs cell other src v doc d =
    record { doc = d.doc; reached = d.reached; written = d.written; is_from = d.is_from }

-- by one item after another
share-items : (names : List NameShards) (seen : List Log) (dest src : ByteList)
    (me cell shards shard : ℕ) (batch : List BatchItem)
    → AllByRecursion (IsItem names seen dest src) batch
    → AreItems names (histories_in names seen) cell shards shard src
    (entries_by me (sent_share src batch shards shard))
share-items names seen dest src me cell shards shard [] a =
    record { fit = tt; sent = tt; are = tt }
share-items names seen dest src me cell shards shard (i ∷ batch) a =
    go (is_routed shards shard (sent_kind src i)) refl
    (share-items names seen dest src me cell shards shard batch a.1)
  where
    rest : List Kind
    rest = filter (is_routed shards shard) (map (sent_kind src) batch)

    go : (b : Bool) → is_routed shards shard (sent_kind src i) ≡ b
        → AreItems names (histories_in names seen) cell shards shard src (entries_by me rest)
        → AreItems names (histories_in names seen) cell shards shard src
        (entries_by me (cond b (sent_kind src i ∷ rest) rest))
    go false e more = more
    go true e more = record {
      fit = (
        both-true (is_storable_kind (sent_kind src i)) (is_routed shards shard (sent_kind src i))
            a.0.storable e,
        more.fit,
      );
      sent = (sent_of src, more.sent);
      are = (
        moved names (histories_in names seen) (cell_of names dest 0) cell src i.version i.document
            a.0.delivery,
        more.are,
      );
    }

-- a shard's share of a batch may stand in its cell
pub share-fit : (names : List NameShards) (seen : List Log) (dest src : ByteList) (me shard : ℕ)
    (batch : List BatchItem) → MaySend names seen dest src batch → shard < shards_of names dest
    → IsFitCell names (cell_of names dest shard)
    (entries_by me (sent_share src batch (shards_of names dest) shard))
unfolding IsFitCell IsFit
share-fit names seen dest src me shard batch m lt =
    let n = shards_of names dest in
    let cell = cell_of names dest shard in
    subst (λ o. IsFitAt o (entries_by me (sent_share src batch n shard)))
    (sym (place-named names dest shard lt))
    (share-items names seen dest src me cell n shard batch m.items).fit

-- and may be delivered by what was seen
share-dispatch : (names : List NameShards) (seen : List Log) (dest src : ByteList) (me shard : ℕ)
    (batch : List BatchItem) → MaySend names seen dest src batch → shard < shards_of names dest
    → IsDispatch names (histories_in names seen) (cell_of names dest shard) src
    (entries_by me (sent_share src batch (shards_of names dest) shard))
unfolding AreSentsOf AreTrue
share-dispatch names seen dest src me shard batch m lt =
    let n = shards_of names dest in
    let cell = cell_of names dest shard in
    let items = share-items names seen dest src me cell n shard batch m.items in
    record {
      sent = items.sent;
      elsewhere = subst (λ o. IsElsewhere o src) (sym (place-named names dest shard lt))
          (λ e. m.elsewhere (sym e));
      true_sents = items.are;
    }

-- what was seen before a look begins what was seen after it
dispatch-after : (names : List NameShards) (seen later : List Log) (cell : ℕ) (src : ByteList)
    (step : List Entry) → AreSeenOf seen later
    → IsDispatch names (histories_in names seen) cell src step
    → IsDispatch names (histories_in names later) cell src step
dispatch-after names seen later cell src step w d = record {
  sent = d.sent;
  elsewhere = d.elsewhere;
  true_sents = true_up names (histories_in names seen) (histories_in names later)
      (seen-grows names seen later w) cell step d.true_sents;
}

-- a shard's share of a batch may be delivered after more was seen
pub may-deliver : (names : List NameShards) (me : ℕ) (seen later : List Log) (dest src : ByteList)
    (shard : ℕ) (batch : List BatchItem) (step : List Entry) → AreSeenOf seen later
    → MaySend names seen dest src batch → shard < shards_of names dest
    → cell_of names dest shard < cells_in names → cell_of names dest shard < length later
    → step ≡ entries_by me (sent_share src batch (shards_of names dest) shard) → 0 < length step
    → MayDeliver names me later (cell_of names dest shard) step
may-deliver names me seen later dest src shard batch step w m lt here within is filled =
    let cell = cell_of names dest shard in
    let share = sent_share src batch (shards_of names dest) shard in
    record {
      src = src;
      step_is = record {
        filled = filled;
        in_range = shard-below (cells_in names) later cell here within;
        fit = subst (IsFitCell names cell) (sym is)
            (share-fit names seen dest src me shard batch m lt);
        own = subst (AreBy me) (sym is) (entries_by_are me share);
      };
      dispatch = subst (IsDispatch names (histories_in names later) cell src) (sym is)
          (dispatch-after names seen later cell src (entries_by me share) w
          (share-dispatch names seen dest src me shard batch m lt));
    }

-- what was sent above a number was sent above a greater one
sent-above : (names : List NameShards) (hs : Histories) (b : Binding) (dest : ByteList)
    (h : History) (low more high : ℕ) → low ≤ more → AreSent names hs b dest h low high
    → AreSent names hs b dest h more high
unfolding AreSent
sent-above names hs b dest h low more high le a =
    each_weaker
    (λ (p : ℕ × Doc). takes b p.1 → low < p.0 → p.0 ≤ high → IsSent names hs b dest p)
    (λ p. takes b p.1 → more < p.0 → p.0 ≤ high → IsSent names hs b dest p)
    (λ p f t l u. f t (omega (arith, le, l)) u) (current h) a

-- a checkpoint that might be stored may be after the book has grown
store-after : (names : List NameShards) (shards : List History) (before more : Book)
    (key : TopicKey) (upto : List ℕ)
    → MayStore names (record { shards = shards; book = before }) key upto
    → MayStore names (record { shards = shards; book = before ++ more }) key upto
unfolding AreSent
store-after names shards before more key upto m = record {
  binding = m.binding;
  bound = binding-stays key m.binding before more m.bound;
  counted = m.counted;
  reached = m.reached;
  sent = λ dest to shard below.
      let up = checkpoint-append key before more shard in
      sent-above names (record { shards = shards; book = before ++ more }) m.binding dest
      (shard_history names (record { shards = shards; book = before }) m.binding.src shard)
      (checkpoint key before shard) (checkpoint key (before ++ more) shard)
      (slice_index upto shard) (omega (arith, up)) (m.sent dest to shard below);
}

-- the same after a look at the book's cell
pub store-looked : (names : List NameShards) (seen : List Log) (more : Log) (key : TopicKey)
    (upto : List ℕ) → cells_in names < length seen
    → MayStore names (histories_in names seen) key upto
    → MayStore names (histories_in names
    (set seen (cells_in names) (get_or seen (cells_in names) [] ++ more))) key upto
store-looked names seen more key upto lt m =
    let n = cells_in names in
    let hs = histories_in names seen in
    let v = get_or seen n [] ++ more in
    let same = shard-same n seen n v (omega arith) in
    let book : book_in (get_or (set seen n v) n []) ≡ hs.book ++ book_in more =
    ap book_in (get_or-set_same seen n v [] lt) ∙ book-append (get_or seen n []) more in
    let is : histories_in names (set seen n v)
    ≡ record { shards = hs.shards; book = hs.book ++ book_in more } =
    λ i. record { shards = same i; book = book i } in
    subst (λ h. MayStore names h key upto) (sym is)
    (store-after names hs.shards hs.book (book_in more) key upto m)
