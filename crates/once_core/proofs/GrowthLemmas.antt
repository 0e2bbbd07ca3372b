-- What stays as histories grow, from what an actor knows to all that is, and from one moment to
-- the next.
use Rattle.std.proofs.Common.{◌≡◌, ◌≢◌, ℕ, ◌+◌, ◌<◌, ◌≤◌, max, List, [], ◌∷◌, ◌++◌, Some, length, get_or, take, drop, slice_index, zero, suc, refl, sym, ap, subst, ◌∙◌, arith, inl, inr}
use Rattle.std.proofs.lemmas.List.{append-nil, get_or-set_same, get_or-set_other, take-append-drop}
use Rattle.std.proofs.lemmas.Bool.{cases_lt, cases_eq}
use Rattle.std.specs.List.{AllByRecursion}
use Rattle.tuple_values.specs.Document.{ByteList, Doc}
use Rattle.tuple_values.specs.declared.names.NameShards.{NameShards}
use Rattle.shard_versions.specs.declared.entry.Kind.{Kind}
use Rattle.shard_versions.specs.declared.entry.Kind.TheVariants.{Put, Del, Sent, Mark}
use Rattle.shard_versions.specs.declared.entry.Entry.{Entry}
use Rattle.shard_versions.specs.Documents.{id_of}
use Rattle.shard_versions.specs.Histories.{History, Slot, slots, write_at, top, current, IsVersioned}
use Rattle.shard_versions.specs.Deliveries.{sents, Reaches}
use Rattle.shard_versions.proofs.ListLemmas.{each_all, each_two, each_weaker}
use Rattle.shard_versions.proofs.VersionLemmas.{top-grows, write-stays, current-old}
use Rattle.shard_versions.proofs.DeliveryLemmas.{reaches-grows}
use Rattle.topic_book.specs.declared.topic.Binding.{Binding}
use Rattle.topic_book.specs.declared.topic.BookEntry.{BookEntry}
use Rattle.topic_book.specs.Fitness.{shards_of}
use Rattle.tuple_values.specs.Keys.{shard_of}
use Rattle.once_core.specs.declared.world.Histories.{Histories}
use Rattle.once_core.specs.declared.world.World.{World}
use Rattle.once_core.specs.declared.world.Known.{Known}
use Rattle.once_core.specs.Cells.{history_at, cell_of}
use Rattle.once_core.specs.Law.{takes, IsDelivery, IsTrueKind, AreTrue, IsSent, AreSent, IsCovered}
use Rattle.once_core.specs.Worlds.{grown, with_entry, seen_by, known_shards, known_upto}

-- each list of the one begins the other's, in which versions rise
pub record Grows (old new : Histories) : Type 0 where
  pub shards : (cell : ℕ) → (more : History) × (history_at new cell ≡ history_at old cell ++ more)
  pub versioned : (cell : ℕ) → IsVersioned (history_at new cell)
  pub book : (more : List BookEntry) × (new.book ≡ old.book ++ more)

module _ (names : List NameShards) (old new : Histories) (g : Grows old new) where
  -- versions rise in a cell's history as it grew
  pub versioned_up : (cell : ℕ) → IsVersioned (history_at old cell ++ (g.shards cell).0)
  versioned_up cell = subst IsVersioned (g.shards cell).1 (g.versioned cell)

  -- a cell's top doesn't fall
  pub top_up : (cell : ℕ) → top (history_at old cell) ≤ top (history_at new cell)
  top_up cell = rw (g.shards cell).1 (top-grows (history_at old cell) (g.shards cell).0 (versioned_up cell))

  -- what was sent to a cell was sent to it
  pub reaches_up : (v : ℕ) (src id : ByteList) (cell : ℕ)
      → Reaches v (sents src id (history_at old cell)) → Reaches v (sents src id (history_at new cell))
  reaches_up v src id cell r =
      subst (λ h. Reaches v (sents src id h)) (sym (g.shards cell).1)
      (reaches-grows v src id (history_at old cell) (g.shards cell).0 r)

  -- a write stays
  pub write_up : (cell v : ℕ) (s : Slot)
      → write_at v (slots (history_at old cell)) ≡ Some s → write_at v (slots (history_at new cell)) ≡ Some s
  write_up cell v s w =
      subst (λ h. write_at v (slots h) ≡ Some s) (sym (g.shards cell).1)
      (write-stays v s (history_at old cell) (g.shards cell).0 w)

  -- what is current now, in a version up to the old top, was current then
  pub current_down : (P : ℕ × Doc → Type 0) (cell : ℕ) → AllByRecursion P (current (history_at old cell))
      → AllByRecursion (λ p. p.0 ≤ top (history_at old cell) → P p) (current (history_at new cell))
  current_down P cell a =
      subst (λ h. AllByRecursion (λ p. p.0 ≤ top (history_at old cell) → P p) (current h)) (sym (g.shards cell).1)
      (current-old P (history_at old cell) (g.shards cell).0 (versioned_up cell) a)

  -- the cell of the collection's shard to which the id routes
  abbrev home : ByteList → ByteList → ℕ
  home collection id = cell_of names collection (shard_of (shards_of names collection) id)

  -- a delivery stays one
  pub delivery_up : (cell : ℕ) (src : ByteList) (v : ℕ) (doc : Doc)
      → IsDelivery names old cell src v doc → IsDelivery names new cell src v doc
  delivery_up cell src v doc d = record {
    doc = d.doc;
    reached = let up = top_up (home src (id_of doc)) in omega (arith, up, d.reached);
    written = write_up (home src (id_of doc)) v
        (record { version = v; id = id_of doc; left = Some d.doc }) d.written;
    is_from = d.is_from;
  }

  -- so does an entry that is one where it is a Sent
  pub true_kind_up : (cell : ℕ) (k : Kind) → IsTrueKind names old cell k → IsTrueKind names new cell k
  true_kind_up cell (Put doc) t = tt
  true_kind_up cell (Del id) t = tt
  true_kind_up cell (Sent src v doc) t = delivery_up cell src v doc t
  true_kind_up cell Mark t = tt

  -- and each of some entries
  pub true_up : (cell : ℕ) (es : List Entry) → AreTrue names old cell es → AreTrue names new cell es
  unfolding AreTrue
  true_up cell es t =
      each_weaker (λ e. IsTrueKind names old cell e.kind) (λ e. IsTrueKind names new cell e.kind)
      (λ e h. true_kind_up cell e.kind h) es t

  -- what was sent is sent still
  pub sent_still : (b : Binding) (dest : ByteList) (h : History) (low high : ℕ)
      → AreSent names old b dest h low high → AreSent names new b dest h low high
  unfolding AreSent
  sent_still b dest h low high a =
      let Q : Histories → ℕ × Doc → Type 0 =
      λ hs p. takes b p.1 → low < p.0 → p.0 ≤ high → IsSent names hs b dest p in
      each_weaker (Q old) (Q new)
      (λ p f t l u. reaches_up p.0 b.src (id_of p.1) (home dest (id_of p.1)) (f t l u)) (current h) a

  -- what was sent of a history, up to no more than its top, is sent of what it grows into
  pub sent_up : (b : Binding) (dest : ByteList) (cell low high : ℕ) → high ≤ max (top (history_at old cell)) low
      → AreSent names old b dest (history_at old cell) low high → AreSent names new b dest (history_at new cell) low high
  unfolding AreSent
  sent_up b dest cell low high le a =
      let Q : Histories → ℕ × Doc → Type 0 =
      λ hs p. takes b p.1 → low < p.0 → p.0 ≤ high → IsSent names hs b dest p in
      each_weaker (λ (p : ℕ × Doc). p.0 ≤ top (history_at old cell) → Q old p) (Q new)
      (λ p f t l u. reaches_up p.0 b.src (id_of p.1) (home dest (id_of p.1)) (f (omega (arith, le, l, u)) t l u))
      (current (history_at new cell))
      (current_down (Q old) cell a)

  -- a checkpoint that was right is right still
  pub covered_up : (b : Binding) (shard cell upto : ℕ)
      → IsCovered names old b shard (history_at old cell) upto → IsCovered names new b shard (history_at new cell) upto
  covered_up b shard cell upto c = record {
    bounded = let up = top_up cell in omega (arith, up, c.bounded);
    sent = λ dest e. sent_up b dest cell (slice_index b.init shard) upto c.bounded (c.sent dest e);
  }

  -- and so it is at the history that was seen
  pub covered_still : (b : Binding) (shard : ℕ) (h : History) (upto : ℕ)
      → IsCovered names old b shard h upto → IsCovered names new b shard h upto
  covered_still b shard h upto c = record {
    bounded = c.bounded;
    sent = λ dest e. sent_still b dest h (slice_index b.init shard) upto (c.sent dest e);
  }

module _ (names : List NameShards) (hs : Histories) (b : Binding) (dest : ByteList) (h : History) where
  -- what is to be sent of a document above `low` and at most `high`
  abbrev Wanted : ℕ → ℕ → ℕ × Doc → Type 0
  Wanted low high p = takes b p.1 → low < p.0 → p.0 ≤ high → IsSent names hs b dest p

  -- two ranges that meet
  pub sent_join : (low mid high high' : ℕ) → mid ≤ high → AreSent names hs b dest h low high
      → AreSent names hs b dest h mid high' → AreSent names hs b dest h low (max high high')
  unfolding AreSent
  sent_join low mid high high' le a c =
      each_two (Wanted low high) (Wanted mid high') (Wanted low (max high high'))
      (λ p f k t l u. elim (cases_lt high p.0) [ inl n ↦ k t (omega arith) (omega arith) | inr n ↦ f t l n ])
      (current h) a c

  -- a range within another
  pub sent_within : (low high less : ℕ) → less ≤ high
      → AreSent names hs b dest h low high → AreSent names hs b dest h low less
  unfolding AreSent
  sent_within low high less le a =
      each_weaker (Wanted low high) (Wanted low less) (λ p f t l u. f t l (omega arith)) (current h) a

  -- nothing lies between a number and itself
  pub sent_none : (low high : ℕ) → high ≤ low → AreSent names hs b dest h low high
  unfolding AreSent
  sent_none low high le = each_all (Wanted low high) (λ p t l u. absurd (omega arith)) (current h)

-- a cell grows by the entries
pub grown_here : (hs : Histories) (cell : ℕ) (es : List Entry) → cell < length hs.shards
    → history_at (grown hs cell es) cell ≡ history_at hs cell ++ es
unfolding grown
grown_here hs cell es h = get_or-set_same hs.shards cell (history_at hs cell ++ es) [] h

-- and the others stay
pub grown_other : (hs : Histories) (cell : ℕ) (es : List Entry) (other : ℕ) → other ≢ cell
    → history_at (grown hs cell es) other ≡ history_at hs other
unfolding grown
grown_other hs cell es other h = get_or-set_other hs.shards cell other (history_at hs cell ++ es) [] h

-- histories grow as one of them does
pub grown_grows : (hs : Histories) (cell : ℕ) (es : List Entry) → cell < length hs.shards
    → ((other : ℕ) → IsVersioned (history_at (grown hs cell es) other)) → Grows hs (grown hs cell es)
unfolding grown
grown_grows hs cell es h versioned = record {
  shards = λ other. elim (cases_eq other cell) [
    | inl e ↦ (es, rw e (grown_here hs cell es h))
    | inr n ↦ ([], grown_other hs cell es other n ∙ sym (append-nil (history_at hs other)))
  ];
  versioned = versioned;
  book = ([], sym (append-nil hs.book));
}

-- and as the book does
pub with_entry_grows : (hs : Histories) (e : BookEntry)
    → ((cell : ℕ) → IsVersioned (history_at hs cell)) → Grows hs (with_entry hs e)
with_entry_grows hs e versioned = record {
  shards = λ cell. ([], sym (append-nil (history_at hs cell)));
  versioned = versioned;
  book = (e ∷ [], refl);
}

-- what an actor knows of a cell is its first entries
pub seen_at : (actor : ℕ) (known : List Known) (first : ℕ) (hs : List History) (cell : ℕ)
    → (n : ℕ) × (get_or (known_shards actor known first hs) cell [] ≡ take n (get_or hs cell []))
seen_at actor known first [] cell = (0, refl)
seen_at actor known first (h ∷ hs) zero = (known_upto actor first known, refl)
seen_at actor known first (h ∷ hs) (suc cell) = seen_at actor known (first + 1) hs cell

-- what an actor knows grows into what is
pub seen_grows : (actor : ℕ) (w : World) → ((cell : ℕ) → IsVersioned (history_at w.histories cell))
    → Grows (seen_by actor w) w.histories
unfolding seen_by
seen_grows actor w versioned = record {
  shards = λ cell.
      let s = seen_at actor w.known 0 w.histories.shards cell in
      let h = history_at w.histories cell in
      (drop s.0 h, sym (ap (λ front. front ++ drop s.0 h) s.1 ∙ take-append-drop s.0 h));
  versioned = versioned;
  book = let n = known_upto actor (length w.histories.shards) w.known in
      (drop n w.histories.book, sym (take-append-drop n w.histories.book));
}
