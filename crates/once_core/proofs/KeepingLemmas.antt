-- Each allowed event keeps the law.
use Rattle.std.proofs.Common.{◌≡◌, ℕ, ◌<◌, ◌≤◌, max, Bool, true, false, cond, List, [], ◌∷◌, ◌++◌, Option, Some, None, length, get_or, slice_index, replicate, zero, suc, refl, sym, ap, subst, ◌∙◌, arith, inl, inr}
use Rattle.std.proofs.lemmas.Bool.{cases_eq}
use Rattle.std.specs.List.{AllByRecursion}
use Rattle.tuple_values.specs.declared.names.NameShards.{NameShards}
use Rattle.shard_versions.specs.declared.entry.Kind.{Kind}
use Rattle.shard_versions.specs.declared.entry.Kind.TheVariants.{Put, Del, Sent, Mark}
use Rattle.shard_versions.specs.declared.entry.Entry.{Entry}
use Rattle.shard_versions.specs.Histories.{History, top, IsVersioned}
use Rattle.shard_versions.specs.Deliveries.{sents, IsRising, AreRising, admitted, marked, AreSentsSettled, is_plain, ArePlain}
use Rattle.shard_versions.specs.Fitness.{IsFit, is_fit}
use Rattle.shard_versions.proofs.ListLemmas.{each_append, each_weaker}
use Rattle.shard_versions.proofs.VersionLemmas.{versioned}
use Rattle.shard_versions.proofs.DeliveryLemmas.{rising-silent, rising-admitted, rising-marked, admitted-each, marked-each, settled-append, settled-marked, settled-plain, sents-plain}
use Rattle.topic_book.specs.declared.topic.TopicKey.{TopicKey}
use Rattle.topic_book.specs.declared.topic.Binding.{Binding}
use Rattle.topic_book.specs.declared.topic.BookEntry.{BookEntry}
use Rattle.topic_book.specs.declared.topic.BookEntry.TheVariants as book
use Rattle.topic_book.specs.Books.{Book, same_key, binding_of, checkpoint, raises}
use Rattle.topic_book.specs.Fitness.{IsOfTopic, IsOrdered, IsFitEntry, shards_of}
use Rattle.topic_book.proofs.BookLemmas.{same_key-is, binding-stays, binding-new, binding-skip, checkpoint-append, checkpoint-unbound, ordered-push}
use Rattle.once_core.specs.declared.world.Histories.{Histories}
use Rattle.once_core.specs.declared.world.World.{World}
use Rattle.once_core.specs.declared.event.Event.{Event}
use Rattle.once_core.specs.declared.event.Event.TheVariants.{Write, Look, Send, Bind, Store, Forget}
use Rattle.once_core.specs.Cells.{Place, place_of, cell_of, cells_in, history_at, shard_history}
use Rattle.once_core.specs.Law.{IsFitAt, IsFitCell, IsReadableEntry, IsTrueKind, AreTrue, AreSent, IsCovered, IsLaw}
use Rattle.once_core.specs.Allowed.{MayJoin, MayStore, IsAllowed}
use Rattle.once_core.specs.Worlds.{AreAllowed, grown, with_entry, after_event, next, run, seen_by, actor_of, nothing_yet}
use Rattle.once_core.proofs.GrowthLemmas.{Grows, top_up, true_up, sent_up, sent_join, sent_none, covered_up, covered_still, grown_here, grown_other, grown_grows, with_entry_grows, seen_grows}

-- what may stand at a place may stand there together
pub fit_append : (place : Option Place) (xs ys : List Entry) → IsFitAt place xs → IsFitAt place ys → IsFitAt place (xs ++ ys)
unfolding IsFit
fit_append None xs ys a b = ap (λ l. l ++ ys) a ∙ b
fit_append (Some p) xs ys a b = each_append (λ e. is_fit p.shards p.shard e.kind ≡ true) xs ys a b

-- what is admitted of a step that may stand at a place may, with a Mark
fit_marked : (place : Option Place) (actor : ℕ) (h step : List Entry) → IsFitAt place step → IsFitAt place (marked actor (admitted h step))
unfolding IsFit admitted
fit_marked None actor h step a = ap (λ l. marked actor (admitted h l)) a
fit_marked (Some p) actor h step a =
    let P : Entry → Type 0 = λ e. is_fit p.shards p.shard e.kind ≡ true in
    marked-each P actor (admitted h step) refl (admitted-each P h step a)

module _ (hs : Histories) (cell : ℕ) (es : List Entry) (lt : cell < length hs.shards) where
  -- what holds of the grown cell and of each other one holds of each
  grown_each : (P : ℕ → History → Type 0) → P cell (history_at hs cell ++ es) → ((c : ℕ) → P c (history_at hs c))
      → (c : ℕ) → P c (history_at (grown hs cell es) c)
  grown_each P here others c =
      elim (cases_eq c cell) [
        | inl e ↦ subst (λ d. P d (history_at (grown hs cell es) d)) (sym e)
            (subst (P cell) (sym (grown_here hs cell es lt)) here)
        | inr n ↦ subst (P c) (sym (grown_other hs cell es c n)) (others c)
      ]

-- a cell that grows by what the law lets in
pub law_grown : (names : List NameShards) (hs : Histories) (cell : ℕ) (es : List Entry) → cell < length hs.shards
    → IsLaw names hs → IsFitCell names cell es → IsVersioned (history_at hs cell ++ es) → AreSentsSettled es
    → AreRising (history_at hs cell ++ es) → AreTrue names hs cell es → IsLaw names (grown hs cell es)
unfolding grown IsFitCell AreTrue
law_grown names hs cell es lt law fit versions settled rising true_es =
    let new : Histories = grown hs cell es in
    let rise : (c : ℕ) → IsVersioned (history_at new c) =
    grown_each hs cell es lt (λ c h. IsVersioned h) versions law.versioned in
    let g : Grows hs new = grown_grows hs cell es lt rise in
    record {
      fit = grown_each hs cell es lt (λ c h. IsFitCell names c h)
          (fit_append (place_of names cell) (history_at hs cell) es (law.fit cell) fit) law.fit;
      versioned = rise;
      fit_book = law.fit_book;
      readable = law.readable;
      settled = grown_each hs cell es lt (λ c h. AreSentsSettled h)
          (settled-append (history_at hs cell) es (law.settled cell) settled) law.settled;
      true_sents = grown_each hs cell es lt (λ c h. AreTrue names new c h)
          (each_append (λ e. IsTrueKind names new cell e.kind) (history_at hs cell) es
          (true_up names hs new g cell (history_at hs cell) (law.true_sents cell)) (true_up names hs new g cell es true_es))
          (λ c. true_up names hs new g c (history_at hs c) (law.true_sents c));
      rising = λ c src id. grown_each hs cell es lt (λ c h. AreRising h) rising law.rising c src id;
      covered = λ key b bound shard below.
          covered_up names hs new g b shard (cell_of names b.src shard) (checkpoint key hs.book shard)
          (law.covered key b bound shard below);
    }

-- the topic's checkpoint at a shard is right once the book has the entry too
abbrev Covers : List NameShards → Histories → BookEntry → TopicKey → Binding → ℕ → Type 0
Covers names hs e key b shard =
    binding_of key (hs.book ++ e ∷ []) ≡ Some b → shard < shards_of names b.src
    → IsCovered names hs b shard (shard_history names hs b.src shard) (checkpoint key (hs.book ++ e ∷ []) shard)

-- an entry that may join the book keeps the law where each topic's checkpoints stay right
pub law_with_entry : (names : List NameShards) (hs : Histories) (e : BookEntry) → IsLaw names hs
    → MayJoin names hs.book e
    → ((key : TopicKey) (b : Binding) (shard : ℕ) → Covers names hs e key b shard)
    → IsLaw names (with_entry hs e)
law_with_entry names hs e law may covers =
    let g : Grows hs (with_entry hs e) = with_entry_grows hs e law.versioned in
    record {
      fit = law.fit;
      versioned = law.versioned;
      fit_book = record {
        ordered = ordered-push [] hs.book e law.fit_book.ordered may.follows;
        fit = each_append (IsFitEntry names) hs.book (e ∷ []) law.fit_book.fit (may.fit, tt);
      };
      readable = each_append IsReadableEntry hs.book (e ∷ []) law.readable (may.readable, tt);
      settled = law.settled;
      true_sents = λ c. true_up names hs (with_entry hs e) g c (history_at hs c) (law.true_sents c);
      rising = law.rising;
      covered = λ key b bound shard below.
          covered_still names hs (with_entry hs e) g b shard (shard_history names hs b.src shard)
          (checkpoint key (hs.book ++ e ∷ []) shard) (covers key b shard bound below);
    }

-- a topic that the entry doesn't touch keeps its checkpoints
covers_besides : (names : List NameShards) (hs : Histories) (e : BookEntry) (key : TopicKey) (b : Binding) (shard : ℕ)
    → IsLaw names hs → binding_of key (e ∷ []) ≡ None → checkpoint key (e ∷ []) shard ≡ 0 → Covers names hs e key b shard
covers_besides names hs e key b shard law none zero_here bound below =
    let same : checkpoint key (hs.book ++ e ∷ []) shard ≡ checkpoint key hs.book shard =
    omega (arith, checkpoint-append key hs.book (e ∷ []) shard, zero_here) in
    subst (IsCovered names hs b shard (shard_history names hs b.src shard)) (sym same)
    (law.covered key b (sym (binding-skip key hs.book e none) ∙ bound) shard below)

-- the topic that is bound has nothing to deliver yet
covers_bound : (names : List NameShards) (hs : Histories) (actor : ℕ) (key : TopicKey) (b : Binding) → IsLaw names hs
    → binding_of key hs.book ≡ None → same_key key key ≡ true
    → (c : Binding) (shard : ℕ) → Covers names hs (book.Bind actor key b) key c shard
unfolding binding_of checkpoint
covers_bound names hs actor key b law none same c shard bound below =
    let e : BookEntry = book.Bind actor key b in
    let one : binding_of key (e ∷ []) ≡ Some b = rw same refl in
    let is_b : c ≡ b =
    let all : Some c ≡ Some b = sym bound ∙ (binding-new key hs.book (e ∷ []) none ∙ one) in cc in
    let first : checkpoint key hs.book shard ≡ 0 = checkpoint-unbound key [] hs.book shard law.fit_book.ordered none in
    let last : checkpoint key (e ∷ []) shard ≡ max (slice_index b.init shard) 0 = rw same refl in
    let inits : slice_index c.init shard ≡ slice_index b.init shard = ap (λ (d : Binding). slice_index d.init shard) is_b in
    let low : checkpoint key (hs.book ++ e ∷ []) shard ≤ slice_index c.init shard =
    omega (arith, checkpoint-append key hs.book (e ∷ []) shard, first, last, inits) in
    record {
      bounded = omega (arith, low);
      sent = λ dest d.
          sent_none names hs c dest (shard_history names hs c.src shard) (slice_index c.init shard)
          (checkpoint key (hs.book ++ e ∷ []) shard) low;
    }

-- a Bind that may join the book keeps the law
pub law_bind : (names : List NameShards) (hs : Histories) (actor : ℕ) (k : TopicKey) (b : Binding) → IsLaw names hs
    → MayJoin names hs.book (book.Bind actor k b)
    → IsLaw names (with_entry hs (book.Bind actor k b))
unfolding binding_of checkpoint
law_bind names hs actor k b law may =
    law_with_entry names hs (book.Bind actor k b) law may
    (λ key c shard. go key c shard (same_key key k) refl)
  where
    go : (key : TopicKey) (c : Binding) (shard : ℕ) (t : Bool) → same_key key k ≡ t → Covers names hs (book.Bind actor k b) key c shard
    go key c shard true e bound below =
        let same : key ≡ k = same_key-is key k e in
        subst (λ (j : TopicKey). Covers names hs (book.Bind actor k b) j c shard) (sym same)
        (covers_bound names hs actor k b law may.follows (subst (λ (j : TopicKey). same_key j k ≡ true) same e) c shard) bound below
    go key c shard false e bound below =
        covers_besides names hs (book.Bind actor k b) key c shard law (rw e refl) (rw e refl) bound below

-- what is bound in a book that was seen is bound in what it grew into
bound_still : (seen hs : Histories) (k : TopicKey) (b : Binding) → Grows seen hs
    → binding_of k seen.book ≡ Some b → binding_of k hs.book ≡ Some b
bound_still seen hs k b g bound =
    subst (λ book. binding_of k book ≡ Some b) (sym g.book.1) (binding-stays k b seen.book g.book.0 bound)

-- the topic whose checkpoints are stored was delivered up to there
covers_stored : (names : List NameShards) (seen hs : Histories) (actor : ℕ) (k : TopicKey) (u : List ℕ) → Grows seen hs
    → IsLaw names hs → (m : MayStore names seen k u) → same_key k k ≡ true
    → (c : Binding) (shard : ℕ) → Covers names hs (book.Store actor k u) k c shard
unfolding binding_of checkpoint
covers_stored names seen hs actor k u g law m same c shard bound below =
    let e : BookEntry = book.Store actor k u in
    let cell : ℕ = cell_of names c.src shard in
    let bound' : binding_of k hs.book ≡ Some c = sym (binding-skip k hs.book e refl) ∙ bound in
    let is_c : m.binding ≡ c =
    let all : Some m.binding ≡ Some c = sym (bound_still seen hs k m.binding g m.bound) ∙ bound' in cc in
    let old : IsCovered names hs c shard (history_at hs cell) (checkpoint k hs.book shard) = law.covered k c bound' shard below in
    let last : checkpoint k (e ∷ []) shard ≡ max (slice_index u shard) 0 = rw same refl in
    let whole : checkpoint k (hs.book ++ e ∷ []) shard ≡ max (checkpoint k hs.book shard) (slice_index u shard) =
    omega (arith, checkpoint-append k hs.book (e ∷ []) shard, last) in
    let fewer : checkpoint k seen.book shard ≤ checkpoint k hs.book shard =
    omega (arith, ap (λ b. checkpoint k b shard) g.book.1 ∙ checkpoint-append k seen.book g.book.0 shard) in
    let high : slice_index u shard ≤ top (history_at seen cell) =
    subst (λ (b : Binding). shard < shards_of names b.src → slice_index u shard ≤ top (shard_history names seen b.src shard))
    is_c (m.reached shard) below in
    let up = top_up names seen hs g cell in
    record {
      bounded = omega (arith, whole, old.bounded, high, up);
      sent = λ dest d.
          let later : AreSent names seen c dest (history_at seen cell) (checkpoint k seen.book shard) (slice_index u shard) =
          subst (λ (b : Binding). b.dest ≡ Some dest → shard < shards_of names b.src
          → AreSent names seen b dest (shard_history names seen b.src shard) (checkpoint k seen.book shard) (slice_index u shard))
          is_c (λ f l. m.sent dest f shard l) d below in
          let later' = sent_up names seen hs g c dest cell (checkpoint k seen.book shard) (slice_index u shard) (omega (arith, high)) later in
          rw whole (sent_join names hs c dest (history_at hs cell) (slice_index c.init shard) (checkpoint k seen.book shard)
          (checkpoint k hs.book shard) (slice_index u shard) fewer (old.sent dest d) later');
    }

-- a topic's binding has as many initial numbers as its source has shards
pub counted_init : (names : List NameShards) (before : Book) (k : TopicKey) (b : Binding) → AllByRecursion (IsFitEntry names) before
    → binding_of k before ≡ Some b → length b.init ≡ shards_of names b.src
unfolding binding_of
counted_init names [] k b fit bound = absurd (cc)
counted_init names (book.Bind by key c ∷ before) k b fit bound = go (same_key k key) bound (counted_init names before k b fit.1)
  where
    go : (t : Bool) → cond t (Some c) (binding_of k before) ≡ Some b
        → (binding_of k before ≡ Some b → length b.init ≡ shards_of names b.src) → length b.init ≡ shards_of names b.src
    go true e more = let same : c ≡ b = cc in subst (λ (d : Binding). length d.init ≡ shards_of names d.src) same fit.0.counted
    go false e more = more e
counted_init names (book.Store by key u ∷ before) k b fit bound = counted_init names before k b fit.1 bound

-- a checkpoint that may be stored may join the book
store_joins : (names : List NameShards) (seen hs : Histories) (actor : ℕ) (k : TopicKey) (u : List ℕ) → Grows seen hs
    → IsLaw names hs → MayStore names seen k u → MayJoin names hs.book (book.Store actor k u)
store_joins names seen hs actor k u g law m =
    let bound = bound_still seen hs k m.binding g m.bound in
    record {
      follows = subst (λ o. IsOfTopic o u) (sym bound)
          (m.counted ∙ sym (counted_init names hs.book k m.binding law.fit_book.fit bound));
      fit = tt;
      readable = tt;
    }

-- a Store that is allowed keeps the law
pub law_store : (names : List NameShards) (seen hs : Histories) (actor : ℕ) (k : TopicKey) (u : List ℕ) → Grows seen hs
    → IsLaw names hs → MayStore names seen k u → IsLaw names (with_entry hs (book.Store actor k u))
unfolding binding_of checkpoint
law_store names seen hs actor k u g law m =
    law_with_entry names hs (book.Store actor k u) law (store_joins names seen hs actor k u g law m)
    (λ key c shard. go key c shard (same_key key k) refl)
  where
    go : (key : TopicKey) (c : Binding) (shard : ℕ) (t : Bool) → same_key key k ≡ t → Covers names hs (book.Store actor k u) key c shard
    go key c shard true e bound below =
        let same : key ≡ k = same_key-is key k e in
        subst (λ (j : TopicKey). Covers names hs (book.Store actor k u) j c shard) (sym same)
        (covers_stored names seen hs actor k u g law m (subst (λ (j : TopicKey). same_key j k ≡ true) same e) c shard) bound below
    go key c shard false e bound below =
        covers_besides names hs (book.Store actor k u) key c shard law refl (rw e refl) bound below

-- an entry that delivers nothing is no untrue delivery
plain_true : (names : List NameShards) (hs : Histories) (cell : ℕ) (k : Kind) → is_plain k ≡ true → IsTrueKind names hs cell k
plain_true names hs cell (Put doc) p = tt
plain_true names hs cell (Del id) p = tt
plain_true names hs cell (Sent src v doc) p = absurd (cc)
plain_true names hs cell Mark p = tt

-- an event that is allowed over what its actor has seen keeps the law
pub law_event : (names : List NameShards) (seen hs : Histories) (e : Event) → Grows seen hs → IsLaw names hs
    → IsAllowed names seen hs e → IsLaw names (after_event hs e)
unfolding IsFitCell AreTrue ArePlain
law_event names seen hs (Write actor cell step) g law a =
    law_grown names hs cell step a.0.in_range law a.0.fit (versioned (history_at hs cell ++ step)) (settled-plain step a.1)
    (rising-silent (history_at hs cell) step (sents-plain step a.1) (law.rising cell))
    (each_weaker (λ (e : Entry). is_plain e.kind ≡ true) (λ e. IsTrueKind names hs cell e.kind)
    (λ e p. plain_true names hs cell e.kind p) step a.1)
law_event names seen hs (Look actor cell) g law a = law
law_event names seen hs (Send actor cell src step) g law a =
    let h = history_at hs cell in
    let kept = admitted h step in
    let P : Entry → Type 0 = λ e. IsTrueKind names hs cell e.kind in
    law_grown names hs cell (marked actor kept) a.0.in_range law (fit_marked (place_of names cell) actor h step a.0.fit)
    (versioned (h ++ marked actor kept)) (settled-marked actor kept)
    (rising-marked actor h kept (rising-admitted h step (law.rising cell)))
    (marked-each P actor kept tt (admitted-each P h step (true_up names seen hs g cell step a.1.true_sents)))
law_event names seen hs (Bind actor k b) g law a = law_bind names hs actor k b law a
law_event names seen hs (Store actor k u) g law a = go (raises k hs.book u)
  where
    go : (t : Bool) → IsLaw names (cond t (with_entry hs (book.Store actor k u)) hs)
    go true = law_store names seen hs actor k u g law a
    go false = law
law_event names seen hs (Forget actor) g law a = law

-- nothing stands in a cell at the start
empty_at : (n cell : ℕ) → get_or {A = History} (replicate n []) cell [] ≡ []
empty_at zero cell = refl
empty_at (suc n) zero = refl
empty_at (suc n) (suc cell) = empty_at n cell

-- nothing may stand anywhere
fit_nothing : (place : Option Place) → IsFitAt place []
unfolding IsFit
fit_nothing None = refl
fit_nothing (Some p) = tt

-- the law holds at the start
pub law_nothing : (names : List NameShards) → IsLaw names (nothing_yet names).histories
unfolding IsFitCell AreSentsSettled AreTrue sents IsOrdered binding_of
law_nothing names =
    let hs : Histories = (nothing_yet names).histories in
    let none : (cell : ℕ) → [] ≡ history_at hs cell = λ cell. sym (empty_at (cells_in names) cell) in
    record {
      fit = λ cell. subst (λ h. IsFitCell names cell h) (none cell) (fit_nothing (place_of names cell));
      versioned = λ cell. versioned (history_at hs cell);
      fit_book = record { ordered = tt; fit = tt };
      readable = tt;
      settled = λ cell. subst AreSentsSettled (none cell) tt;
      true_sents = λ cell. subst (AreTrue names hs cell) (none cell) tt;
      rising = λ cell src id. subst (λ h. IsRising (sents src id h)) (none cell) tt;
      covered = λ key b bound shard below. absurd (cc);
    }

-- and after every list of allowed events
pub law_run : (names : List NameShards) (events : List Event) (w : World) → IsLaw names w.histories
    → AreAllowed names events w → IsLaw names (run events w).histories
law_run names [] w law a = law
law_run names (e ∷ events) w law a =
    law_run names events (next w e)
    (law_event names (seen_by (actor_of e) w) w.histories e (seen_grows (actor_of e) w law.versioned) law a.0) a.1
