-- Over histories that keep the law a topic's destination has each current document of its source,
-- in its version, once.
use Rattle.std.proofs.Common.{◌≡◌, ℕ, ◌+◌, ◌<◌, ◌≤◌, ◌≢◌, ◌||◌, ◌&&◌, Bool, true, false, cond, List, [], ◌∷◌, ◌++◌, Some, slice_index, refl, sym, ap, subst, ◌∙◌, arith, bytes_eq, inl, inr, Contains}
use Rattle.std.proofs.lemmas.Slice.Eq.{bytes_eq-Decides}
use Rattle.std.proofs.lemmas.List.Elements.{Contains-append_right}
use Rattle.std.specs.List.{AllByRecursion}
use Rattle.tuple_values.specs.Document.{ByteList, Doc}
use Rattle.tuple_values.specs.Keys.{shard_of}
use Rattle.tuple_values.specs.declared.names.NameShards.{NameShards}
use Rattle.shard_versions.specs.Documents.{id_of, with_version, IsFrom}
use Rattle.shard_versions.specs.declared.entry.Kind.{Kind}
use Rattle.shard_versions.specs.declared.entry.Kind.TheVariants.{Put, Del, Sent, Mark}
use Rattle.shard_versions.specs.declared.entry.Entry.{Entry}
use Rattle.shard_versions.specs.Histories.{History, Slot, slots, slots_after, slot_of, version_after, write_at, is_mark, has_mark, settled, committed, last_version, top, writes_id, latest, current}
use Rattle.shard_versions.specs.Deliveries.{sents, sent_version, IsRising, Reaches, AreSentsSettled}
use Rattle.shard_versions.specs.Fitness.{IsFit}
use Rattle.shard_versions.proofs.ListLemmas.{each_left, each_right}
use Rattle.shard_versions.proofs.VersionLemmas.{slots_after-append, settled-begins}
use Rattle.shard_versions.proofs.DeliveryLemmas.{sents-append}
use Rattle.topic_book.specs.Books.{Book, same_key, binding_of, checkpoint}
use Rattle.topic_book.specs.Fitness.{shards_of, IsFitEntry, IsFitDestination}
use Rattle.topic_book.specs.declared.topic.BookEntry.TheVariants as book
use Rattle.topic_book.specs.declared.topic.TopicKey.{TopicKey}
use Rattle.topic_book.specs.declared.topic.Binding.{Binding}
use Rattle.once_core.specs.declared.world.Histories.{Histories}
use Rattle.once_core.specs.Cells.{history_at, cell_of, shard_history, home_history}
use Rattle.once_core.specs.Law.{takes, IsFitAt, IsFitCell, IsDelivery, IsTrueKind, AreTrue, IsSent, AreSent, IsLaw}
use Rattle.once_core.specs.Delivered.{is_only_from, IsOnlyFrom, IsApplied, NoneIsLost, IsDelivered}
use Rattle.once_core.proofs.PlaceLemmas.{place-cell, sents-elsewhere, current-here}
use Rattle.once_core.proofs.CurrentLemmas.{IsLast, id_with_version, write-committed, current-last, latest-contains}

-- the last of some numbers
pub record Last (v : ℕ) (vs : List ℕ) : Type 0 where
  pub front : List ℕ
  pub last : ℕ
  pub is : vs ≡ front ++ last ∷ []
  pub reached : v ≤ last

-- the last of rising numbers reaches what one of them reaches
last_reaches : (v : ℕ) (vs : List ℕ) → IsRising vs → Reaches v vs → Last v vs
last_reaches v [] r h = absurd h
last_reaches v (w ∷ []) r h = record {
  front = [];
  last = w;
  is = refl;
  reached = elim h [ inl le ↦ le | inr none ↦ absurd none ];
}
last_reaches v (w ∷ x ∷ vs) r h =
    let below : v ≤ w → Reaches v (x ∷ vs) = λ le. inl (omega (arith, le, r.0.0)) in
    let more = last_reaches v (x ∷ vs) r.1 (elim h [ inl le ↦ below le | inr later ↦ later ]) in
    record { front = w ∷ more.front; last = more.last; is = ap (λ l. w ∷ l) more.is; reached = more.reached }

-- the last delivery of an id from a source
pub record LastSent (src id : ByteList) (w : ℕ) (h : History) : Type 0 where
  pub before : History
  pub by : ℕ
  pub doc : Doc
  pub after : History
  pub is : h ≡ before ++ record { by = by; kind = Sent src w doc } ∷ after
  pub same_id : id_of doc ≡ id
  pub none_after : sents src id after ≡ []

-- an entry that delivers a version is that delivery
sent_kind : (src id : ByteList) (w : ℕ) (k : Kind) → sent_version src id k ≡ w ∷ []
    → (doc : Doc) × (k ≡ Sent src w doc) × (id_of doc ≡ id)
sent_kind src id w (Put doc) e = absurd (cc)
sent_kind src id w (Del i) e = absurd (cc)
sent_kind src id w Mark e = absurd (cc)
sent_kind src id w (Sent from v doc) e = go (bytes_eq src from) refl (bytes_eq id (id_of doc)) refl e
  where
    go : (b : Bool) → bytes_eq src from ≡ b → (c : Bool) → bytes_eq id (id_of doc) ≡ c → cond (b && c) (v ∷ []) [] ≡ w ∷ []
        → (d : Doc) × (Sent from v doc ≡ Sent src w d) × (id_of d ≡ id)
    go true p true q f =
        let from_src : src ≡ from = (bytes_eq-Decides src from).0 p in
        let version : v ≡ w = cc in
        (doc, ap (λ s. Sent s v doc) (sym from_src) ∙ ap (λ n. Sent src n doc) version, sym ((bytes_eq-Decides id (id_of doc)).0 q))
    go true p false q f = absurd (cc)
    go false p c q f = absurd (cc)

-- a list with an item at its end isn't empty
not_empty : (front : List ℕ) (w : ℕ) → [] ≡ front ++ w ∷ [] → ⊥
not_empty [] w e = cc
not_empty (x ∷ front) w e = cc

-- the last version that is delivered is that of the last delivery
last_sent : (src id : ByteList) (w : ℕ) (front : List ℕ) (h : History) → sents src id h ≡ front ++ w ∷ [] → LastSent src id w h
unfolding sents
last_sent src id w front [] e = absurd (not_empty front w e)
last_sent src id w front (x ∷ h) e = go (sents src id h) refl (λ f g. last_sent src id w f h g)
  where
    in_rest : LastSent src id w h → LastSent src id w (x ∷ h)
    in_rest l = record {
      before = x ∷ l.before;
      by = l.by;
      doc = l.doc;
      after = l.after;
      is = ap (λ r. x ∷ r) l.is;
      same_id = l.same_id;
      none_after = l.none_after;
    }

    here : sents src id h ≡ [] → sent_version src id x.kind ≡ w ∷ [] → LastSent src id w (x ∷ h)
    here none one =
        let k = sent_kind src id w x.kind one in
        record {
          before = [];
          by = x.by;
          doc = k.0;
          after = h;
          is = ap (λ kind. record { by = x.by; kind = kind } ∷ h) k.1;
          same_id = k.2;
          none_after = none;
        }

    -- a piece of at most one number, before a list that ends in w, leaves w in the list
    tail : (k : Kind) (y : ℕ) (ys : List ℕ) → (front : List ℕ) → sent_version src id k ++ y ∷ ys ≡ front ++ w ∷ []
        → (f : List ℕ) × (y ∷ ys ≡ f ++ w ∷ [])
    tail (Put doc) y ys f e = (f, e)
    tail (Del i) y ys f e = (f, e)
    tail Mark y ys f e = (f, e)
    tail (Sent from v doc) y ys f e = cut (bytes_eq src from && bytes_eq id (id_of doc)) f e
      where
        cut : (b : Bool) (f : List ℕ) → cond b (v ∷ []) [] ++ y ∷ ys ≡ f ++ w ∷ [] → (g : List ℕ) × (y ∷ ys ≡ g ++ w ∷ [])
        cut false f e = (f, e)
        cut true [] e = absurd (cc)
        cut true (u ∷ f) e = (f, cc)

    -- a piece alone that ends in w is w
    alone : (k : Kind) → sent_version src id k ++ [] ≡ front ++ w ∷ [] → sent_version src id k ≡ w ∷ []
    alone (Put doc) e = absurd (not_empty front w e)
    alone (Del i) e = absurd (not_empty front w e)
    alone Mark e = absurd (not_empty front w e)
    alone (Sent from v doc) e = cut (bytes_eq src from && bytes_eq id (id_of doc)) front e
      where
        cut : (b : Bool) (front : List ℕ) → cond b (v ∷ []) [] ++ [] ≡ front ++ w ∷ [] → cond b (v ∷ []) [] ≡ w ∷ []
        cut false [] e = absurd (cc)
        cut false (u ∷ f) e = absurd (cc)
        cut true [] e = e
        cut true (u ∷ []) e = absurd (cc)
        cut true (u ∷ u' ∷ f) e = absurd (cc)

    go : (vs : List ℕ) → sents src id h ≡ vs → ((f : List ℕ) → sents src id h ≡ f ++ w ∷ [] → LastSent src id w h) → LastSent src id w (x ∷ h)
    go [] none more = here none (alone x.kind (subst (λ r. sent_version src id x.kind ++ r ≡ front ++ w ∷ []) none e))
    go (y ∷ ys) some more =
        let t = tail x.kind y ys front (subst (λ r. sent_version src id x.kind ++ r ≡ front ++ w ∷ []) some e) in
        in_rest (more t.0 (some ∙ t.1))

-- where each write comes from the source and none is of the id, no write is of the id
silent_writes : (src id : ByteList) (last : ℕ) (h : History) → IsOnlyFrom src h → sents src id h ≡ [] → writes_id id (slots_after last h) ≡ false
unfolding sents slots_after
silent_writes src id last [] only none = refl
silent_writes src id last (x ∷ h) only none = go x.kind only.0 none (λ l n. silent_writes src id l h only.1 n)
  where
    go : (k : Kind) → is_only_from src k ≡ true → sent_version src id k ++ sents src id h ≡ []
        → ((l : ℕ) → sents src id h ≡ [] → writes_id id (slots_after l h) ≡ false)
        → writes_id id (slot_of (version_after last k) k ++ slots_after (version_after last k) h) ≡ false
    go (Put doc) o n f = absurd (cc)
    go (Del i) o n f = absurd (cc)
    go Mark o n f = f last n
    go (Sent from v doc) o n f = cut (bytes_eq id (id_of doc)) refl n
      where
        cut : (c : Bool) → bytes_eq id (id_of doc) ≡ c → cond (bytes_eq src from && c) (v ∷ []) [] ++ sents src id h ≡ []
            → (bytes_eq id (id_of doc) || writes_id id (slots_after (last + 1) h)) ≡ false
        cut true q m = absurd (let one : cond (true && true) (v ∷ []) [] ++ sents src id h ≡ [] = subst (λ b. cond (b && true) (v ∷ []) [] ++ sents src id h ≡ []) o m in cc)
        cut false q m =
            let rest : sents src id h ≡ [] = subst (λ b. cond (b && false) (v ∷ []) [] ++ sents src id h ≡ []) o m in
            rw q (f (last + 1) rest)

-- up to a Mark that follows, entries are settled
settled_before : (before : History) (e : Entry) (after : History) → has_mark after ≡ true
    → settled (before ++ e ∷ after) ≡ before ++ e ∷ settled after
unfolding settled
settled_before [] e after m = rw (or_mark (is_mark e.kind)) refl
  where
    or_mark : (b : Bool) → (b || has_mark after) ≡ true
    or_mark true = refl
    or_mark false = m
settled_before (x ∷ before) e after m =
    rw (or_mark (is_mark x.kind)) (ap (λ r. x ∷ r) (settled_before before e after m))
  where
    behind : (xs : History) → has_mark (xs ++ e ∷ after) ≡ true
    behind [] = either (is_mark e.kind)
      where
        either : (b : Bool) → (b || has_mark after) ≡ true
        either true = refl
        either false = m
    behind (y ∷ ys) = either (is_mark y.kind) (behind ys)
      where
        either : (b : Bool) → has_mark (ys ++ e ∷ after) ≡ true → (b || has_mark (ys ++ e ∷ after)) ≡ true
        either true h = refl
        either false h = h

    or_mark : (b : Bool) → (b || has_mark (before ++ e ∷ after)) ≡ true
    or_mark true = refl
    or_mark false = behind before

-- a Mark follows a delivery of a history whose deliveries are settled
mark_follows : (src : ByteList) (w : ℕ) (doc : Doc) (by : ℕ) (before after : History)
    → AreSentsSettled (before ++ record { by = by; kind = Sent src w doc } ∷ after) → has_mark after ≡ true
unfolding AreSentsSettled
mark_follows src w doc by [] after s = s.0
mark_follows src w doc by (x ∷ before) after s = mark_follows src w doc by before after s.1

-- a part of what comes from one source comes from it, and a part of what sends nothing sends nothing
only_part : (src id : ByteList) (h part rest : History) → h ≡ part ++ rest → IsOnlyFrom src h → sents src id h ≡ []
    → IsOnlyFrom src part × (sents src id part ≡ [])
only_part src id h part rest e only none = (
  each_left (λ x. is_only_from src x.kind ≡ true) part rest (subst (IsOnlyFrom src) e only),
  front (sents src id part) (sents src id rest) (sym (sents-append src id part rest) ∙ ap (sents src id) (sym e) ∙ none),
)
  where
    front : (xs ys : List ℕ) → xs ++ ys ≡ [] → xs ≡ []
    front [] ys e = refl
    front (x ∷ xs) ys e = absurd (cc)

-- the writes from a delivery on
sent_slots : (src : ByteList) (w : ℕ) (doc : Doc) (by last : ℕ) (more : History)
    → slots_after last (record { by = by; kind = Sent src w doc } ∷ more)
    ≡ record { version = last + 1; id = id_of doc; left = Some doc } ∷ slots_after (last + 1) more
unfolding slots_after
sent_slots src w doc by last more = refl

-- where each write comes from the source, its last delivery of an id is current
sent_current : (src id : ByteList) (w : ℕ) (h : History) → IsOnlyFrom src h → AreSentsSettled h → (l : LastSent src id w h)
    → (version : ℕ) × Contains (current h) (version, with_version version l.doc)
unfolding current committed slots
sent_current src id w h only settles l =
    let e : Entry = record { by = l.by; kind = Sent src w l.doc } in
    let only' : IsOnlyFrom src (l.before ++ e ∷ l.after) = subst (IsOnlyFrom src) l.is only in
    let after_only : IsOnlyFrom src l.after = (each_right (λ x. is_only_from src x.kind ≡ true) l.before (e ∷ l.after) only').1 in
    let mark : has_mark l.after ≡ true = mark_follows src w l.doc l.by l.before l.after (subst AreSentsSettled l.is settles) in
    let part = only_part src id l.after (settled l.after) (settled-begins l.after).0 (settled-begins l.after).1 after_only l.none_after in
    let whole : settled h ≡ l.before ++ e ∷ settled l.after = ap settled l.is ∙ settled_before l.before e l.after mark in
    let now : ℕ = last_version 0 (slots_after 0 l.before) + 1 in
    let s : Slot = record { version = now; id = id_of l.doc; left = Some l.doc } in
    let writes : slots_after 0 (settled h) ≡ slots_after 0 l.before ++ s ∷ slots_after now (settled l.after) =
    ap (slots_after 0) whole ∙ (slots_after-append 0 l.before (e ∷ settled l.after) ∙ ap (λ ss. slots_after 0 l.before ++ ss) (sent_slots src w l.doc l.by (last_version 0 (slots_after 0 l.before)) (settled l.after))) in
    let none : writes_id (id_of l.doc) (slots_after now (settled l.after)) ≡ false =
    subst (λ i. writes_id i (slots_after now (settled l.after)) ≡ false) (sym l.same_id)
    (silent_writes src id now (settled l.after) part.0 part.1) in (
      now,
      subst (λ ss. Contains (latest ss) (now, with_version now l.doc)) (sym writes)
          (latest-contains (slots_after 0 l.before) s l.doc (slots_after now (settled l.after)) refl none),
    )

-- a current document that was sent stands in the destination in its version
applied : (names : List NameShards) (hs : Histories) → IsLaw names hs
    → (b : Binding) (dest : ByteList) (p : ℕ × Doc)
    → IsLast (committed (home_history names hs b.src (id_of p.1))) p
    → IsOnlyFrom b.src (home_history names hs dest (id_of p.1)) → IsSent names hs b dest p
    → IsApplied b.src p (home_history names hs dest (id_of p.1))
unfolding AreTrue
applied names hs law b dest p l only sent =
    let id : ByteList = id_of p.1 in
    let cell : ℕ = cell_of names dest (shard_of (shards_of names dest) id) in
    let source : ℕ = cell_of names b.src (shard_of (shards_of names b.src) id) in
    let h : History = history_at hs cell in
    let reached = last_reaches p.0 (sents b.src id h) (law.rising cell b.src id) sent in
    let d = last_sent b.src id reached.last reached.front h reached.is in
    let there = sent_current b.src id reached.last h only (law.settled cell) d in
    let true_all = subst (AllByRecursion (λ e. IsTrueKind names hs cell e.kind)) d.is (law.true_sents cell) in
    let e : Entry = record { by = d.by; kind = Sent b.src reached.last d.doc } in
    let delivery : IsDelivery names hs cell b.src reached.last d.doc =
    (each_right (λ x. IsTrueKind names hs cell x.kind) d.before (e ∷ d.after) true_all).0 in
    let slot : Slot = record { version = reached.last; id = id_of d.doc; left = Some delivery.doc } in
    let le : reached.last ≤ top (history_at hs source) =
    subst (λ i. reached.last ≤ top (home_history names hs b.src i)) d.same_id delivery.reached in
    let found : write_at reached.last (slots (history_at hs source)) ≡ Some slot =
    subst (λ i. write_at reached.last (slots (home_history names hs b.src i)) ≡ Some slot) d.same_id
    delivery.written in
    let kept = write-committed (history_at hs source) reached.last slot (law.versioned source) le found in
    let same_id : id_of d.doc ≡ id_of l.doc = d.same_id ∙ (ap id_of l.is ∙ id_with_version p.0 l.doc) in
    let bound : reached.last ≤ p.0 = l.last reached.last slot kept same_id in
    let same : reached.last ≡ p.0 = omega (arith, bound, reached.reached) in
    let at_p : write_at p.0 (committed (history_at hs source)) ≡ Some slot =
    subst (λ v. write_at v (committed (history_at hs source)) ≡ Some slot) same kept in
    let both : Some (record { version = p.0; id = id_of l.doc; left = Some l.doc }) ≡ Some slot =
    sym l.written ∙ at_p in
    let doc : l.doc ≡ delivery.doc = left_same (record { version = p.0; id = id_of l.doc; left = Some l.doc }) slot l.doc delivery.doc both refl refl in
    record {
      version = there.0;
      delivered = d.doc;
      doc = delivery.doc;
      current_there = there.1;
      sent = subst (λ v. Contains (sents b.src id h) v) same
          (subst (λ vs. Contains vs reached.last) (sym reached.is)
          (Contains-append_right reached.front (reached.last ∷ []) reached.last (0, omega arith, refl)));
      same_id = d.same_id;
      read_as = l.is ∙ ap (with_version p.0) doc;
      is_from = subst (λ v. IsFrom d.doc b.src v delivery.doc) same delivery.is_from;
    }
  where
    left_same : (s t : Slot) (a c : Doc) → Some s ≡ Some t → s.left ≡ Some a → t.left ≡ Some c → a ≡ c
    left_same s t a c e f g =
        let slots_same : s ≡ t = cc in
        let lefts : Some a ≡ Some c = sym f ∙ (ap (λ (x : Slot). x.left) slots_same ∙ g) in
        cc

-- the shard of an id is one of so many
shard_within : (shards : ℕ) (id : ByteList) → 0 < shards → shard_of shards id < shards
shard_within shards id some = omega arith

-- the destination of a bound topic is a known collection
dest_known : (names : List NameShards) (entries : Book) (key : TopicKey) (b : Binding) (dest : ByteList)
    → AllByRecursion (IsFitEntry names) entries → binding_of key entries ≡ Some b → b.dest ≡ Some dest → 0 < shards_of names dest
unfolding binding_of
dest_known names [] key b dest fit bound to = absurd (cc)
dest_known names (book.Bind by k c ∷ entries) key b dest fit bound to =
    go (same_key key k) bound (λ e. dest_known names entries key b dest fit.1 e to)
  where
    go : (t : Bool) → cond t (Some c) (binding_of key entries) ≡ Some b
        → (binding_of key entries ≡ Some b → 0 < shards_of names dest) → 0 < shards_of names dest
    go true e more =
        let same : c ≡ b = cc in
        let to_dest : c.dest ≡ Some dest = ap (λ (x : Binding). x.dest) same ∙ to in
        (subst (λ o. IsFitDestination names c.src o) to_dest fit.0.dest).1
    go false e more = more e
dest_known names (book.Store by k u ∷ entries) key b dest fit bound to = dest_known names entries key b dest fit.1 bound to

-- each current document of a shard that was sent stands in the destination
none_lost : (names : List NameShards) (hs : Histories) → IsLaw names hs → (key : TopicKey) (b : Binding) (dest : ByteList)
    → binding_of key hs.book ≡ Some b → b.dest ≡ Some dest
    → ((shard : ℕ) → shard < shards_of names dest → IsOnlyFrom b.src (shard_history names hs dest shard))
    → (shard : ℕ) → shard < shards_of names b.src → NoneIsLost names hs key b dest shard
unfolding AreSent IsFitCell
none_lost names hs law key b dest bound to only shard below =
    let h : History = shard_history names hs b.src shard in
    let place = place-cell names b.src shard below in
    let fit : IsFit (shards_of names b.src) shard h =
    subst (λ o. IsFitAt o h) place.1 (law.fit (cell_of names b.src shard)) in
    all (current h) (current-here (shards_of names b.src) shard h fit) (current-last h)
    ((law.covered key b bound shard below).sent dest to)
  where
    all : (ps : List (ℕ × Doc)) → AllByRecursion (λ p. shard_of (shards_of names b.src) (id_of p.1) ≡ shard) ps
        → AllByRecursion (IsLast (committed (shard_history names hs b.src shard))) ps
        → AllByRecursion (λ p. takes b p.1 → slice_index b.init shard < p.0 → p.0 ≤ checkpoint key hs.book shard → IsSent names hs b dest p) ps
        → AllByRecursion (λ p. takes b p.1 → slice_index b.init shard < p.0 → p.0 ≤ checkpoint key hs.book shard
        → IsApplied b.src p (home_history names hs dest (id_of p.1))) ps
    all [] here last sent = tt
    all (p ∷ ps) here last sent = (
      λ t low high.
          applied names hs law b dest p
          (subst (λ s. IsLast (committed (shard_history names hs b.src s)) p) (sym here.0) last.0)
          (only (shard_of (shards_of names dest) (id_of p.1))
          (shard_within (shards_of names dest) (id_of p.1) (dest_known names hs.book key b dest law.fit_book.fit bound to)))
          (sent.0 t low high),
      all ps here.1 last.1 sent.1,
    )

-- over histories that keep the law no shard but the home of an id has a delivery of it
sents_home : (names : List NameShards) (hs : Histories) → IsLaw names hs → (src dest : ByteList)
    (shard : ℕ) (id : ByteList) → shard < shards_of names dest
    → shard ≢ shard_of (shards_of names dest) id
    → sents src id (shard_history names hs dest shard) ≡ []
unfolding IsFitCell
sents_home names hs law src dest shard id below away =
    let h : History = shard_history names hs dest shard in
    let place = place-cell names dest shard below in
    let fit : IsFit (shards_of names dest) shard h =
    subst (λ o. IsFitAt o h) place.1 (law.fit (cell_of names dest shard)) in
    sents-elsewhere src id (shards_of names dest) shard h fit away

-- over histories that keep the law each topic is delivered
pub law_delivers : (names : List NameShards) (hs : Histories) → IsLaw names hs → IsDelivered names hs
law_delivers names hs law key b dest bound to only = (
  record {
    at_home = sents_home names hs law b.src dest;
    rising = λ shard id. law.rising (cell_of names dest shard) b.src id;
  },
  none_lost names hs law key b dest bound to only,
)
