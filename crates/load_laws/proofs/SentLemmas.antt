-- What is current in a history whose writes are deliveries from one source.
use Rattle.std.proofs.Common.{◌≡◌, ◌≢◌, ℕ, ◌+◌, ◌<◌, ◌≤◌, ◌||◌, Bool, true, false, cond, List, [], ◌∷◌, ◌++◌, Option, Some, None, refl, sym, ap, subst, ◌∙◌, arith, bytes_eq, Contains}
use Rattle.std.proofs.lemmas.Slice.Eq.{bytes_eq-Decides}
use Rattle.std.proofs.lemmas.List.Elements.{Contains-append_right}
use Rattle.std.specs.List.{AllByRecursion}
use Rattle.tuple_values.specs.Document.{ByteList, Doc}
use Rattle.shard_versions.specs.Documents.{id_of, with_version}
use Rattle.shard_versions.specs.declared.entry.Kind.{Kind}
use Rattle.shard_versions.specs.declared.entry.Kind.TheVariants.{Put, Del, Sent, Mark}
use Rattle.shard_versions.specs.declared.entry.Entry.{Entry}
use Rattle.shard_versions.specs.Histories.{History, Slot, slots, slots_after, slot_of, version_after, is_mark, has_mark, settled, committed, writes_id, kept, latest, current}
use Rattle.shard_versions.specs.Deliveries.{sents, sent_version, IsRising, IsSettledKind, AreSentsSettled}
use Rattle.shard_versions.proofs.ListLemmas.{each_append}
use Rattle.once_core.proofs.CurrentLemmas.{IsNamed, slots-named, id_with_version}
use Rattle.load_laws.proofs.CountingLemmas.{contained-each}

-- the kind is a delivery from the source, of which this holds, or a Mark
abbrev pub IsSentKind : (ℕ → Doc → Type 0) → ByteList → Kind → Type 0
IsSentKind F src (Put doc) = ⊥
IsSentKind F src (Del id) = ⊥
IsSentKind F src (Sent from version doc) = (from ≡ src) × F version doc
IsSentKind F src Mark = Unit {0}

-- each entry is such a delivery or a Mark
abbrev pub AreAllSent : (ℕ → Doc → Type 0) → ByteList → History → Type 0
AreAllSent F src h = AllByRecursion (λ e. IsSentKind F src e.kind) h

-- a delivery from the source delivers under its id
sent_under : (src from id : ByteList) (v : ℕ) (doc : Doc) → from ≡ src
    → sent_version src id (Sent from v doc) ≡ cond (bytes_eq id (id_of doc)) (v ∷ []) []
sent_under src from id v doc e = rw ((bytes_eq-Decides src from).1 (sym e)) refl

-- an id is itself
same_bytes : (id : ByteList) → bytes_eq id id ≡ true
same_bytes id = (bytes_eq-Decides id id).1 refl

-- a document of this id is among those that are read
pub record IsReadOf (id : ByteList) (ps : List (ℕ × Doc)) : Type 0 where
  pub pair : ℕ × Doc
  pub there : Contains ps pair
  pub same_id : id_of pair.1 ≡ id

module _ (F : ℕ → Doc → Type 0) (src : ByteList) where
  -- such a history is settled where a Mark follows each delivery
  settled_whole : (h : History) → AreAllSent F src h → AreSentsSettled h → settled h ≡ h
  unfolding settled AreSentsSettled
  settled_whole [] a s = refl
  settled_whole (e ∷ h) a s = go e.kind a.0 s.0 (settled_whole h a.1 s.1)
    where
      go : (k : Kind) → IsSentKind F src k → IsSettledKind k h → settled h ≡ h
          → cond (is_mark k || has_mark h) (e ∷ settled h) [] ≡ e ∷ h
      go (Put doc) a s r = absurd a
      go (Del id) a s r = absurd a
      go (Sent from v doc) a s r = rw s (ap (λ t. e ∷ t) r)
      go Mark a s r = ap (λ t. e ∷ t) r

  -- under an id of which nothing is delivered nothing is written
  undelivered : (id : ByteList) (last : ℕ) (h : History) → AreAllSent F src h → sents src id h ≡ []
      → writes_id id (slots_after last h) ≡ false
  unfolding sents slots_after
  undelivered id last [] a none = refl
  undelivered id last (e ∷ h) a none = go e.kind a.0 none (λ l n. undelivered id l h a.1 n)
    where
      go : (k : Kind) → IsSentKind F src k → sent_version src id k ++ sents src id h ≡ []
          → ((l : ℕ) → sents src id h ≡ [] → writes_id id (slots_after l h) ≡ false)
          → writes_id id (slot_of (version_after last k) k ++ slots_after
          (version_after last k) h) ≡ false
      go (Put doc) a n f = absurd a
      go (Del i) a n f = absurd a
      go Mark a n f = f last n
      go (Sent from v doc) a n f =
          cut (bytes_eq id (id_of doc)) (ap (λ vs. vs ++ sents src id h) (sym
          (sent_under src from id v doc a.0)) ∙ n)
        where
          cut : (b : Bool) → cond b (v ∷ []) [] ++ sents src id h ≡ []
              → (b || writes_id id (slots_after (last + 1) h)) ≡ false
          cut true m = absurd (cc)
          cut false m = f (last + 1) m

  -- nothing is delivered under an id under which nothing is written
  unwritten_sents : (id : ByteList) (last : ℕ) (h : History) → AreAllSent F src h
      → writes_id id (slots_after last h) ≡ false → sents src id h ≡ []
  unfolding sents slots_after
  unwritten_sents id last [] a none = refl
  unwritten_sents id last (e ∷ h) a none = go e.kind a.0 none (λ l n. unwritten_sents id l h a.1 n)
    where
      go : (k : Kind) → IsSentKind F src k
          → writes_id id (slot_of (version_after last k) k ++ slots_after
          (version_after last k) h) ≡ false
          → ((l : ℕ) → writes_id id (slots_after l h) ≡ false → sents src id h ≡ [])
          → sent_version src id k ++ sents src id h ≡ []
      go (Put doc) a n f = absurd a
      go (Del i) a n f = absurd a
      go Mark a n f = f last n
      go (Sent from v doc) a n f =
          ap (λ vs. vs ++ sents src id h) (sent_under src from id v doc a.0)
          ∙ cut (bytes_eq id (id_of doc)) n
        where
          cut : (b : Bool) → (b || writes_id id (slots_after (last + 1) h)) ≡ false
              → cond b (v ∷ []) [] ++ sents src id h ≡ []
          cut true m = absurd (cc)
          cut false m = f (last + 1) m

  -- a document that is read of these entries is that of a delivery of which this holds, and no
  -- later
  -- version is delivered under its id
  pub record IsNewest (h : History) (p : ℕ × Doc) : Type 0 where
    pub version : ℕ
    pub doc : Doc
    pub is : p.1 ≡ with_version p.0 doc
    pub holds : F version doc
    pub sent : Contains (sents src (id_of doc) h) version
    pub most : AllByRecursion (λ v. v ≤ version) (sents src (id_of doc) h)

  -- what is greatest of the last of rising numbers is greatest of all
  still_most : (vs ws : List ℕ) (m : ℕ) → IsRising (vs ++ ws) → Contains ws m
      → AllByRecursion (λ w. w ≤ m) ws → AllByRecursion (λ w. w ≤ m) (vs ++ ws)
  still_most [] ws m r c a = a
  still_most (v ∷ vs) ws m r c a =
      let below : v < m = contained-each (λ w. v < w) (vs ++ ws) m r.0
      (Contains-append_right vs ws m c) in
      (omega (arith, below), still_most vs ws m r.1 c a)

  -- the last of rising numbers rise
  still_rising : (vs ws : List ℕ) → IsRising (vs ++ ws) → IsRising ws
  still_rising [] ws r = r
  still_rising (v ∷ vs) ws r = still_rising vs ws r.1

  -- what is newest of later entries is newest of all
  newest_later : (e : Entry) (h : History) → ((id : ByteList) → IsRising (sents src id (e ∷ h)))
      → (p : ℕ × Doc) → IsNewest h p → IsNewest (e ∷ h) p
  unfolding sents
  newest_later e h r p w =
      let id : ByteList = id_of w.doc in
      record {
        version = w.version;
        doc = w.doc;
        is = w.is;
        holds = w.holds;
        sent = Contains-append_right (sent_version src id e.kind) (sents src id h) w.version w.sent;
        most = still_most (sent_version src id e.kind) (sents src id h) w.version
            (r id) w.sent w.most;
      }

  -- each document that is read of these entries is newest
  newest_of : (last : ℕ) (h : History) → AreAllSent F src h → ((id : ByteList)
      → IsRising (sents src id h))
      → AllByRecursion (IsNewest h) (latest (slots_after last h))
  unfolding sents slots_after latest
  newest_of last [] every r = tt
  newest_of last (e ∷ h) every r =
      go e.kind every.0 r (λ l. newest_of l h every.1 (λ id. still_rising
      (sent_version src id e.kind) (sents src id h) (r id)))
    where
      weaker : (k : Kind) → ((id : ByteList) → IsRising (sent_version src id k ++ sents src id h))
          → (ps : List (ℕ × Doc))
          → AllByRecursion (IsNewest h) ps → AllByRecursion (IsNewest
          (record { by = e.by; kind = k } ∷ h)) ps
      weaker k r [] a = tt
      weaker k r (p ∷ ps) a = (
        newest_later (record { by = e.by; kind = k }) h r p a.0,
        weaker k r
            ps a.1,
      )

      go : (k : Kind) → IsSentKind F src k → ((id : ByteList)
          → IsRising (sent_version src id k ++ sents src id h))
          → ((l : ℕ) → AllByRecursion (IsNewest h) (latest (slots_after l h)))
          → AllByRecursion (IsNewest (record { by = e.by; kind = k } ∷ h))
          (latest (slot_of (version_after last k) k ++ slots_after (version_after last k) h))
      go (Put doc) a r f = absurd a
      go (Del i) a r f = absurd a
      go Mark a r f = weaker Mark r (latest (slots_after last h)) (f last)
      go (Sent from v doc) a r f =
          each_append (IsNewest (record { by = e.by; kind = Sent from v doc } ∷ h))
          (cond (writes_id (id_of doc) (slots_after (last + 1) h)) [] ((
            last + 1,
            with_version
                (last + 1) doc,
          ) ∷ []))
          (latest (slots_after (last + 1) h))
          (cut (writes_id (id_of doc) (slots_after (last + 1) h)) refl)
          (weaker (Sent from v doc) r (latest (slots_after (last + 1) h)) (f (last + 1)))
        where
          cut : (b : Bool) → writes_id (id_of doc) (slots_after (last + 1) h) ≡ b
              → AllByRecursion (IsNewest (record { by = e.by; kind = Sent from v doc } ∷ h))
              (cond b [] ((last + 1, with_version (last + 1) doc) ∷ []))
          cut true t = tt
          cut false t =
              let here : sent_version src (id_of doc) (Sent from v doc) ≡ v ∷ [] =
              sent_under src from (id_of doc) v doc a.0
              ∙ ap (λ b. cond b (v ∷ []) []) (same_bytes (id_of doc)) in
              let all : v ∷ [] ≡ sent_version src (id_of doc) (Sent from v doc) ++ sents src
              (id_of doc) h =
              ap (λ vs. v ∷ vs) (sym (unwritten_sents (id_of doc) (last + 1) h every.1 t))
              ∙ ap (λ vs. vs ++ sents src (id_of doc) h) (sym here) in (
                record {
                  version = v;
                  doc = doc;
                  is = refl;
                  holds = a.1;
                  sent = subst (λ vs. Contains vs v) all (0, omega arith, refl);
                  most = subst (AllByRecursion (λ w. w ≤ v)) all (omega arith, tt);
                },
                tt,
              )

  -- each current document of such a settled history is newest
  pub current_newest : (h : History) → AreAllSent F src h → AreSentsSettled h → ((id : ByteList)
      → IsRising (sents src id h))
      → AllByRecursion (IsNewest h) (current h)
  unfolding current committed slots
  current_newest h a s r =
      subst (λ t. AllByRecursion (IsNewest h) (latest (slots_after 0 t))) (sym
      (settled_whole h a s)) (newest_of 0 h a r)

  -- where something was delivered under an id a document of it is read
  read_of_sent : (id : ByteList) (last : ℕ) (h : History) → AreAllSent F src h
      → (v : ℕ) (vs : List ℕ)
      → sents src id h ≡ v ∷ vs → IsReadOf id (latest (slots_after last h))
  unfolding sents slots_after latest
  read_of_sent id last [] a v vs e = absurd (cc)
  read_of_sent id last (e ∷ h) every v vs some =
      go e.kind every.0 some (λ l w ws f. read_of_sent id l h every.1 w ws f)
    where
      -- what is read of later entries is read of all
      later : (front : List (ℕ × Doc)) (rest : List Slot) → IsReadOf id (latest rest)
          → IsReadOf id (front ++ latest rest)
      later front rest i =
          record {
            pair = i.pair;
            there = Contains-append_right front
                (latest rest) i.pair i.there;
            same_id = i.same_id;
          }

      go : (k : Kind) → IsSentKind F src k → sent_version src id k ++ sents src id h ≡ v ∷ vs
          → ((l : ℕ) (w : ℕ) (ws : List ℕ) → sents src id h ≡ w ∷ ws
          → IsReadOf id (latest (slots_after l h)))
          → IsReadOf id (latest (slot_of (version_after last k) k ++ slots_after
          (version_after last k) h))
      go (Put doc) a n f = absurd a
      go (Del i) a n f = absurd a
      go Mark a n f = f last v vs n
      go (Sent from u doc) a n f =
          cut (sents src id h) refl (bytes_eq id (id_of doc)) refl
          (ap (λ ws. ws ++ sents src id h) (sym (sent_under src from id u doc a.0)) ∙ n)
        where
          now : ℕ
          now = last + 1

          cut : (ws : List ℕ) → sents src id h ≡ ws → (b : Bool) → bytes_eq id (id_of doc) ≡ b
              → cond b (u ∷ []) [] ++ sents src id h ≡ v ∷ vs
              → IsReadOf id (cond (writes_id (id_of doc) (slots_after now h)) []
              ((now, with_version now doc) ∷ []) ++ latest (slots_after now h))
          cut (w ∷ ws) is b t m =
              later (cond (writes_id (id_of doc) (slots_after now h)) []
              ((now, with_version now doc) ∷ [])) (slots_after now h)
              (f now w ws is)
          cut [] is false t m = absurd (let both : [] ≡ v ∷ vs = sym is ∙ m in cc)
          cut [] is true t m =
              let same : id ≡ id_of doc = (bytes_eq-Decides id (id_of doc)).0 t in
              let none : writes_id (id_of doc) (slots_after now h) ≡ false =
              subst (λ i. writes_id i (slots_after now h) ≡ false) same
              (undelivered id now h every.1 is) in
              record {
                pair = (now, with_version now doc);
                there = rw none (0, omega arith, refl);
                same_id = id_with_version now doc ∙ sym same;
              }

  -- where something was delivered under an id a document of it is current
  pub current_of_sent : (id : ByteList) (h : History) → AreAllSent F src h → AreSentsSettled h
      → (v : ℕ) (vs : List ℕ)
      → sents src id h ≡ v ∷ vs → IsReadOf id (current h)
  unfolding current committed slots
  current_of_sent id h a s v vs e =
      subst (λ t. IsReadOf id (latest (slots_after 0 t))) (sym (settled_whole h a s))
      (read_of_sent id 0 h a v vs e)

-- no id comes twice
abbrev pub AreIdsApart : List (ℕ × Doc) → Type 0
AreIdsApart [] = Unit {0}
AreIdsApart (p ∷ ps) = AllByRecursion (λ q. id_of p.1 ≢ id_of q.1) ps × AreIdsApart ps

-- an id among the last of some writes is among all of them
written_later : (id i : ByteList) (ss : List Slot) → writes_id id ss ≡ true
    → (bytes_eq id i || writes_id id ss) ≡ true
written_later id i ss w = rw w (either (bytes_eq id i))
  where
    either : (b : Bool) → (b || true) ≡ true
    either true = refl
    either false = refl

-- the ids of what is read of writes are written
latest_written : (ss : List Slot) → AllByRecursion (λ s. IsNamed s.left s.id) ss
    → AllByRecursion (λ p. writes_id (id_of p.1) ss ≡ true) (latest ss)
unfolding latest
latest_written [] n = tt
latest_written (s ∷ ss) n =
    each_append (λ p. writes_id (id_of p.1) (s ∷ ss) ≡ true) (kept s s.left ss) (latest ss)
    (go s.left n.0 (writes_id s.id ss)) (more (latest ss) (latest_written ss n.1))
  where
    more : (ps : List (ℕ × Doc)) → AllByRecursion (λ p. writes_id (id_of p.1) ss ≡ true) ps
        → AllByRecursion (λ p. writes_id (id_of p.1) (s ∷ ss) ≡ true) ps
    more [] a = tt
    more (p ∷ ps) a = (written_later (id_of p.1) s.id ss a.0, more ps a.1)

    go : (left : Option Doc) → IsNamed left s.id → (b : Bool)
        → AllByRecursion (λ p. writes_id (id_of p.1) (s ∷ ss) ≡ true) (kept s left ss)
    go None n b = tt
    go (Some doc) n b = cut (writes_id s.id ss)
      where
        cut : (b : Bool) → AllByRecursion {X = ℕ × Doc} (λ p. writes_id (id_of p.1) (s ∷ ss) ≡ true)
            (cond b [] ((s.version, with_version s.version doc) ∷ []))
        cut true = tt
        cut false =
            let same : id_of (with_version s.version doc) ≡ s.id = id_with_version s.version doc
            ∙ sym n in
            (rw ((bytes_eq-Decides (id_of (with_version s.version doc)) s.id).1 same) refl, tt)

-- the ids of what is read of writes are apart
latest_apart : (ss : List Slot) → AllByRecursion (λ s. IsNamed s.left s.id) ss
    → AreIdsApart (latest ss)
unfolding latest
latest_apart [] n = tt
latest_apart (s ∷ ss) n = go s.left n.0 (latest_apart ss n.1)
  where
    go : (left : Option Doc) → IsNamed left s.id → AreIdsApart (latest ss)
        → AreIdsApart (kept s left ss ++ latest ss)
    go None named rest = rest
    go (Some doc) named rest = cut (writes_id s.id ss) refl
      where
        cut : (b : Bool) → writes_id s.id ss ≡ b
            → AreIdsApart (cond b [] ((s.version, with_version s.version doc) ∷ []) ++ latest ss)
        cut true t = rest
        cut false t = (each (latest ss) (latest_written ss n.1), rest)
          where
            each : (ps : List (ℕ × Doc)) → AllByRecursion (λ p. writes_id (id_of p.1) ss ≡ true) ps
                → AllByRecursion (λ q. id_of (with_version s.version doc) ≢ id_of q.1) ps
            each [] a = tt
            each (q ∷ qs) a = (
              λ same.
                  let as_q : s.id ≡ id_of q.1 = named ∙ sym (id_with_version s.version doc)
                  ∙ same in
                  let written : writes_id s.id ss ≡ true = subst (λ i. writes_id i ss ≡ true)
                  (sym as_q) a.0 in
                  cc,
              each qs a.1,
            )

-- the ids of the current documents of a history are apart
pub current_apart : (h : History) → AreIdsApart (current h)
unfolding current committed slots
current_apart h = latest_apart (slots_after 0 (settled h)) (slots-named 0 (settled h))
