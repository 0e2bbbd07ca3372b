-- The first checkpoint that stands for more than was sent.
use Rattle.std.proofs.Common.{◌≡◌, ℕ, zero, suc, ◌+◌, ◌<◌, ◌≤◌, Bool, true, false, cond, List, [], ◌∷◌, ◌++◌, length, get_or, take, drop, Option, Some, None, refl, sym, ap, subst, ◌∙◌, arith, Decides, below_more, append_assoc, take-append-drop, drop-cons}
use Rattle.std.specs.List.{slice_get}
use Rattle.std.proofs.lemmas.Bool.{false≢true}
use Rattle.std.proofs.lemmas.List.{take_more, take_all, append-nil}
use Rattle.std.proofs.lemmas.Slice.Eq.{bytes_eq-Decides}
use Rattle.tuple_values.specs.Document.{ByteList}
use Rattle.tuple_values.specs.declared.names.NameShards.{NameShards}
use Rattle.topic_book.specs.Books.{Book, same_key, binding_of, checkpoint}
use Rattle.topic_book.specs.Fitness.{MayFollow, IsOrdered, shards_of}
use Rattle.topic_book.specs.declared.topic.TopicKey.{TopicKey}
use Rattle.topic_book.specs.declared.topic.Binding.{Binding}
use Rattle.topic_book.specs.declared.topic.BookEntry.{BookEntry}
use Rattle.topic_book.specs.declared.topic.BookEntry.TheVariants.{Bind, Store}
use Rattle.topic_book.proofs.BookLemmas.{same_key-is, binding-stays, binding-new}
use Rattle.once_core.specs.Cells.{shard_history}
use Rattle.once_core.specs.Law.{IsCovered}
use Rattle.once_core.specs.declared.world.Histories.{Histories}
use Rattle.law_checks.specs.Coverage.{IsCoveredAt, AreCoveredBelow, AreAllCovered, IsFirstUncovered}
use Rattle.law_checks.specs.Firsts.{IsFirstShard, IsFirstHere}
use Rattle.law_checks.proofs.GotLemmas.{got-at}

module _ (names : List NameShards) (hs : Histories) (key : TopicKey) (b : Binding) (shard upto : ℕ) (is : upto ≡ checkpoint key hs.book shard) where
  -- the checkpoint isn't right at this shard first
  pub shard-here : (n : ℕ) (src : ByteList) → n ≡ shards_of names src → src ≡ b.src → shard < n → (r : Bool)
      → Decides r (IsCovered names hs b shard (shard_history names hs b.src shard) upto) → r ≡ false
      → AreCoveredBelow names hs key b shard → IsFirstShard names hs key b shard upto
  shard-here n src counted from lt r d e before = record {
    in_range = let c : n ≡ shards_of names b.src = counted ∙ ap (shards_of names) from in omega arith;
    number = is;
    uncovered = λ c. false≢true (sym e ∙ d.1 c);
    shards = before;
  }

  -- it is, as at those before
  pub shard-on : (r : Bool) → Decides r (IsCovered names hs b shard (shard_history names hs b.src shard) upto) → r ≡ true
      → AreCoveredBelow names hs key b shard → AreCoveredBelow names hs key b (shard + 1)
  shard-on r d e before =
      below_more (λ n. IsCoveredAt names hs key b n) shard before
      (subst (λ u. IsCovered names hs b shard (shard_history names hs b.src shard) u) is (d.0 e))

-- at the end it is at each
pub shard-end : (names : List NameShards) (hs : Histories) (key : TopicKey) (b : Binding) (n shard : ℕ) (src : ByteList)
    → n ≡ shards_of names src → src ≡ b.src → n ≤ shard → AreCoveredBelow names hs key b shard
    → AreCoveredBelow names hs key b (shards_of names b.src)
shard-end names hs key b n shard src counted from le before =
    λ k lt. before k (let c : n ≡ shards_of names b.src = counted ∙ ap (shards_of names) from in omega arith)

-- a Store binds nothing
pub entry-store : (names : List NameShards) (hs : Histories) (e : BookEntry) (by : ℕ) (key : TopicKey) (upto : List ℕ) → e ≡ Store by key upto
    → AreAllCovered names hs (e ∷ [])
unfolding binding_of
entry-store names hs e by key upto is =
    λ k b bound. absurd (let none : None ≡ Some b = sym (ap (λ x. binding_of k (x ∷ [])) is) ∙ bound in cc)

-- a topic is bound whose checkpoint is right
pub entry-right : (names : List NameShards) (hs : Histories) (e : BookEntry) (by : ℕ) (key : TopicKey) (b : Binding) → e ≡ Bind by key b
    → AreCoveredBelow names hs key b (shards_of names b.src) → AreAllCovered names hs (e ∷ [])
unfolding binding_of
entry-right names hs e by key b is right =
    λ k c bound. go k c (same_key k key) refl (sym (ap (λ x. binding_of k (x ∷ [])) is) ∙ bound)
  where
    go : (k : TopicKey) (c : Binding) (t : Bool) → same_key k key ≡ t → cond t (Some b) None ≡ Some c
        → AreCoveredBelow names hs k c (shards_of names c.src)
    go k c true e f =
        let same : key ≡ k = sym (same_key-is k key e) in
        let as_ : b ≡ c = cc in
        subst (λ x. AreCoveredBelow names hs k x (shards_of names x.src)) as_
        (subst (λ x. AreCoveredBelow names hs x b (shards_of names b.src)) same right)
    go k c false e f = absurd (cc)

module _ (names : List NameShards) (hs : Histories) (book : Book) (i : ℕ) (e : BookEntry) (lt : i < length book) (is : e ≡ get_or book i e) where
  longer : take (i + 1) book ≡ take i book ++ e ∷ []
  longer = take_more book i e lt ∙ ap (λ x. take i book ++ x ∷ []) (sym is)

  -- the checkpoints of what is bound so far are right with one more entry
  pub book-on : AreAllCovered names hs (e ∷ []) → AreAllCovered names hs (take i book) → AreAllCovered names hs (take (i + 1) book)
  book-on one before = λ key b bound. go key b (binding_of key (take i book)) refl (sym (ap (binding_of key) longer) ∙ bound)
    where
      go : (key : TopicKey) (b : Binding) (o : Option Binding) → binding_of key (take i book) ≡ o → binding_of key (take i book ++ e ∷ []) ≡ Some b
          → AreCoveredBelow names hs key b (shards_of names b.src)
      go key b None f bound = one key b (sym (binding-new key (take i book) (e ∷ []) f) ∙ bound)
      go key b (Some c) f bound =
          let stays : binding_of key (take i book ++ e ∷ []) ≡ Some c = binding-stays key c (take i book) (e ∷ []) f in
          let same : Some c ≡ Some b = sym stays ∙ bound in
          before key b (f ∙ same)

  -- the entry may follow those before it
  follows-at : (before es : Book) (i : ℕ) (e : BookEntry) → IsOrdered before es → i < length es → e ≡ get_or es i e → MayFollow (before ++ take i es) e
  unfolding IsOrdered
  follows-at before [] i e o lt is = absurd (omega arith)
  follows-at before (x ∷ es) zero e o lt is =
      subst (λ y. MayFollow (before ++ []) y) (sym is) (subst (λ b. MayFollow b x) (sym (append-nil before)) o.0)
  follows-at before (x ∷ es) (suc i) e o lt is =
      subst (λ b. MayFollow b e) (append_assoc before (x ∷ []) (take i es)) (follows-at (before ++ x ∷ []) es i e o.1 (omega arith) is)

  same-self : (key : TopicKey) → same_key key key ≡ true
  same-self key =
      rw ((bytes_eq-Decides key.checkpoints key.checkpoints).1 refl, (bytes_eq-Decides key.id key.id).1 refl) refl

  -- the entry binds the first topic whose checkpoint isn't right
  pub book-here : (key : TopicKey) (shard upto : ℕ) → book ≡ hs.book → IsOrdered [] hs.book → IsFirstHere names hs e key shard upto
      → AreAllCovered names hs (take i book) → IsFirstUncovered names hs key shard upto
  unfolding binding_of
  book-here key shard upto whole ordered first before =
      let unbound : binding_of key (take i book) ≡ None =
      subst (λ x. MayFollow (take i book) x) first.here (follows-at [] book i e (subst (IsOrdered []) (sym whole) ordered) lt is) in
      let parts : book ≡ take i book ++ (e ∷ drop (suc i) book) =
      sym (take-append-drop i book) ∙ ap (λ r. take i book ++ r) (drop-cons book i e lt ∙ ap (λ x. x ∷ drop (suc i) book) (sym is)) in
      record {
        binding = first.binding;
        bound = ap (binding_of key) (sym whole ∙ parts)
            ∙ (binding-new key (take i book) (e ∷ drop (suc i) book) unbound
            ∙ (ap (λ x. binding_of key (x ∷ drop (suc i) book)) first.here
            ∙ ap (λ t. cond t (Some first.binding) (binding_of key (drop (suc i) book))) (same-self key)));
        in_range = first.first.in_range;
        number = first.first.number;
        uncovered = first.first.uncovered;
        shards = first.first.shards;
        place = i;
        by = first.by;
        here = ap (λ x. slice_get x i) (sym whole) ∙ (sym (got-at book i e lt is) ∙ ap Some first.here);
        topics = subst (λ x. AreAllCovered names hs (take i x)) whole before;
      }

-- at the end all are right
pub book-end : (names : List NameShards) (hs : Histories) (book : Book) (i : ℕ) → length book ≤ i → book ≡ hs.book
    → AreAllCovered names hs (take i book) → AreAllCovered names hs hs.book
book-end names hs book i le whole before = subst (AreAllCovered names hs) (take_all i book le ∙ whole) before

-- no topic is bound in no entry
pub book-begin : (names : List NameShards) (hs : Histories) → AreAllCovered names hs []
unfolding binding_of
book-begin names hs = λ key b bound. absurd (cc)
