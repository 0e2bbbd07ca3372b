-- The state of a book, after one more entry and as it makes room.
use Rattle.std.proofs.Common.{◌≡◌, ℕ, zero, suc, ◌+◌, ◌-◌, ◌<◌, ◌≤◌, max, ◌&&◌, ◌||◌, Bool, true, false, cond, List, [], ◌∷◌, ◌++◌, length, get_or, slice_index, Option, Some, None, refl, sym, ap, subst, ◌∙◌, arith, length-append}
use Rattle.std.specs.Prelude.{option_map, option_to_list}
use Rattle.topic_book.specs.declared.topic.TopicKey.{TopicKey}
use Rattle.topic_book.specs.declared.topic.Binding.{Binding}
use Rattle.topic_book.specs.declared.topic.BookEntry.{BookEntry}
use Rattle.topic_book.specs.declared.topic.BookEntry.TheVariants.{Bind, Store}
use Rattle.topic_book.specs.declared.topics.Topic.{Topic}
use Rattle.topic_book.specs.declared.fault.BookFault.{BookFault}
use Rattle.topic_book.specs.Books.{Book, same_key, binding_of, checkpoint, checkpoints_at, checkpoints, raises, topics_in}
use Rattle.topic_book.specs.Fitness.{IsOfTopic, MayFollow, IsOrdered}
use Rattle.topic_book.specs.Raises.{raised, topic_of, raised_in, new_topic, topics_with, binding_in, exceeds}
use Rattle.topic_book.specs.States.{Kept, HasRoom, IsOpen, IsRefusal, IsOpenFor, IsRefusalFor, IsReadyFor}
use Rattle.topic_book.specs.Topics.{standing, AreTopics}
use Rattle.topic_book.proofs.BookLemmas.{same_key-is, binding-stays, binding-new, binding-skip, checkpoint-append, checkpoint-unbound}
use Rattle.topic_book.proofs.TopicLemmas.{or_else, values_from-same, values_from-list, values_from-raised, same_key-self, topic_of-push, topic_of-raised, raises-exceeds}

-- what the topics are bound to is what the book has
pub bound-same : (ts : List Topic) (book : Book) → AreTopics ts book → (key : TopicKey) → binding_in key ts ≡ binding_of key book
bound-same ts book are key =
    sym (first (topic_of key ts)) ∙ (ap (option_map (λ (p : Binding × List ℕ). p.0)) (are key) ∙ second (binding_of key book))
  where
    first : (o : Option Topic) → option_map (λ (p : Binding × List ℕ). p.0) (option_map standing o) ≡ option_map (λ t. t.binding) o
    first None = refl
    first (Some t) = refl

    second : (o : Option Binding) → option_map (λ (p : Binding × List ℕ). p.0) (option_map (λ b. (b, checkpoints_at key book b)) o) ≡ o
    second None = refl
    second (Some b) = refl

-- entries of a topic leave the checkpoints of another
kept_checkpoints : (other : TopicKey) (book : Book) (e : BookEntry) (b : Binding)
    → ((s : ℕ) → checkpoint other (e ∷ []) s ≡ 0) → checkpoints_at other book b ≡ checkpoints_at other (book ++ e ∷ []) b
unfolding checkpoints_at
kept_checkpoints other book e b none =
    values_from-same (checkpoint other book) (checkpoint other (book ++ e ∷ [])) 0 (length b.init)
    (λ s. let a = checkpoint-append other book (e ∷ []) s in let z = none s in omega arith)

-- a topic that is bound is among the topics
pub topics-bind : (ts : List Topic) (book : Book) (writer : ℕ) (key : TopicKey) (b : Binding)
    → AreTopics ts book → IsOrdered [] book → binding_of key book ≡ None
    → AreTopics (ts ++ new_topic key b ∷ []) (book ++ Bind writer key b ∷ [])
unfolding binding_of checkpoint checkpoints_at
topics-bind ts book writer key b are ordered unbound other =
    topic_of-push other ts (new_topic key b)
    ∙ (ap (λ o. or_else o (cond (same_key other key) (Some (b, b.init)) None)) (are other)
    ∙ go (binding_of other book) refl (same_key other key) refl)
  where
    e : BookEntry
    e = Bind writer key b

    Wanted : Option (Binding × List ℕ)
    Wanted = option_map (λ c. (c, checkpoints_at other (book ++ e ∷ []) c)) (binding_of other (book ++ e ∷ []))

    -- the checkpoint of a topic that was bound now
    fresh : binding_of other book ≡ None → same_key other key ≡ true → (k : ℕ)
        → checkpoint other (book ++ e ∷ []) (0 + k) ≡ slice_index b.init k
    fresh o s k =
        let z : 0 + k ≡ k = omega arith in
        let a = checkpoint-append other book (e ∷ []) k in
        let u = checkpoint-unbound other [] book k ordered o in
        let n : checkpoint other (e ∷ []) k ≡ max (slice_index b.init k) 0 =
        ap (λ t. cond t (max (slice_index b.init k) 0) 0) s in
        ap (checkpoint other (book ++ e ∷ [])) z ∙ (let r : checkpoint other (book ++ e ∷ []) k ≡ slice_index b.init k = omega arith in r)

    go : (o : Option Binding) → binding_of other book ≡ o → (s : Bool) → same_key other key ≡ s
        → or_else (option_map (λ c. (c, checkpoints_at other book c)) o) (cond s (Some (b, b.init)) None) ≡ Wanted
    go (Some c) o true s =
        absurd (let k = same_key-is other key s in
        let n : binding_of key book ≡ Some c = subst (λ j. binding_of j book ≡ Some c) k o in cc)
    go (Some c) o false s =
        let stays = binding-stays other c book (e ∷ []) o in
        let same = kept_checkpoints other book e c (λ k. ap (λ t. cond t (max (slice_index b.init k) 0) 0) s) in
        ap (λ l. Some (c, l)) same ∙ sym (ap (option_map (λ d. (d, checkpoints_at other (book ++ e ∷ []) d))) stays)
    go None o true s =
        let is : binding_of other (book ++ e ∷ []) ≡ Some b =
        binding-new other book (e ∷ []) o ∙ ap (λ t. cond t (Some b) None) s in
        let all = values_from-list b.init (checkpoint other (book ++ e ∷ [])) 0 (fresh o s) in
        ap (λ l. Some (b, l)) (sym all) ∙ sym (ap (option_map (λ d. (d, checkpoints_at other (book ++ e ∷ []) d))) is)
    go None o false s =
        let is : binding_of other (book ++ e ∷ []) ≡ None =
        binding-new other book (e ∷ []) o ∙ ap (λ t. cond t (Some b) None) s in
        sym (ap (option_map (λ d. (d, checkpoints_at other (book ++ e ∷ []) d))) is)

-- a topic for which versions are stored is raised
pub topics-store : (ts : List Topic) (book : Book) (writer : ℕ) (key : TopicKey) (us : List ℕ)
    → AreTopics ts book → IsOfTopic (binding_of key book) us
    → AreTopics (raised_in key us ts) (book ++ Store writer key us ∷ [])
unfolding binding_of checkpoint checkpoints_at
topics-store ts book writer key us are of other =
    topic_of-raised key other us ts
    ∙ (ap (λ o. cond (same_key other key) (Raised o) o) (are other)
    ∙ (go (binding_of other book) refl (same_key other key) refl
    ∙ sym (ap Later (binding-skip other book e refl))))
  where
    Raised : Option (Binding × List ℕ) → Option (Binding × List ℕ)
    Raised o = option_map (λ p. (p.0, raised p.1 us)) o

    Later : Option Binding → Option (Binding × List ℕ)
    Later o = option_map (λ d. (d, checkpoints_at other (book ++ Store writer key us ∷ []) d)) o

    Now : Option Binding → Option (Binding × List ℕ)
    Now o = option_map (λ c. (c, checkpoints_at other book c)) o

    e : BookEntry
    e = Store writer key us

    go : (o : Option Binding) → binding_of other book ≡ o → (s : Bool) → same_key other key ≡ s
        → cond s (Raised (Now o)) (Now o) ≡ Later o
    go None o true s = refl
    go None o false s = refl
    go (Some c) o false s =
        ap (λ l. Some (c, l)) (kept_checkpoints other book e c (λ k. ap (λ t. cond t (max (slice_index us k) 0) 0) s))
    go (Some c) o true s =
        let k = same_key-is other key s in
        let n : binding_of key book ≡ Some c = subst (λ j. binding_of j book ≡ Some c) k o in
        let many : length us ≡ length c.init = subst (λ x. IsOfTopic x us) n of in
        let up = values_from-raised us (checkpoint other book) (checkpoint other (book ++ e ∷ [])) 0
        (λ j. let a = checkpoint-append other book (e ∷ []) (0 + j) in
        let z : 0 + j ≡ j = omega arith in
        let m : checkpoint other (e ∷ []) (0 + j) ≡ max (slice_index us j) 0 =
        ap (λ t. cond t (max (slice_index us (0 + j)) 0) 0) s ∙ ap (λ i. max (slice_index us i) 0) z in omega arith) in
        ap (λ l. Some (c, l)) (rw (sym many) up)

-- how many topics there are with one more entry
topics_in-push : (book : Book) (e : BookEntry) → topics_in (book ++ e ∷ []) ≡ topics_in book + topics_in (e ∷ [])
unfolding topics_in
topics_in-push [] e = let z : topics_in (e ∷ []) ≡ 0 + topics_in (e ∷ []) = omega arith in z
topics_in-push (Bind w k b ∷ book) e = let h = topics_in-push book e in omega arith
topics_in-push (Store w k u ∷ book) e = topics_in-push book e

raised_in-length : (key : TopicKey) (us : List ℕ) (ts : List Topic) → length (raised_in key us ts) ≡ length ts
raised_in-length key us [] = refl
raised_in-length key us (t ∷ ts) = go (same_key key t.key) (raised_in-length key us ts)
  where
    go : (b : Bool) → length (raised_in key us ts) ≡ length ts
        → length (cond b (record { key = t.key; binding = t.binding; upto = raised t.upto us } ∷ ts) (t ∷ raised_in key us ts)) ≡ suc (length ts)
    go true e = refl
    go false e = ap suc e

-- an entry that has room and may follow is noted right
pub topics-follow : (ts : List Topic) (book : Book) (kept : Kept) (e : BookEntry) (new : List Topic) → AreTopics ts book → IsOrdered [] book
    → HasRoom kept e → MayFollow book e → new ≡ topics_with ts kept.ready e → AreTopics new (book ++ e ∷ [])
unfolding HasRoom
topics-follow ts book kept (Bind w key b) new are ordered room follows is =
    subst (λ xs. AreTopics xs (book ++ Bind w key b ∷ [])) (sym (is ∙ ap (λ r. ts ++ option_to_list r) room.1))
    (topics-bind ts book w key b are ordered follows)
topics-follow ts book kept (Store w key us) new are ordered room follows is =
    subst (λ xs. AreTopics xs (book ++ Store w key us ∷ [])) (sym is) (topics-store ts book w key us are follows)

-- and counted right
pub topics-counted : (ts : List Topic) (book : Book) (kept : Kept) (e : BookEntry) (new : List Topic) → length ts ≡ topics_in book
    → HasRoom kept e → new ≡ topics_with ts kept.ready e → length new ≡ topics_in (book ++ e ∷ [])
unfolding HasRoom topics_in
topics-counted ts book kept (Bind w key b) new count room is =
    let l = ap length is ∙ (ap (λ r. length (ts ++ option_to_list r)) room.1 ∙ length-append ts (new_topic key b ∷ [])) in
    let h = topics_in-push book (Bind w key b) in omega arith
topics-counted ts book kept (Store w key us) new count room is =
    let l = ap length is ∙ raised_in-length key us ts in
    let h = topics_in-push book (Store w key us) in omega arith

-- an entry that has room has a place
pub room-some : (kept : Kept) (e : BookEntry) → HasRoom kept e → 0 < kept.room
unfolding HasRoom
room-some kept (Bind w key b) r = r.0
room-some kept (Store w key us) r = r

module _ (f g : TopicKey → Option Binding) (same : (key : TopicKey) → f key ≡ g key) (n m : ℕ) (counted : n ≡ m) where
  -- an entry that the topics take the book takes
  pub open-same : (e : BookEntry) → IsOpenFor f n e → IsOpenFor g m e
  open-same (Bind w key b) o = rw (sym (same key), sym counted) o
  open-same (Store w key us) o = tt

  -- an entry that the topics refuse the book refuses
  pub refusal-same : (e : BookEntry) (fault : BookFault) → IsRefusalFor f n e fault → IsRefusalFor g m e fault
  refusal-same (Bind w key b) fault r = rw (sym (same key), sym counted) r
  refusal-same (Store w key us) fault r = r

-- what was made ready is room for an entry that may follow
pub room-ready : (f : TopicKey → Option Binding) (book : Book) (e : BookEntry) (kept : Kept) → ((key : TopicKey) → f key ≡ binding_of key book)
    → IsReadyFor f e kept.ready → 0 < kept.room → MayFollow book e → HasRoom kept e
unfolding HasRoom
room-ready f book (Bind w key b) kept same ready some follows = (some, ready (same key ∙ follows))
room-ready f book (Store w key us) kept same ready some follows = some

-- versions raise a topic where they exceed those of the one that stands for it
pub raises-right : (ts : List Topic) (book : Book) (key : TopicKey) (t : Topic) (us : List ℕ) → AreTopics ts book
    → Some t ≡ topic_of key ts → IsOfTopic (binding_of key book) us → exceeds t.upto us ≡ raises key book us
raises-right ts book key t us are is of =
    go (binding_of key book) (ap (option_map standing) is ∙ are key) of
  where
    go : (o : Option Binding) → Some (standing t) ≡ option_map (λ b. (b, checkpoints_at key book b)) o → IsOfTopic o us
        → exceeds t.upto us ≡ raises key book us
    go None e of = absurd of
    go (Some b) e of =
        let u : t.upto ≡ checkpoints_at key book b = ap snd_of e in
        ap (λ n. exceeds n us) u ∙ raises-exceeds key book b us of
      where
        snd_of : Option (Binding × List ℕ) → List ℕ
        snd_of None = []
        snd_of (Some p) = p.1
