-- The topics of a book with one more entry.
use Rattle.std.proofs.Common.{◌≡◌, ℕ, zero, suc, ◌+◌, ◌-◌, ◌<◌, ◌≤◌, max, ◌&&◌, ◌||◌, Bool, true, false, cond, List, [], ◌∷◌, ◌++◌, length, get_or, slice_index, Option, Some, None, refl, sym, ap, subst, ◌∙◌, arith, add-one, bytes_eq, length-append}
use Rattle.std.specs.Prelude.{nat_lt, option_map, option_to_list}
use Rattle.std.proofs.lemmas.Slice.Eq.{bytes_eq-Decides}
use Rattle.topic_book.specs.declared.topic.TopicKey.{TopicKey}
use Rattle.topic_book.specs.declared.topic.Binding.{Binding}
use Rattle.topic_book.specs.declared.topic.BookEntry.{BookEntry}
use Rattle.topic_book.specs.declared.topic.BookEntry.TheVariants.{Bind, Store}
use Rattle.topic_book.specs.declared.topics.Topic.{Topic}
use Rattle.topic_book.specs.declared.fault.BookFault.{BookFault}
use Rattle.topic_book.specs.declared.fault.BookFault.TheVariants.{TopicBound, BookFull, OutOfMemory}
use Rattle.topic_book.specs.Books.{Book, same_key, binding_of, checkpoint, values_from, checkpoints_at, is_above, raises, topics_in}
use Rattle.topic_book.specs.Fitness.{IsOfTopic, MayFollow, IsOrdered}
use Rattle.topic_book.specs.Raises.{raised, topic_of, raised_topic, raised_in, new_topic, topics_with, binding_in, exceeds}
use Rattle.topic_book.specs.States.{Kept, HasRoom, IsOpen, IsTaken, IsFull, IsRefusal, IsOpenFor, IsRefusalFor, IsReadyFor}
use Rattle.topic_book.specs.Topics.{standing, AreTopics}
use Rattle.topic_book.proofs.BookLemmas.{same_key-is, binding-stays, binding-new, binding-skip, checkpoint-append, checkpoint-unbound}

-- the first where there is one, else the second
abbrev pub or_else : {X : Type 0} → Option X → Option X → Option X
or_else None other = other
or_else (Some x) other = Some x

-- the values of two functions that agree are the same
pub values_from-same : (f g : ℕ → ℕ) (first count : ℕ) → ((n : ℕ) → f n ≡ g n) → values_from f first count ≡ values_from g first count
values_from-same f g first zero e = refl
values_from-same f g first (suc count) e = rw (e first, values_from-same f g (first + 1) count e) refl

-- the items of a list, place by place
pub values_from-list : (xs : List ℕ) (f : ℕ → ℕ) (first : ℕ) → ((k : ℕ) → f (first + k) ≡ slice_index xs k)
    → values_from f first (length xs) ≡ xs
values_from-list [] f first e = refl
values_from-list (x ∷ xs) f first e =
    let here : f first ≡ x = ap f (let z : first ≡ first + 0 = omega arith in z) ∙ e 0 in
    let rest : values_from f (first + 1) (length xs) ≡ xs =
    values_from-list xs f (first + 1) (λ k. ap f (let z : (first + 1) + k ≡ first + suc k = omega arith in z) ∙ e (suc k)) in
    rw (here, rest) refl

-- numbers raised by a list, place by place
pub values_from-raised : (us : List ℕ) (f g : ℕ → ℕ) (first : ℕ) → ((k : ℕ) → g (first + k) ≡ max (f (first + k)) (slice_index us k))
    → raised (values_from f first (length us)) us ≡ values_from g first (length us)
values_from-raised [] f g first e = refl
values_from-raised (u ∷ us) f g first e =
    let at : first ≡ first + 0 = omega arith in
    let here : max (f first) u ≡ g first = sym (ap g at ∙ (e 0 ∙ ap (λ n. max (f n) u) (sym at))) in
    let rest : raised (values_from f (first + 1) (length us)) us ≡ values_from g (first + 1) (length us) =
    values_from-raised us f g (first + 1)
    (λ k. let z : (first + 1) + k ≡ first + suc k = omega arith in
    ap g z ∙ (e (suc k) ∙ ap (λ n. max (f n) (slice_index us k)) (sym z))) in
    rw (here, rest) refl

-- numbers are above checkpoints where they exceed their list
pub is_above-exceeds : (key : TopicKey) (book : Book) (shard : ℕ) (us : List ℕ)
    → exceeds (values_from (checkpoint key book) shard (length us)) us ≡ is_above key book shard us
is_above-exceeds key book shard [] = refl
is_above-exceeds key book shard (u ∷ us) = ap (λ b. nat_lt (checkpoint key book shard) u || b) (is_above-exceeds key book (shard + 1) us)

-- a store raises where its numbers exceed the topic's checkpoints
pub raises-exceeds : (key : TopicKey) (book : Book) (b : Binding) (us : List ℕ) → length us ≡ length b.init
    → exceeds (checkpoints_at key book b) us ≡ raises key book us
unfolding raises checkpoints_at
raises-exceeds key book b us e =
    ap (λ n. exceeds (values_from (checkpoint key book) 0 n) us) (sym e) ∙ is_above-exceeds key book 0 us

-- keys that are equal are tested to be the same
pub same_key-self : (key : TopicKey) → same_key key key ≡ true
same_key-self key = go (bytes_eq key.checkpoints key.checkpoints) ((bytes_eq-Decides key.checkpoints key.checkpoints).1 refl)
  where
    go : (b : Bool) → b ≡ true → (b && bytes_eq key.id key.id) ≡ true
    go true e = (bytes_eq-Decides key.id key.id).1 refl
    go false e = absurd (cc)

-- a topic that stands at the end is found where none of its key stands before
pub topic_of-push : (key : TopicKey) (ts : List Topic) (t : Topic)
    → option_map standing (topic_of key (ts ++ t ∷ []))
    ≡ or_else (option_map standing (topic_of key ts)) (cond (same_key key t.key) (Some (standing t)) None)
topic_of-push key [] t = go (same_key key t.key)
  where
    go : (b : Bool) → option_map standing (cond b (Some t) None) ≡ cond b (Some (standing t)) None
    go true = refl
    go false = refl
topic_of-push key (x ∷ ts) t = go (same_key key x.key) (topic_of-push key ts t)
  where
    go : (b : Bool)
        → option_map standing (topic_of key (ts ++ t ∷ [])) ≡ or_else (option_map standing (topic_of key ts)) (cond (same_key key t.key) (Some (standing t)) None)
        → option_map standing (cond b (Some x) (topic_of key (ts ++ t ∷ [])))
        ≡ or_else (option_map standing (cond b (Some x) (topic_of key ts))) (cond (same_key key t.key) (Some (standing t)) None)
    go true e = refl
    go false e = e

-- a topic that is raised stands raised, and each other one as before
pub topic_of-raised : (key other : TopicKey) (us : List ℕ) (ts : List Topic)
    → option_map standing (topic_of other (raised_in key us ts))
    ≡ cond (same_key other key)
    (option_map (λ p. (p.0, raised p.1 us)) (option_map standing (topic_of other ts)))
    (option_map standing (topic_of other ts))
topic_of-raised key other us [] = go (same_key other key) None
  where
    go : (b : Bool) (n : Option (Binding × List ℕ)) → n ≡ cond b n n
    go true n = refl
    go false n = refl
topic_of-raised key other us (x ∷ ts) =
    go (same_key key x.key) refl (same_key other x.key) refl (same_key other key) refl (topic_of-raised key other us ts)
  where
    Raised : Option (Binding × List ℕ) → Option (Binding × List ℕ)
    Raised o = option_map (λ p. (p.0, raised p.1 us)) o

    go : (a : Bool) → same_key key x.key ≡ a → (b : Bool) → same_key other x.key ≡ b → (d : Bool) → same_key other key ≡ d
        → option_map standing (topic_of other (raised_in key us ts)) ≡ cond d (Raised (option_map standing (topic_of other ts))) (option_map standing (topic_of other ts))
        → option_map standing (topic_of other (cond a (raised_topic x us ∷ ts) (x ∷ raised_in key us ts)))
        ≡ cond d (Raised (option_map standing (cond b (Some x) (topic_of other ts)))) (option_map standing (cond b (Some x) (topic_of other ts)))
    go true p true q true r e = ap (λ t. option_map standing (cond t (Some (raised_topic x us)) (topic_of other ts))) q
    go true p true q false r e =
        absurd (let k = same_key-is key x.key p in
        let o = same_key-is other x.key q in
        let s : same_key other key ≡ true = subst (λ j. same_key other j ≡ true) (o ∙ sym k) (same_key-self other) in cc)
    go true p false q true r e =
        absurd (let k = same_key-is key x.key p in
        let o = same_key-is other key r in
        let s : same_key other x.key ≡ true = subst (λ j. same_key other j ≡ true) (o ∙ k) (same_key-self other) in cc)
    go true p false q false r e = ap (λ t. option_map standing (cond t (Some (raised_topic x us)) (topic_of other ts))) q
    go false p true q true r e =
        absurd (let o = same_key-is other x.key q in
        let k = same_key-is other key r in
        let s : same_key key x.key ≡ true = subst (λ j. same_key key j ≡ true) (sym k ∙ o) (same_key-self key) in cc)
    go false p true q false r e = ap (λ t. option_map standing (cond t (Some x) (topic_of other (raised_in key us ts)))) q
    go false p false q true r e =
        ap (λ t. option_map standing (cond t (Some x) (topic_of other (raised_in key us ts)))) q ∙ e
    go false p false q false r e =
        ap (λ t. option_map standing (cond t (Some x) (topic_of other (raised_in key us ts)))) q ∙ e
