-- What later entries of a book leave of bindings and checkpoints.
use Rattle.std.proofs.Common.{◌≡◌, ◌≢◌, ℕ, ◌+◌, ◌<◌, ◌≤◌, max, ◌&&◌, Bool, true, false, cond, List, [], ◌∷◌, ◌++◌, Option, Some, None, slice_index, length, refl, sym, ap, subst, ◌∙◌, arith, append_assoc, bytes_eq}
use Rattle.std.proofs.lemmas.List.{append-nil}
use Rattle.std.proofs.lemmas.Slice.Eq.{bytes_eq-Decides}
use Rattle.topic_book.specs.declared.topic.TopicKey.{TopicKey}
use Rattle.topic_book.specs.declared.topic.Binding.{Binding}
use Rattle.topic_book.specs.declared.topic.BookEntry.{BookEntry}
use Rattle.topic_book.specs.declared.topic.BookEntry.TheVariants.{Bind, Store}
use Rattle.topic_book.specs.Books.{Book, same_key, binding_of, checkpoint}
use Rattle.topic_book.specs.Fitness.{IsOfTopic, MayFollow, IsOrdered}

-- keys that are tested to be the same are equal
pub same_key-is : (a b : TopicKey) → same_key a b ≡ true → a ≡ b
same_key-is a b h = go (bytes_eq a.checkpoints b.checkpoints) refl (bytes_eq a.id b.id) refl h
  where
    go : (p : Bool) → bytes_eq a.checkpoints b.checkpoints ≡ p → (q : Bool) → bytes_eq a.id b.id ≡ q → (p && q) ≡ true → a ≡ b
    go true e true f m =
        let c = (bytes_eq-Decides a.checkpoints b.checkpoints).0 e in
        let i = (bytes_eq-Decides a.id b.id).0 f in
        λ k. record { checkpoints = c k; id = i k }
    go true e false f m = absurd (cc)
    go false e q f m = absurd (cc)

-- who is bound stays bound alike
pub binding-stays : (key : TopicKey) (b : Binding) (xs ys : Book)
    → binding_of key xs ≡ Some b → binding_of key (xs ++ ys) ≡ Some b
unfolding binding_of
binding-stays key b [] ys h = absurd (cc)
binding-stays key b (Bind by k c ∷ xs) ys h = go (same_key key k) h (binding-stays key b xs ys)
  where
    go : (s : Bool) → cond s (Some c) (binding_of key xs) ≡ Some b
        → (binding_of key xs ≡ Some b → binding_of key (xs ++ ys) ≡ Some b)
        → cond s (Some c) (binding_of key (xs ++ ys)) ≡ Some b
    go true h f = h
    go false h f = f h
binding-stays key b (Store by k u ∷ xs) ys h = binding-stays key b xs ys h

-- who isn't bound is bound by what follows
pub binding-new : (key : TopicKey) (xs ys : Book)
    → binding_of key xs ≡ None → binding_of key (xs ++ ys) ≡ binding_of key ys
unfolding binding_of
binding-new key [] ys h = refl
binding-new key (Bind by k c ∷ xs) ys h = go (same_key key k) h (binding-new key xs ys)
  where
    go : (s : Bool) → cond s (Some c) (binding_of key xs) ≡ None
        → (binding_of key xs ≡ None → binding_of key (xs ++ ys) ≡ binding_of key ys)
        → cond s (Some c) (binding_of key (xs ++ ys)) ≡ binding_of key ys
    go true h f = absurd (cc)
    go false h f = f h
binding-new key (Store by k u ∷ xs) ys h = binding-new key xs ys h

-- who isn't bound in a longer book isn't in a shorter one
pub unbound-before : (key : TopicKey) (xs ys : Book)
    → binding_of key (xs ++ ys) ≡ None → binding_of key xs ≡ None
unbound-before key xs ys h = go (binding_of key xs) refl
  where
    go : (o : Option Binding) → binding_of key xs ≡ o → binding_of key xs ≡ None
    go None e = e
    go (Some b) e = absurd (let stays = binding-stays key b xs ys e in cc)

-- an entry that binds nothing for the key leaves its binding
pub binding-skip : (key : TopicKey) (xs : Book) (e : BookEntry)
    → binding_of key (e ∷ []) ≡ None → binding_of key (xs ++ e ∷ []) ≡ binding_of key xs
binding-skip key xs e none = go (binding_of key xs) refl
  where
    go : (o : Option Binding) → binding_of key xs ≡ o → binding_of key (xs ++ e ∷ []) ≡ binding_of key xs
    go None h = binding-new key xs (e ∷ []) h ∙ (none ∙ sym h)
    go (Some b) h = binding-stays key b xs (e ∷ []) h ∙ sym h

-- the checkpoint over two lists is the greater of the two
pub checkpoint-append : (key : TopicKey) (xs ys : Book) (s : ℕ)
    → checkpoint key (xs ++ ys) s ≡ max (checkpoint key xs s) (checkpoint key ys s)
unfolding checkpoint
checkpoint-append key [] ys s = omega arith
checkpoint-append key (Bind by k c ∷ xs) ys s =
    go (same_key key k) (checkpoint key xs s) (checkpoint key (xs ++ ys) s) (checkpoint-append key xs ys s)
  where
    go : (b : Bool) (m n : ℕ) → n ≡ max m (checkpoint key ys s)
        → cond b (max (slice_index c.init s) n) n ≡ max (cond b (max (slice_index c.init s) m) m) (checkpoint key ys s)
    go true m n e = omega arith
    go false m n e = e
checkpoint-append key (Store by k u ∷ xs) ys s =
    go (same_key key k) (checkpoint key xs s) (checkpoint key (xs ++ ys) s) (checkpoint-append key xs ys s)
  where
    go : (b : Bool) (m n : ℕ) → n ≡ max m (checkpoint key ys s)
        → cond b (max (slice_index u s) n) n ≡ max (cond b (max (slice_index u s) m) m) (checkpoint key ys s)
    go true m n e = omega arith
    go false m n e = e

-- nothing was stored for who isn't bound
pub checkpoint-unbound : (key : TopicKey) (before xs : Book) (s : ℕ) → IsOrdered before xs
    → binding_of key (before ++ xs) ≡ None → checkpoint key xs s ≡ 0
unfolding checkpoint IsOrdered binding_of
checkpoint-unbound key before [] s f h = refl
checkpoint-unbound key before (Bind by k c ∷ xs) s f h =
    go (same_key key k) refl
    (checkpoint-unbound key (before ++ Bind by k c ∷ []) xs s f.1
    (ap (binding_of key) (append_assoc before (Bind by k c ∷ []) xs) ∙ h))
  where
    here : cond (same_key key k) (Some c) (binding_of key xs) ≡ None
    here = sym (binding-new key before (Bind by k c ∷ xs) (unbound-before key before (Bind by k c ∷ xs) h)) ∙ h

    go : (b : Bool) → same_key key k ≡ b → checkpoint key xs s ≡ 0
        → cond b (max (slice_index c.init s) (checkpoint key xs s)) (checkpoint key xs s) ≡ 0
    go true e z = absurd (let n = rw e at here in cc)
    go false e z = z
checkpoint-unbound key before (Store by k u ∷ xs) s f h =
    go (same_key key k) refl
    (checkpoint-unbound key (before ++ Store by k u ∷ []) xs s f.1
    (ap (binding_of key) (append_assoc before (Store by k u ∷ []) xs) ∙ h))
  where
    ahead : binding_of key before ≡ None
    ahead = unbound-before key before (Store by k u ∷ xs) h

    go : (b : Bool) → same_key key k ≡ b → checkpoint key xs s ≡ 0
        → cond b (max (slice_index u s) (checkpoint key xs s)) (checkpoint key xs s) ≡ 0
    go true e z =
        let at_k : binding_of k before ≡ None = subst (λ j. binding_of j before ≡ None) (same_key-is key k e) ahead in
        absurd (subst (λ o. IsOfTopic o u) at_k f.0)
    go false e z = z

-- an entry that may follow keeps a book in order
pub ordered-push : (before xs : Book) (e : BookEntry)
    → IsOrdered before xs → MayFollow (before ++ xs) e → IsOrdered before (xs ++ e ∷ [])
unfolding IsOrdered
ordered-push before [] e f m = (subst (λ b. MayFollow b e) (append-nil before) m, tt)
ordered-push before (x ∷ xs) e f m =
    (f.0, ordered-push (before ++ x ∷ []) xs e f.1 (subst (λ b. MayFollow b e) (sym (append_assoc before (x ∷ []) xs)) m))
