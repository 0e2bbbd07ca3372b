-- Tests of bindings and of what was sent.
use Rattle.std.proofs.Common.{◌≡◌, ℕ, ◌+◌, ◌<◌, ◌≤◌, ◌&&◌, Bool, true, false, not, cond, List, [], ◌∷◌, length, get_or, drop, Some, None, refl, sym, ap, subst, ◌∙◌, arith, ltb, Decides, inl, inr, ◌⊎◌, Result, IfOk}
use Rattle.std.proofs.lemmas.Bool.{false≢true}
use Rattle.std.proofs.lemmas.Bool.Decides.{Decides-at, Decides-ltb}
use Rattle.std.proofs.lemmas.List.{at_drop_more, at_drop_all}
use Rattle.std.specs.List.{AllByRecursion}
use Rattle.tuple_values.specs.Document.{ByteList, Doc}
use Rattle.tuple_values.specs.declared.memory.Memory.{Memory}
use Rattle.tuple_values.specs.declared.names.NameShards.{NameShards}
use Rattle.query_syntax.specs.Reading.{query_of}
use Rattle.query_syntax.specs.Meaning.{text_matches, may_match}
use Rattle.shard_versions.specs.Documents.{id_of}
use Rattle.shard_versions.specs.Histories.{History, current}
use Rattle.shard_versions.specs.Deliveries.{sents, Reaches, are_below, admits}
use Rattle.topic_book.specs.Books.{Book, same_key, binding_of}
use Rattle.topic_book.specs.declared.topic.TopicKey.{TopicKey}
use Rattle.topic_book.specs.declared.topic.Binding.{Binding}
use Rattle.topic_book.specs.declared.topic.BookEntry.{BookEntry}
use Rattle.topic_book.specs.declared.topic.BookEntry.TheVariants.{Bind, Store}
use Rattle.once_core.specs.Cells.{home_history}
use Rattle.once_core.specs.Law.{takes, IsSent, IsSentIfTaken, AreSent}
use Rattle.once_core.specs.declared.world.Histories.{Histories}

-- what one more entry binds comes before what those behind it bind
bound-first : (key : TopicKey) (e : BookEntry) (book : Book) (b : Binding) → Some b ≡ binding_of key (e ∷ [])
    → binding_of key (e ∷ book) ≡ Some b
unfolding binding_of
bound-first key (Bind by k bound) book b e = go (same_key key k) e
  where
    go : (s : Bool) → Some b ≡ cond s (Some bound) None → cond s (Some bound) (binding_of key book) ≡ Some b
    go true e = sym e
    go false e = absurd (cc)
bound-first key (Store by k u) book b e = absurd (cc)

bound-later : (key : TopicKey) (e : BookEntry) (book : Book) → None ≡ binding_of key (e ∷ [])
    → binding_of key (e ∷ book) ≡ binding_of key book
unfolding binding_of
bound-later key (Bind by k bound) book e = go (same_key key k) e
  where
    go : (s : Bool) → None ≡ cond s (Some bound) None → cond s (Some bound) (binding_of key book) ≡ binding_of key book
    go true e = absurd (cc)
    go false e = refl
bound-later key (Store by k u) book e = refl

module _ (key : TopicKey) (book : Book) (i : ℕ) (e : BookEntry) (lt : i < length book) (is : e ≡ get_or book i e) where
  rest-book : binding_of key (drop i book) ≡ binding_of key (e ∷ drop (i + 1) book)
  rest-book = at_drop_more (binding_of key) book i e lt ∙ ap (λ x. binding_of key (x ∷ drop (i + 1) book)) (sym is)

  -- the topic is bound here
  pub bound-here : (b : Binding) → Some b ≡ binding_of key (e ∷ []) → binding_of key (drop i book) ≡ Some b
  bound-here b s = rest-book ∙ bound-first key e (drop (i + 1) book) b s

  -- or later
  pub bound-on : None ≡ binding_of key (e ∷ []) → binding_of key (drop i book) ≡ binding_of key (drop (i + 1) book)
  bound-on n = rest-book ∙ bound-later key e (drop (i + 1) book) n

-- or nowhere
pub bound-end : (key : TopicKey) (book : Book) (i : ℕ) → length book ≤ i → binding_of key (drop i book) ≡ None
unfolding binding_of
bound-end key book i le = at_drop_all (binding_of key) book i le

-- a version is reached exactly where not all are below it
reaches-decides : (v : ℕ) (vs : List ℕ) → Decides (not (are_below v vs)) (Reaches v vs)
reaches-decides v [] = (λ e. absurd (false≢true e), λ r. absurd r)
reaches-decides v (x ∷ xs) = go (ltb x v) (Decides-ltb x v) (are_below v xs) (reaches-decides v xs)
  where
    go : (b : Bool) → Decides b (x < v) → (c : Bool) → Decides (not c) (Reaches v xs)
        → Decides (not (b && c)) ((v ≤ x) ⊎ Reaches v xs)
    go true d c more = (
      λ e. inr (more.0 e),
      λ s. elim s [ inl le ↦ (let below : x < v = d.0 refl in absurd (omega arith)) | inr r ↦ more.1 r ],
    )
    go false d c more = (λ e. inl (past x v d), λ s. refl)
      where
        past : (x v : ℕ) → Decides false (x < v) → v ≤ x
        past x v d = omega (arith, at x v d)
          where
            at : (x v : ℕ) → Decides false (x < v) → x < v → ⊥
            at x v d l = false≢true (d.1 l)

-- a document was sent exactly where its version isn't admitted any more
pub sent-decides : (names : List NameShards) (hs : Histories) (b : Binding) (dest : ByteList) (version : ℕ) (doc : Doc)
    (home : History) (src id : ByteList) (r : Bool) → id ≡ id_of doc → src ≡ b.src → home ≡ home_history names hs dest id
    → r ≡ admits home src id version → Decides (not r) (IsSent names hs b dest (version, doc))
unfolding admits
sent-decides names hs b dest version doc home src id r i s h e =
    let there : home ≡ home_history names hs dest (id_of doc) = h ∙ ap (home_history names hs dest) i in
    let same : sents src id home ≡ sents b.src (id_of doc) (home_history names hs dest (id_of doc)) =
    ap (λ x. sents x id home) s ∙ (ap (λ x. sents b.src x home) i ∙ ap (sents b.src (id_of doc)) there) in
    Decides-at (not r) (not (are_below version (sents b.src (id_of doc) (home_history names hs dest (id_of doc)))))
    (ap not (e ∙ ap (are_below version) same))
    (reaches-decides version (sents b.src (id_of doc) (home_history names hs dest (id_of doc))))

-- a query that was read decides what the topic takes
pub takes-some : (b : Binding) (doc : Doc) (text : ByteList) (m r : Bool) → text ≡ b.q → text_matches text doc ≡ m → r ≡ m
    → Decides r (takes b doc)
unfolding takes
takes-some b doc text m r t e f =
    let same : r ≡ text_matches b.q doc = f ∙ (sym e ∙ ap (λ x. text_matches x doc) t) in
    (λ is. sym same ∙ is, λ is. same ∙ is)

-- and one that can't be read takes nothing
pub takes-none : (b : Binding) (doc : Doc) (text : ByteList) → text ≡ b.q → query_of text ≡ None → Decides false (takes b doc)
unfolding takes text_matches
takes-none b doc text t e =
    let none : text_matches b.q doc ≡ false = ap (λ x. may_match (query_of x) doc) (sym t) ∙ ap (λ o. may_match o doc) e in
    (λ f. absurd (false≢true f), λ is. sym none ∙ is)

-- the answer for the documents that are shown is that for the history
pub sent-shown : (names : List NameShards) (hs : Histories) (b : Binding) (dest : ByteList) (h : History) (low high : ℕ)
    (shown : List (ℕ × Doc)) (r : Result Bool Memory) → shown ≡ current h
    → IfOk r (λ fine. Decides fine (AllByRecursion (IsSentIfTaken names hs b dest low high) shown))
    → IfOk r (λ fine. Decides fine (AreSent names hs b dest h low high))
unfolding AreSent
sent-shown names hs b dest h low high shown r e d =
    subst (λ (ps : List (ℕ × Doc)). IfOk r (λ fine. Decides fine (AllByRecursion (IsSentIfTaken names hs b dest low high) ps))) e d
