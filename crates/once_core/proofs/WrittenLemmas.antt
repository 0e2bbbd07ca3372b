-- What loops over a history's entries keep.
use Rattle.std.proofs.Common.{◌≡◌, ℕ, ◌+◌, ◌<◌, ◌≤◌, max, ◌&&◌, Bool, true, false, not, cond, nat_lt, List, [], ◌∷◌, ◌++◌, length, get_or, drop, refl, sym, ap, subst, ◌∙◌, arith, append_assoc}
use Rattle.std.proofs.lemmas.List.{at_drop_more, at_drop_all, append-nil}
use Rattle.tuple_values.specs.Document.{ByteList, Doc}
use Rattle.shard_versions.specs.Documents.{id_of}
use Rattle.shard_versions.specs.declared.entry.Kind.TheVariants.{Sent}
use Rattle.shard_versions.specs.declared.entry.Kind.{Kind}
use Rattle.shard_versions.specs.declared.entry.Entry.{Entry}
use Rattle.shard_versions.specs.Histories.{History}
use Rattle.shard_versions.specs.Deliveries.{are_below, sent_version, sents, admits, admits_kind, admitted}
use Rattle.shard_versions.proofs.DeliveryLemmas.{sents-append}
use Rattle.topic_book.specs.declared.topic.TopicKey.{TopicKey}
use Rattle.topic_book.specs.declared.topic.BookEntry.{BookEntry}
use Rattle.topic_book.specs.Books.{Book, checkpoint}
use Rattle.topic_book.proofs.BookLemmas.{checkpoint-append}

-- versions are below one where those of both lists are
pub are_below-append : (v : ℕ) (xs ys : List ℕ) → are_below v (xs ++ ys) ≡ (are_below v xs && are_below v ys)
are_below-append v [] ys = refl
are_below-append v (x ∷ xs) ys = ap (λ b. nat_lt x v && b) (are_below-append v xs ys) ∙ go (nat_lt x v)
  where
    go : (a : Bool) → (a && (are_below v xs && are_below v ys)) ≡ ((a && are_below v xs) && are_below v ys)
    go true = refl
    go false = refl

-- two histories admit what both do
pub admits-append : (h e : History) (src id : ByteList) (v : ℕ) → admits (h ++ e) src id v ≡ (admits h src id v && admits e src id v)
unfolding admits
admits-append h e src id v = ap (are_below v) (sents-append src id h e) ∙ are_below-append v (sents src id h) (sents src id e)

-- the entries from a place on admit what the one there and the rest do
pub admits-drop : (h : History) (k : ℕ) (d : Entry) (src id : ByteList) (v : ℕ) → k < length h
    → admits (drop k h) src id v ≡ (are_below v (sent_version src id (get_or h k d).kind) && admits (drop (k + 1) h) src id v)
unfolding admits sents
admits-drop h k d src id v lt =
    at_drop_more (λ r. are_below v (sents src id r)) h k d lt
    ∙ are_below-append v (sent_version src id (get_or h k d).kind) (sents src id (drop (k + 1) h))

-- where the entry at a place reaches the version, the entries don't admit it
pub admits_fails : (h : History) (k : ℕ) (e : Entry) (src id : ByteList) (v : ℕ) (r : Bool) → k < length h → e ≡ get_or h k e
    → admits h src id v ≡ admits (drop k h) src id v → r ≡ not (are_below v (sent_version src id e.kind)) → r ≡ true
    → false ≡ admits h src id v
admits_fails h k e src id v r lt is inv test yes' =
    let below : are_below v (sent_version src id (get_or h k e).kind) ≡ false =
    subst (λ (x : Entry). are_below v (sent_version src id x.kind) ≡ false) is (off (are_below v (sent_version src id e.kind)) (sym test ∙ yes')) in
    sym (inv ∙ admits-drop h k e src id v lt ∙ ap (λ b. b && admits (drop (k + 1) h) src id v) below)
  where
    off : (b : Bool) → not b ≡ true → b ≡ false
    off true e = absurd (cc)
    off false e = refl

-- where it doesn't, those behind it decide
pub admits_goes : (h : History) (k : ℕ) (e : Entry) (src id : ByteList) (v : ℕ) (r : Bool) → k < length h → e ≡ get_or h k e
    → admits h src id v ≡ admits (drop k h) src id v → r ≡ not (are_below v (sent_version src id e.kind)) → r ≡ false
    → admits h src id v ≡ admits (drop (k + 1) h) src id v
admits_goes h k e src id v r lt is inv test none =
    let below : are_below v (sent_version src id (get_or h k e).kind) ≡ true =
    subst (λ (x : Entry). are_below v (sent_version src id x.kind) ≡ true) is (on (are_below v (sent_version src id e.kind)) (sym test ∙ none)) in
    inv ∙ admits-drop h k e src id v lt ∙ ap (λ b. b && admits (drop (k + 1) h) src id v) below
  where
    on : (b : Bool) → not b ≡ false → b ≡ true
    on true e = refl
    on false e = absurd (cc)

-- no entry reaches what no entry is there to reach
pub admits_all : (h : History) (k : ℕ) (src id : ByteList) (v : ℕ) → length h ≤ k
    → admits h src id v ≡ admits (drop k h) src id v → true ≡ admits h src id v
unfolding admits sents
admits_all h k src id v le inv = sym (inv ∙ at_drop_all (λ r. are_below v (sents src id r)) h k le)

-- the items from a place on: the one there is kept where it is admitted
admitted-drop : (h kept step : List Entry) (k : ℕ) (e : Entry) → k < length step → e ≡ get_or step k e
    → kept ++ admitted (h ++ kept) (drop k step)
    ≡ kept ++ cond (admits_kind (h ++ kept) e.kind) (e ∷ admitted ((h ++ kept) ++ e ∷ []) (drop (k + 1) step)) (admitted (h ++ kept) (drop (k + 1) step))
unfolding admitted
admitted-drop h kept step k e lt is =
    at_drop_more (λ r. kept ++ admitted (h ++ kept) r) step k e lt
    ∙ ap (λ (x : Entry). kept ++ admitted (h ++ kept) (x ∷ drop (k + 1) step)) (sym is)

-- an item that is admitted is kept
pub admitted_more : (h kept step : List Entry) (k : ℕ) (e : Entry) → k < length step → e ≡ get_or step k e
    → admitted h step ≡ kept ++ admitted (h ++ kept) (drop k step) → admits_kind (h ++ kept) e.kind ≡ true
    → admitted h step ≡ (kept ++ e ∷ []) ++ admitted (h ++ (kept ++ e ∷ [])) (drop (k + 1) step)
admitted_more h kept step k e lt is inv test =
    let rest : List Entry = drop (k + 1) step in
    inv ∙ admitted-drop h kept step k e lt is
    ∙ ap (λ b. kept ++ cond b (e ∷ admitted ((h ++ kept) ++ e ∷ []) rest) (admitted (h ++ kept) rest)) test
    ∙ ap (λ l. kept ++ e ∷ admitted l rest) (append_assoc h kept (e ∷ []))
    ∙ sym (append_assoc kept (e ∷ []) (admitted (h ++ (kept ++ e ∷ [])) rest))

-- one that isn't is passed over
pub admitted_less : (h kept step : List Entry) (k : ℕ) (e : Entry) → k < length step → e ≡ get_or step k e
    → admitted h step ≡ kept ++ admitted (h ++ kept) (drop k step) → admits_kind (h ++ kept) e.kind ≡ false
    → admitted h step ≡ kept ++ admitted (h ++ kept) (drop (k + 1) step)
admitted_less h kept step k e lt is inv test =
    let rest : List Entry = drop (k + 1) step in
    inv ∙ admitted-drop h kept step k e lt is
    ∙ ap (λ b. kept ++ cond b (e ∷ admitted ((h ++ kept) ++ e ∷ []) rest) (admitted (h ++ kept) rest)) test

-- at the start nothing is kept
pub admitted_none : (h step : List Entry) → admitted h step ≡ [] ++ admitted (h ++ []) (drop 0 step)
admitted_none h step = ap (λ l. admitted l step) (sym (append-nil h))

-- at the end all are
pub admitted_all : (h kept step : List Entry) (k : ℕ) → length step ≤ k
    → admitted h step ≡ kept ++ admitted (h ++ kept) (drop k step) → kept ≡ admitted h step
unfolding admitted
admitted_all h kept step k le inv =
    sym (inv ∙ at_drop_all (λ r. kept ++ admitted (h ++ kept) r) step k le ∙ append-nil kept)

-- equal names name the same
pub admits_named : (h : History) (src src' id id' : ByteList) (v : ℕ) (r : Bool) → src' ≡ src → id' ≡ id
    → r ≡ admits h src' id' v → r ≡ admits h src id v
admits_named h src src' id id' v r es ei e =
    e ∙ ap (λ (s : ByteList). admits h s id' v) es ∙ ap (λ (i : ByteList). admits h src i v) ei

-- a delivery is admitted where both histories admit its version
pub admits_two : (h e : History) (src : ByteList) (v : ℕ) (doc : Doc) (kind : Kind) (a b : Bool) → kind ≡ Sent src v doc
    → a ≡ admits h src (id_of doc) v → b ≡ admits e src (id_of doc) v → (a && b) ≡ admits_kind (h ++ e) kind
admits_two h e src v doc kind a b is ha hb =
    ap (λ x. x && b) ha ∙ ap (λ x. admits h src (id_of doc) v && x) hb
    ∙ sym (admits-append h e src (id_of doc) v) ∙ ap (admits_kind (h ++ e)) (sym is)

-- one entry more: the greater of what it stores and of the rest
pub checkpoint_more : (key : TopicKey) (entries : Book) (shard k : ℕ) (e : BookEntry) (g new : ℕ) → k < length entries → e ≡ get_or entries k e
    → checkpoint key entries shard ≡ max g (checkpoint key (drop k entries) shard) → new ≡ max g (checkpoint key (e ∷ []) shard)
    → checkpoint key entries shard ≡ max new (checkpoint key (drop (k + 1) entries) shard)
checkpoint_more key entries shard k e g new lt is inv put =
    let here : checkpoint key (drop k entries) shard ≡ checkpoint key (e ∷ drop (k + 1) entries) shard =
    at_drop_more (λ r. checkpoint key r shard) entries k e lt ∙ ap (λ (x : BookEntry). checkpoint key (x ∷ drop (k + 1) entries) shard) (sym is) in
    omega (arith, inv, here, checkpoint-append key (e ∷ []) (drop (k + 1) entries) shard, put)

-- at the end nothing is to come
pub checkpoint_all : (key : TopicKey) (entries : Book) (shard k g : ℕ) → length entries ≤ k
    → checkpoint key entries shard ≡ max g (checkpoint key (drop k entries) shard) → g ≡ checkpoint key entries shard
unfolding checkpoint
checkpoint_all key entries shard k g le inv =
    let none : checkpoint key (drop k entries) shard ≡ 0 = at_drop_all (λ r. checkpoint key r shard) entries k le in
    omega (arith, inv, none)
