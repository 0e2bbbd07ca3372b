-- The checkpoints of topics after one more entry, and what queries take.
use Rattle.std.proofs.Common.{◌≡◌, ℕ, ◌+◌, ◌<◌, ◌≤◌, ◌&&◌, max, Bool, true, false, cond, ltb, eqb, List, [], ◌∷◌, ◌++◌, length, Option, Some, None, unwrap_or, refl, sym, ap, ◌∙◌, arith, bytes_eq, slice_index}
use Rattle.std.proofs.lemmas.Bool.{eqb-true, lt-ltb, ltb-true}
use Rattle.std.proofs.lemmas.Bool.Decides.{nat_tests}
use Rattle.std.proofs.lemmas.Cmp.{nat_list_eq_equiv}
use Rattle.std.proofs.lemmas.List.{get_or_past}
use Rattle.tuple_values.specs.Document.{ByteList, Doc}
use Rattle.query_syntax.specs.Meaning.{text_matches, may_match}
use Rattle.query_syntax.specs.Reading.{query_of}
use Rattle.shard_versions.specs.Indexes.{greater}
use Rattle.topic_book.specs.Books.{Book, same_key, checkpoint}
use Rattle.topic_book.specs.declared.topic.TopicKey.{TopicKey}
use Rattle.topic_book.specs.declared.topic.Binding.{Binding}
use Rattle.topic_book.specs.declared.topic.BookEntry.{BookEntry}
use Rattle.topic_book.specs.declared.topic.BookEntry.TheVariants.{Bind, Store}
use Rattle.topic_book.proofs.BookLemmas.{checkpoint-append}
use Rattle.law_checks.specs.Numbers.{number_at, same_place}
use Rattle.law_checks.specs.Topics.{stored_at, AreCheckpoints}
use Rattle.law_checks.specs.declared.greatest.Greatest.{Greatest}

-- the number of a topic at a shard, with the first so many of these numbers
abbrev pub stored_with : TopicKey → List ℕ → ℕ → Greatest → TopicKey → ℕ → ℕ
stored_with key upto count old other shard =
    cond (same_key other key && ltb shard count) (max (slice_index upto shard) (stored_at old other shard)) (stored_at old other shard)

-- none so far
pub stored-begins : (key : TopicKey) (upto : List ℕ) (old : Greatest) (other : TopicKey) (shard : ℕ)
    → stored_at old other shard ≡ stored_with key upto 0 old other shard
stored-begins key upto old other shard = go (same_key other key) (ltb shard 0) (let e : ltb shard 0 ≡ false = grind (arith, nat_tests) in e)
  where
    go : (k b : Bool) → b ≡ false
        → stored_at old other shard ≡ cond (k && b) (max (slice_index upto shard) (stored_at old other shard)) (stored_at old other shard)
    go true b e = sym (rw e refl)
    go false b e = refl

-- one more
pub stored-more : (key : TopicKey) (upto : List ℕ) (old now new : Greatest) (cp i : ByteList) (at v : ℕ) → cp ≡ key.checkpoints → i ≡ key.id
    → v ≡ slice_index upto at
    → ((a b : ByteList) (n : ℕ) → number_at new a b n ≡ cond (same_place cp i at a b n) (greater v (number_at now a b n)) (number_at now a b n))
    → ((other : TopicKey) (shard : ℕ) → stored_at now other shard ≡ stored_with key upto at old other shard)
    → (other : TopicKey) (shard : ℕ) → stored_at new other shard ≡ stored_with key upto (at + 1) old other shard
stored-more key upto old now new cp i at v c d is up before other shard =
    ap (λ o. unwrap_or o 0) (up other.checkpoints other.id shard)
    ∙ (picked (same_place cp i at other.checkpoints other.id shard) (number_at now other.checkpoints other.id shard)
    ∙ (ap (λ b. cond b (max v (stored_at now other shard)) (stored_at now other shard)) tested
    ∙ (ap (λ x. cond (same_key other key && eqb at shard) (max v x) x) (before other shard)
    ∙ go (same_key other key) (eqb at shard) refl (ltb shard at) refl (ltb shard (at + 1)) refl)))
  where
    x : ℕ
    x = stored_at old other shard

    picked : (b : Bool) (o : Option ℕ) → unwrap_or (cond b (greater v o) o) 0 ≡ cond b (max v (unwrap_or o 0)) (unwrap_or o 0)
    picked true None = let e : v ≡ max v 0 = omega arith in e
    picked true (Some w) = refl
    picked false o = refl

    tested : same_place cp i at other.checkpoints other.id shard ≡ (same_key other key && eqb at shard)
    tested =
        ap (λ b. (b && bytes_eq i other.id) && eqb at shard)
        (nat_list_eq_equiv.symm cp other.checkpoints ∙ ap (bytes_eq other.checkpoints) c)
        ∙ ap (λ b. (bytes_eq other.checkpoints key.checkpoints && b) && eqb at shard)
        (nat_list_eq_equiv.symm i other.id ∙ ap (bytes_eq other.id) d)

    low : eqb at shard ≡ true → ltb shard at ≡ true → ⊥
    low e l = let s : at ≡ shard = eqb-true at shard e in let t : shard < at = ltb-true shard at l in omega arith

    high : eqb at shard ≡ true → ltb shard (at + 1) ≡ true
    high e = let s : at ≡ shard = eqb-true at shard e in lt-ltb shard (at + 1) (omega arith)

    same : eqb at shard ≡ false → ltb shard (at + 1) ≡ ltb shard at
    same e = grind (arith, nat_tests)

    go : (k e : Bool) → eqb at shard ≡ e → (l : Bool) → ltb shard at ≡ l → (m : Bool) → ltb shard (at + 1) ≡ m
        → cond (k && e) (max v (cond (k && l) (max (slice_index upto shard) x) x)) (cond (k && l) (max (slice_index upto shard) x) x)
        ≡ cond (k && m) (max (slice_index upto shard) x) x
    go false e p l q m r = refl
    go true true p true q m r = absurd (low p q)
    go true true p false q true r = ap (λ n. max n x) (is ∙ ap (slice_index upto) (eqb-true at shard p))
    go true true p false q false r = absurd (let h : ltb shard (at + 1) ≡ true = high p in cc)
    go true false p l q m r = ap (λ b. cond b (max (slice_index upto shard) x) x) (sym q ∙ (sym (same p) ∙ r))

-- all
pub stored-ends : (key : TopicKey) (upto : List ℕ) (old : Greatest) (other : TopicKey) (shard at n : ℕ) → length upto ≤ at
    → n ≡ stored_with key upto at old other shard
    → n ≡ cond (same_key other key) (max (slice_index upto shard) (stored_at old other shard)) (stored_at old other shard)
stored-ends key upto old other shard at n le e = e ∙ go (same_key other key) (ltb shard at) refl
  where
    x : ℕ
    x = stored_at old other shard

    past : ltb shard at ≡ false → length upto ≤ shard
    past f = grind (arith, nat_tests)

    none : ltb shard at ≡ false → x ≡ max (slice_index upto shard) x
    none f = let z : slice_index upto shard ≡ 0 = get_or_past upto shard 0 (past f) in omega arith

    go : (k l : Bool) → ltb shard at ≡ l → cond (k && l) (max (slice_index upto shard) x) x ≡ cond k (max (slice_index upto shard) x) x
    go true true f = refl
    go true false f = none f
    go false l f = refl

module _ (old new : Greatest) (book : Book) (are : AreCheckpoints old book) where
  -- the checkpoints with one more entry
  with-entry : (key : TopicKey) (upto : List ℕ) (e : BookEntry)
      → ((other : TopicKey) (shard : ℕ) → checkpoint other (e ∷ []) shard ≡ cond (same_key other key) (max (slice_index upto shard) 0) 0)
      → ((other : TopicKey) (shard : ℕ) → stored_at new other shard
      ≡ cond (same_key other key) (max (slice_index upto shard) (stored_at old other shard)) (stored_at old other shard))
      → AreCheckpoints new (book ++ e ∷ [])
  with-entry key upto e one up other shard =
      up other shard
      ∙ (ap (λ x. cond (same_key other key) (max (slice_index upto shard) x) x) (are other shard)
      ∙ (go (same_key other key) ∙ sym (checkpoint-append other book (e ∷ []) shard ∙ ap (max (checkpoint other book shard)) (one other shard))))
    where
      go : (b : Bool) → cond b (max (slice_index upto shard) (checkpoint other book shard)) (checkpoint other book shard)
          ≡ max (checkpoint other book shard) (cond b (max (slice_index upto shard) 0) 0)
      go true = omega arith
      go false = omega arith

  pub with-bind : (e : BookEntry) (by : ℕ) (key : TopicKey) (b : Binding) (upto : List ℕ) → e ≡ Bind by key b → upto ≡ b.init
      → ((other : TopicKey) (shard : ℕ) → stored_at new other shard
      ≡ cond (same_key other key) (max (slice_index upto shard) (stored_at old other shard)) (stored_at old other shard))
      → AreCheckpoints new (book ++ e ∷ [])
  unfolding checkpoint
  with-bind e by key b upto is init up =
      with-entry key upto e
      (λ other shard. ap (λ x. checkpoint other (x ∷ []) shard) is
      ∙ ap (λ u. cond (same_key other key) (max (slice_index u shard) 0) 0) (sym init)) up

  pub with-store : (e : BookEntry) (by : ℕ) (key : TopicKey) (stored upto : List ℕ) → e ≡ Store by key stored → upto ≡ stored
      → ((other : TopicKey) (shard : ℕ) → stored_at new other shard
      ≡ cond (same_key other key) (max (slice_index upto shard) (stored_at old other shard)) (stored_at old other shard))
      → AreCheckpoints new (book ++ e ∷ [])
  unfolding checkpoint
  with-store e by key stored upto is init up =
      with-entry key upto e
      (λ other shard. ap (λ x. checkpoint other (x ∷ []) shard) is
      ∙ ap (λ u. cond (same_key other key) (max (slice_index u shard) 0) 0) (sym init)) up

-- no entry stores nothing
pub checkpoints-begin : (g : Greatest) → ((a b : ByteList) (n : ℕ) → number_at g a b n ≡ None) → AreCheckpoints g []
unfolding checkpoint
checkpoints-begin g none = λ key shard. ap (λ o. unwrap_or o 0) (none key.checkpoints key.id shard)

-- a text that is no query takes nothing
pub none-taken : (text : ByteList) (doc : Doc) → query_of text ≡ None → text_matches text doc ≡ false
unfolding text_matches
none-taken text doc e = ap (λ o. may_match o doc) e
