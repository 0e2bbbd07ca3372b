-- The tally of the destination of a load.
use Rattle.std.proofs.Common.{◌≡◌, ◌≢◌, inl, inr, ℕ, zero, suc, ◌+◌, ◌-◌, ◌%◌, ◌^◌, ◌<◌, ◌≤◌, ◌==◌, Bool, true, false, cond, codes, List, [], ◌∷◌, ◌++◌, length, map, sum_by, count_by, refl, sym, ap, subst, ◌∙◌, arith, eqb-true, eq-eqb, Contains, decimal}
use Rattle.std.specs.List.{AllByRecursion}
use Rattle.std.specs.Str.Parse.{digits_value}
use Rattle.std.proofs.lemmas.List.Elements.{Contains-append_left, Contains-append_right}
use Rattle.std.proofs.lemmas.List.Sums.{sum_by-cons, sum_by-append}
use Rattle.tuple_values.specs.Document.{Doc}
use Rattle.tuple_values.specs.Keys.{shard_of}
use Rattle.shard_versions.specs.Documents.{id_of}
use Rattle.shard_versions.specs.Histories.{current}
use Rattle.shard_versions.proofs.ListLemmas.{each_append, each_weaker}
use Rattle.topic_book.specs.Books.{checkpoint}
use Rattle.once_core.specs.declared.world.Histories.{Histories}
use Rattle.once_core.specs.Cells.{shard_history}
use Rattle.load_rules.specs.Documents.{amount_of, below, is_even, revision_of}
use Rattle.load_rules.specs.Summary.{counted, is_taken, number_in, taken_of, tally_in, tally_of}
use Rattle.load_rules.specs.Topic.{dest_name, load_key, load_names, src_name}
use Rattle.load_rules.specs.Loaded.{IsLoaded}
use Rattle.load_laws.proofs.Facts.{IsSource}
use Rattle.load_laws.proofs.CountingLemmas.{AreApart, apart-filter, below-apart, below-Contains, contained-each, Contains-below, Contains-cases, Contains-filter, Contains-first, Contains-rest, filter-Contains, number-decimal, same-sum}
use Rattle.load_laws.proofs.SentLemmas.{AreIdsApart, IsReadOf, current_apart}
use Rattle.load_laws.proofs.DestLemmas.{AreSources, IsDestCurrent, dest_current, dest_there}

-- functions that agree have the same sums
sum_agree : (f g : ℕ → ℕ) → ((i : ℕ) → f i ≡ g i) → (xs : List ℕ) → sum_by f xs ≡ sum_by g xs
sum_agree f g e [] = refl
sum_agree f g e (x ∷ xs) =
    omega (arith, sum_by-cons f x xs, sum_by-cons g x xs, e x, sum_agree f g e xs)

-- a list has as many items as ones sum up to
length_sum : {X : Type 0} (xs : List X) → length xs ≡ sum_by (λ (x : X). 1) xs
length_sum [] = refl
length_sum {X} (x ∷ xs) = omega (arith, sum_by-cons (λ (y : X). 1) x xs, length_sum xs)

-- the last revision of a document is 1 where its number is even, and else 0
revision_counts : (i : ℕ) → revision_of i ≡ cond (is_even i) 1 0
revision_counts i = go (i % 2 == 0) refl
  where
    go : (b : Bool) → (i % 2 == 0) ≡ b → 1 - i % 2 ≡ cond b 1 0
    go true t = omega (arith, eqb-true (i % 2) 0 t)
    go false t =
        let odd : i % 2 ≢ 0 = λ e. let k : true ≡ false = sym (eq-eqb (i % 2) 0 e) ∙ t in cc in
        omega (arith, odd)

-- the number that a document's id writes
abbrev number_at : ℕ × Doc → ℕ
number_at p = digits_value 10 (id_of p.1)

-- a sum over documents, by their numbers
sum_numbers : (f : ℕ × Doc → ℕ) (g : ℕ → ℕ) (ps : List (ℕ × Doc))
    → AllByRecursion (λ p. f p ≡ g (number_at p)) ps
    → sum_by f ps ≡ sum_by g (map number_at ps)
sum_numbers f g [] a = refl
sum_numbers f g (p ∷ ps) a =
    omega (
      arith,
      sum_by-cons f p ps,
      sum_by-cons g (number_at p)
          (map number_at ps),
      a.0,
      sum_numbers f g ps a.1,
    )

-- the number of a document is among those of all
number_contained : (ps : List (ℕ × Doc)) (p : ℕ × Doc) → Contains ps p
    → Contains (map number_at ps) (number_at p)
number_contained [] p c = absurd (omega (arith, c.1))
number_contained (q ∷ ps) p c =
    elim (Contains-cases q p ps c) [
      | inl e ↦ subst (λ x. Contains (map number_at (q ∷ ps)) (number_at x)) e (Contains-first
          (number_at q) (map number_at ps))
      | inr d ↦ Contains-rest (number_at q) (number_at p) (map number_at ps)
          (number_contained ps p d)
    ]

-- a current document of a shard of the destination from this one on
record IsDestFrom (n low : ℕ) (p : ℕ × Doc) : Type 0 where
  shard : ℕ
  from : low ≤ shard
  here : IsDestCurrent n shard p

-- the number of such a document
number_is : (n low : ℕ) (p : ℕ × Doc) → n < 2 ^ 64 → (d : IsDestFrom n low p)
    → number_at p ≡ d.here.number
number_is n low p few d =
    ap (digits_value 10) d.here.id ∙ number-decimal d.here.number (omega
    (arith, few, d.here.within))

-- documents that have other ids have other numbers
numbers_apart : (n low : ℕ) → n < 2 ^ 64 → (ps : List (ℕ × Doc))
    → AllByRecursion (IsDestFrom n low) ps → AreIdsApart ps
    → AreApart (map number_at ps)
numbers_apart n low few [] d a = tt
numbers_apart n low few (p ∷ ps) d a = (each ps d.1 a.0, numbers_apart n low few ps d.1 a.1)
  where
    each : (qs : List (ℕ × Doc)) → AllByRecursion (IsDestFrom n low) qs
        → AllByRecursion (λ q. id_of p.1 ≢ id_of q.1) qs
        → AllByRecursion (λ y. y ≢ number_at p) (map number_at qs)
    each [] e b = tt
    each (q ∷ qs) e b = (
      λ same.
          let number : d.0.here.number ≡ e.0.here.number =
          sym (number_is n low p few d.0) ∙ (sym same ∙ number_is n low q few e.0) in
          b.0 (d.0.here.id ∙ (ap decimal number ∙ sym e.0.here.id)),
      each qs e.1 b.1,
    )

-- their numbers are of documents that the topic takes
numbers_taken : (n low : ℕ) → n < 2 ^ 64 → (ps : List (ℕ × Doc))
    → AllByRecursion (IsDestFrom n low) ps
    → AllByRecursion (Contains (taken_of n)) (map number_at ps)
numbers_taken n low few [] d = tt
numbers_taken n low few (p ∷ ps) d = (
  subst (Contains (taken_of n)) (sym (number_is n low p few d.0))
      (filter-Contains is_taken (below n) d.0.here.number
      (below-Contains n d.0.here.number d.0.here.within) d.0.here.taken),
  numbers_taken n low few ps d.1,
)

-- the current documents of so many shards of the destination from this one on
abbrev currents : Histories → (low count : ℕ) → List (ℕ × Doc)
currents hs low zero = []
currents hs low (suc count) = current (shard_history load_names hs dest_name low) ++ currents hs
    (low + 1) count

-- ids of a shard and of later ones are apart
apart_append : (n low : ℕ) (ps qs : List (ℕ × Doc)) → AllByRecursion (IsDestCurrent n low) ps
    → AreIdsApart ps
    → AllByRecursion (IsDestFrom n (low + 1)) qs → AreIdsApart qs → AreIdsApart (ps ++ qs)
apart_append n low [] qs d a e b = b
apart_append n low (p ∷ ps) qs d a e b = (
  each_append (λ q. id_of p.1 ≢ id_of q.1) ps qs a.0 (each qs e),
  apart_append n low ps qs d.1 a.1 e b,
)
  where
    each : (qs : List (ℕ × Doc)) → AllByRecursion (IsDestFrom n (low + 1)) qs
        → AllByRecursion (λ q. id_of p.1 ≢ id_of q.1) qs
    each [] e = tt
    each (q ∷ qs) e = (
      λ same.
          let shards : low ≡ e.0.shard =
          sym d.0.routed ∙ (ap (shard_of 4) (sym d.0.id ∙ (same ∙ e.0.here.id))
          ∙ e.0.here.routed) in
          absurd (omega (arith, shards, e.0.from)),
      each qs e.1,
    )

module _ (n : ℕ) (hs : Histories) (l : IsLoaded n hs) (sources : AreSources n hs) where
  -- each of these documents is such a one
  currents_dest : (low count : ℕ) → low + count ≤ 4
      → AllByRecursion (IsDestFrom n low) (currents hs low count)
  currents_dest low zero le = tt
  currents_dest low (suc count) le =
      each_append (IsDestFrom n low) (current (shard_history load_names hs dest_name low))
      (currents hs (low + 1) count)
      (each_weaker (IsDestCurrent n low) (IsDestFrom n low)
      (λ p d. record { shard = low; from = omega arith; here = d })
      (current (shard_history load_names hs dest_name low)) (dest_current n hs l sources low
      (omega arith)))
      (each_weaker (IsDestFrom n (low + 1)) (IsDestFrom n low)
      (λ p d. record { shard = d.shard; from = omega (arith, d.from); here = d.here })
      (currents hs (low + 1) count) (currents_dest (low + 1) count (omega arith)))

  -- and their ids are apart
  currents_apart : (low count : ℕ) → low + count ≤ 4 → AreIdsApart (currents hs low count)
  currents_apart low zero le = tt
  currents_apart low (suc count) le =
      apart_append n low (current (shard_history load_names hs dest_name low)) (currents hs
      (low + 1) count)
      (dest_current n hs l sources low (omega arith)) (current_apart
      (shard_history load_names hs dest_name low))
      (currents_dest (low + 1) count (omega arith)) (currents_apart (low + 1) count (omega arith))

  -- each document of the load that the topic takes is among them, where its shard is
  currents_there : (low count : ℕ) → low + count ≤ 4 → (i : ℕ) → i < n → is_taken i ≡ true
      → low ≤ shard_of 4 (decimal i) → shard_of 4 (decimal i) < low + count
      → IsReadOf (decimal i) (currents hs low count)
  currents_there low zero le i lt taken from to = absurd (omega (arith, from, to))
  currents_there low (suc count) le i lt taken from to =
      go (shard_of 4 (decimal i) == low) refl (λ above. currents_there (low + 1) count
      (omega arith) i lt taken above (omega (arith, to)))
    where
      first : List (ℕ × Doc)
      first = current (shard_history load_names hs dest_name low)

      rest : List (ℕ × Doc)
      rest = currents hs (low + 1) count

      go : (b : Bool) → (shard_of 4 (decimal i) == low) ≡ b
          → (low + 1 ≤ shard_of 4 (decimal i) → IsReadOf (decimal i) (currents hs (low + 1) count))
          → IsReadOf (decimal i) (currents hs low (suc count))
      go true t more =
          let r = dest_there n hs l sources low (omega arith) i lt taken (eqb-true (shard_of 4
          (decimal i)) low t) in
          record {
            pair = r.pair;
            there = Contains-append_left first rest r.pair r.there;
            same_id = r.same_id;
          }
      go false t more =
          let other : shard_of 4 (decimal i) ≢ low =
          λ e. let k : true ≡ false = sym (eq-eqb (shard_of 4 (decimal i)) low e) ∙ t in cc in
          let r = more (omega (arith, other, from)) in
          record {
            pair = r.pair;
            there = Contains-append_right first rest r.pair r.there;
            same_id = r.same_id;
          }

  -- a sum over their numbers is that over the numbers of the documents that the topic takes
  sum_taken : (g : ℕ → ℕ) → sum_by g (map number_at (currents hs 0 4)) ≡ sum_by g (taken_of n)
  sum_taken g =
      same-sum g (map number_at (currents hs 0 4)) (taken_of n)
      (numbers_apart n 0 l.few (currents hs 0 4) (currents_dest 0 4 (omega arith))
      (currents_apart 0 4 (omega arith)))
      (apart-filter is_taken (below n) (below-apart n))
      (λ i c. contained-each (Contains (taken_of n)) (map number_at (currents hs 0 4)) i
      (numbers_taken n 0 l.few (currents hs 0 4) (currents_dest 0 4 (omega arith))) c)
      (λ i c. from i (Contains-filter is_taken (below n) i c))
    where
      from : (i : ℕ) → Contains (below n) i × (is_taken i ≡ true)
          → Contains (map number_at (currents hs 0 4)) i
      from i b =
          let lt : i < n = Contains-below n i b.0 in
          let r = currents_there 0 4 (omega arith) i lt b.1 (omega arith) (omega arith) in
          let number : number_at r.pair ≡ i =
          ap (digits_value 10) r.same_id ∙ number-decimal i (omega (arith, lt, l.few)) in
          subst (Contains (map number_at (currents hs 0 4))) number (number_contained
          (currents hs 0 4) r.pair r.there)

  -- a sum over them is that of their four shards
  sum_shards : (f : ℕ × Doc → ℕ)
      → (sum_by f (current (shard_history load_names hs dest_name 0)) + sum_by f (current
      (shard_history load_names hs dest_name 1)))
      + (sum_by f (current (shard_history load_names hs dest_name 2)) + sum_by f (current
      (shard_history load_names hs dest_name 3)))
      ≡ sum_by f (currents hs 0 4)
  sum_shards f =
      go (current (shard_history load_names hs dest_name 0)) (current
      (shard_history load_names hs dest_name 1))
      (current (shard_history load_names hs dest_name 2)) (current
      (shard_history load_names hs dest_name 3))
    where
      go : (a b c d : List (ℕ × Doc)) → (sum_by f a + sum_by f b) + (sum_by f c + sum_by f d)
          ≡ sum_by f (a ++ (b ++ (c ++ (d ++ []))))
      go a b c d =
          omega (
            arith,
            sum_by-append f a (b ++ (c ++ (d ++ []))),
            sum_by-append f b (c ++ (d ++ [])),
            sum_by-append f c (d ++ []),
            sum_by-append f d [],
          )

  -- so a sum over the current documents is one over the numbers of the documents that the topic
  -- takes
  total : (f : ℕ × Doc → ℕ) (g : ℕ → ℕ) → ((p : ℕ × Doc) → IsDestFrom n 0 p → f p ≡ g (number_at p))
      → (sum_by f (current (shard_history load_names hs dest_name 0)) + sum_by f (current
      (shard_history load_names hs dest_name 1)))
      + (sum_by f (current (shard_history load_names hs dest_name 2)) + sum_by f (current
      (shard_history load_names hs dest_name 3)))
      ≡ sum_by g (taken_of n)
  total f g same =
      sum_shards f
      ∙ (sum_numbers f g (currents hs 0 4)
      (each_weaker (IsDestFrom n 0) (λ p. f p ≡ g (number_at p)) same (currents hs 0 4)
      (currents_dest 0 4 (omega arith)))
      ∙ sum_taken g)

  -- there are as many of them
  documents_are : (length (current (shard_history load_names hs dest_name 0)) + length (current
      (shard_history load_names hs dest_name 1)))
      + (length (current (shard_history load_names hs dest_name 2)) + length (current
      (shard_history load_names hs dest_name 3)))
      ≡ length (taken_of n)
  documents_are =
      go (current (shard_history load_names hs dest_name 0)) (current
      (shard_history load_names hs dest_name 1))
      (current (shard_history load_names hs dest_name 2)) (current
      (shard_history load_names hs dest_name 3))
      ∙ (total (λ p. 1) (λ i. 1) (λ p d. refl) ∙ sym (length_sum (taken_of n)))
    where
      go : (a b c d : List (ℕ × Doc)) → (length a + length b) + (length c + length d)
          ≡ (sum_by (λ p. 1) a + sum_by (λ p. 1) b) + (sum_by (λ p. 1) c + sum_by (λ p. 1) d)
      go a b c d = omega (arith, length_sum a, length_sum b, length_sum c, length_sum d)

  -- their amounts are those of their numbers
  amount_is : (p : ℕ × Doc) → IsDestFrom n 0 p → number_in (codes "a_i") p.1 ≡ amount_of
      (number_at p)
  amount_is p d = ap counted d.here.amount ∙ ap amount_of (sym (number_is n 0 p l.few d))

  -- and so are their revisions
  revision_is : (p : ℕ × Doc) → IsDestFrom n 0 p
      → number_in (codes "rev_i") p.1 ≡ revision_of (number_at p)
  revision_is p d = ap counted d.here.again ∙ ap revision_of (sym (number_is n 0 p l.few d))

-- the tally of the destination is that of the documents that the topic takes
pub dest-tally : (n : ℕ) (hs : Histories) → IsLoaded n hs
    → ((shard : ℕ) → shard < 4 → IsSource n shard (checkpoint load_key hs.book shard)
    (shard_history load_names hs src_name shard))
    → ((tally_in hs dest_name).documents ≡ length (taken_of n))
    × ((tally_in hs dest_name).amounts ≡ sum_by amount_of (taken_of n))
    × ((tally_in hs dest_name).revisions ≡ count_by is_even (taken_of n))
unfolding tally_in tally_of
dest-tally n hs l sources = (
  documents_are n hs l sources,
  total n hs l sources (λ p. number_in (codes "a_i") p.1) amount_of (amount_is n hs l sources),
  total n hs l sources (λ p. number_in (codes "rev_i") p.1) revision_of (revision_is n hs l sources)
      ∙ sum_agree revision_of (λ i. cond (is_even i) 1 0) revision_counts (taken_of n),
)
