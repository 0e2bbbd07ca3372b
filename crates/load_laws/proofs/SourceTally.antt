-- How many current documents and writes a load leaves in the source.
use Rattle.std.proofs.Common.{◌≡◌, ◌≢◌, ℕ, ◌+◌, ◌%◌, ◌^◌, ◌<◌, ◌≤◌, ◌==◌, Bool, true, List, [], ◌∷◌, length, filter, map, sum_by, count_by, Contains, decimal, refl, sym, ap, subst, ◌∙◌, arith, mod-lt, eq-eqb, eqb-true}
use Rattle.std.specs.List.{AllByRecursion}
use Rattle.std.specs.Str.Parse.{digits_value}
use Rattle.std.proofs.lemmas.List.{length-map}
use Rattle.std.proofs.lemmas.List.Sums.{length-filter, sum_by-cons}
use Rattle.std.proofs.Common.{length-append}
use Rattle.tuple_values.specs.Document.{Doc}
use Rattle.tuple_values.specs.Keys.{shard_of}
use Rattle.shard_versions.specs.Documents.{id_of, with_version}
use Rattle.shard_versions.specs.Fitness.{is_routed}
use Rattle.shard_versions.specs.declared.entry.Kind.TheVariants.{Put}
use Rattle.shard_versions.specs.declared.entry.Entry.{Entry}
use Rattle.shard_versions.specs.Histories.{History, current, slots, slots_after}
use Rattle.shard_versions.proofs.ListLemmas.{each_all, each_two}
use Rattle.topic_book.specs.Books.{checkpoint}
use Rattle.once_core.specs.Cells.{shard_history}
use Rattle.once_core.specs.declared.world.Histories.{Histories}
use Rattle.once_core.proofs.CurrentLemmas.{id_with_version}
use Rattle.load_rules.specs.Documents.{again_of, below, indexed_documents, is_even, is_of, load_document, numbers_of, revision_of}
use Rattle.load_rules.specs.Loaded.{IsIndexed, IsIndexerEntry, IsLoaded}
use Rattle.load_rules.specs.Summary.{tally_in, tally_of}
use Rattle.load_rules.specs.Topic.{load_key, load_names, src_name}
use Rattle.load_laws.proofs.Facts.{IsLoadCurrent}
use Rattle.load_laws.proofs.CountingLemmas.{AreApart, Contains-below, Contains-filter, apart-filter, below-Contains, below-apart, each-contained, filter-Contains, length-below, number-decimal, same-sum}
use Rattle.load_laws.proofs.ListLemmas.{Contains-map, Contains-unmap, IsInOne, each_map, filter-filter, in-one, length-parts}
use Rattle.load_laws.proofs.WriteLemmas.{indexed-once, is_by, written, written-indexed}
use Rattle.load_laws.proofs.SlotLemmas.{HaveOwnIds, latest-own}
use Rattle.load_laws.proofs.LoadLemmas.{id_of-load_document, indexed_kinds, length-slots, slots-whole}
use Rattle.load_laws.proofs.SourceLemmas.{current-are, current-id, each-current, kinds-indexed, number-current, slots-are, written-load}

-- the writes of an indexer at the four shards are all its documents
indexed-shards : (n k : ℕ)
    → length (indexed_kinds n k 0) + length (indexed_kinds n k 1) + length (indexed_kinds n k 2)
    + length (indexed_kinds n k 3)
    ≡ length (numbers_of n k) + length (again_of n k)
unfolding indexed_documents
indexed-shards n k =
    length-parts (λ s. is_routed 4 s) (map Put (indexed_documents n k))
    (each_map (IsInOne (λ s. is_routed 4 s)) Put (indexed_documents n k)
    (each_all (λ (doc : Doc). IsInOne (λ s. is_routed 4 s) (Put doc))
    (λ doc. in-one (shard_of 4 (id_of doc)) (mod-lt _ (omega arith))) (indexed_documents n k)))
    ∙ (length-map (indexed_documents n k) Put
    ∙ (length-append (map (λ i. load_document i 0) (numbers_of n k))
    (map (λ i. load_document i 1) (again_of n k))
    ∙ both (length-map (numbers_of n k) (λ i. load_document i 0))
    (length-map (again_of n k) (λ i. load_document i 1))))
  where
    both : {a b c d : ℕ} → a ≡ b → c ≡ d → a + c ≡ b + d
    both p q = omega arith

-- the indexer of a number is just one
of-one : (xs : List ℕ) → AllByRecursion (IsInOne is_of) xs
of-one xs = each_all (IsInOne is_of) (λ i. in-one (i % 4) (mod-lt i (omega arith))) xs

-- the indexers write each number
numbers-indexers : (n : ℕ)
    → length (numbers_of n 0) + length (numbers_of n 1) + length (numbers_of n 2)
    + length (numbers_of n 3) ≡ n
unfolding numbers_of
numbers-indexers n = length-parts is_of (below n) (of-one (below n)) ∙ length-below n

-- and the even ones again
again-indexers : (n : ℕ)
    → length (again_of n 0) + length (again_of n 1) + length (again_of n 2) + length (again_of n 3)
    ≡ count_by is_even (below n)
unfolding numbers_of again_of
again-indexers n =
    sums (ap length (filter-filter is_even (is_of 0) (below n)))
    (ap length (filter-filter is_even (is_of 1) (below n)))
    (ap length (filter-filter is_even (is_of 2) (below n)))
    (ap length (filter-filter is_even (is_of 3) (below n)))
    ∙ (length-parts is_of (filter is_even (below n)) (of-one (filter is_even (below n)))
    ∙ length-filter is_even (below n))
  where
    sums : {a b c d e f g h : ℕ} → a ≡ e → b ≡ f → c ≡ g → d ≡ h
        → a + b + c + d ≡ e + f + g + h
    sums p q r s = omega arith

-- the writes of a shard are those of its indexers
slots-indexed : (n shard checkpoint : ℕ) (h : History) → AllByRecursion IsIndexerEntry h
    → ((indexer : ℕ) → indexer < 4 → IsIndexed n indexer shard checkpoint h)
    → length (slots h) ≡ length (indexed_kinds n 0 shard) + length (indexed_kinds n 1 shard)
    + length (indexed_kinds n 2 shard) + length (indexed_kinds n 3 shard)
slots-indexed n shard checkpoint h alone indexed =
    ap length (slots-are n shard checkpoint h alone indexed)
    ∙ (length-slots n shard 0 (written h) (written-load n shard checkpoint h alone indexed)
    ∙ (sym (length-parts is_by (written h) (indexed-once (written h) (written-indexed h alone)))
    ∙ sums (part 0 (omega arith)) (part 1 (omega arith)) (part 2 (omega arith))
    (part 3 (omega arith))))
  where
    part : (k : ℕ) → k < 4
        → length (filter (is_by k) (written h)) ≡ length (indexed_kinds n k shard)
    part k lt =
        sym (length-map (filter (is_by k) (written h)) (λ (e : Entry). e.kind))
        ∙ ap length (kinds-indexed n shard checkpoint h alone indexed k lt)

    sums : {a b c d e f g h : ℕ} → a ≡ e → b ≡ f → c ≡ g → d ≡ h
        → a + b + c + d ≡ e + f + g + h
    sums p q r s = omega arith

-- the number whose digits are the document's id
abbrev pub number_of : ℕ × Doc → ℕ
number_of p = digits_value 10 (id_of p.1)

-- whether the number's document routes to the shard
abbrev pub is_number_here : ℕ → ℕ → Bool
is_number_here shard i = shard_of 4 (decimal i) == shard

-- the sum of ones is the length
sum-ones : (xs : List ℕ) → sum_by (λ i. 1) xs ≡ length xs
sum-ones [] = refl
sum-ones (x ∷ xs) = omega (arith, sum_by-cons (λ (i : ℕ). 1) x xs, sum-ones xs)

-- documents with ids of their own that are of the load have numbers of their own
numbers-apart : (n : ℕ) → n ≤ 10 ^ 64 → (ps : List (ℕ × Doc)) → HaveOwnIds ps
    → AllByRecursion (λ p. (i : ℕ) × (i < n) × (id_of p.1 ≡ decimal i)) ps
    → AreApart (map number_of ps)
numbers-apart n few [] own a = tt
numbers-apart n few (p ∷ ps) own a = (
  each_map (λ i. i ≢ number_of p) number_of ps
      (each_two (λ (q : ℕ × Doc). id_of q.1 ≢ id_of p.1)
      (λ q. (i : ℕ) × (i < n) × (id_of q.1 ≡ decimal i)) (λ q. number_of q ≢ number_of p)
      (λ q other l is. other (same q l is)) ps own.0 a.1),
  numbers-apart n few ps own.1 a.1,
)
  where
    told : (q : ℕ × Doc) (l : (i : ℕ) × (i < n) × (id_of q.1 ≡ decimal i)) → number_of q ≡ l.0
    told q l = ap (digits_value 10) l.2 ∙ number-decimal l.0 (omega (arith, l.1))

    same : (q : ℕ × Doc) → ((i : ℕ) × (i < n) × (id_of q.1 ≡ decimal i))
        → number_of q ≡ number_of p → id_of q.1 ≡ id_of p.1
    same q l is =
        l.2 ∙ (ap decimal (sym (told q l) ∙ (is ∙ told p a.0)) ∙ sym a.0.2)

-- a shard has as many current documents as numbers below `n` route there
current-numbers : (n shard checkpoint : ℕ) (h : History) → n ≤ 10 ^ 64
    → AllByRecursion IsIndexerEntry h
    → ((indexer : ℕ) → indexer < 4 → IsIndexed n indexer shard checkpoint h)
    → length (current h) ≡ length (filter (is_number_here shard) (below n))
current-numbers n shard checkpoint h few alone indexed =
    sym (length-map (current h) number_of)
    ∙ (sym (sum-ones (map number_of (current h)))
    ∙ (same-sum (λ i. 1) (map number_of (current h)) (filter (is_number_here shard) (below n))
    (numbers-apart n few (current h) own
    (each-contained (λ p. (i : ℕ) × (i < n) × (id_of p.1 ≡ decimal i)) (current h)
    (λ p c. let l = each p c in
    (l.number, l.within, current-id n shard checkpoint h alone indexed p l))))
    (apart-filter (is_number_here shard) (below n) (below-apart n))
    (λ i c. to i (Contains-unmap number_of (current h) i c))
    (λ i c. from i (Contains-filter (is_number_here shard) (below n) i c))
    ∙ sum-ones (filter (is_number_here shard) (below n))))
  where
    each : (p : ℕ × Doc) → Contains (current h) p → IsLoadCurrent n shard p
    each = each-current n shard checkpoint h alone indexed

    own : HaveOwnIds (current h)
    own = subst HaveOwnIds (sym (current-are n shard checkpoint h alone indexed))
        (latest-own (slots_after 0 (written h))
        (slots-whole n shard 0 (written h) (written-load n shard checkpoint h alone indexed)))

    to : (i : ℕ) → (p : ℕ × Doc) × Contains (current h) p × (number_of p ≡ i)
        → Contains (filter (is_number_here shard) (below n)) i
    to i r =
        let l = each r.0 r.1 in
        let is : l.number ≡ i =
        sym (ap (digits_value 10) (current-id n shard checkpoint h alone indexed r.0 l)
        ∙ number-decimal l.number (omega (arith, l.within))) ∙ r.2 in
        subst (Contains (filter (is_number_here shard) (below n))) is
        (filter-Contains (is_number_here shard) (below n) l.number
        (below-Contains n l.number l.within)
        (eq-eqb (shard_of 4 (decimal l.number)) shard l.routed))

    from : (i : ℕ) → Contains (below n) i × (is_number_here shard i ≡ true)
        → Contains (map number_of (current h)) i
    from i r =
        let lt : i < n = Contains-below n i r.0 in
        let c = number-current n shard checkpoint h alone indexed few i lt
        (eqb-true (shard_of 4 (decimal i)) shard r.1) in
        let p : ℕ × Doc = (c.0, with_version c.0 (load_document i (revision_of i))) in
        let is : number_of p ≡ i =
        ap (digits_value 10)
        (id_with_version c.0 (load_document i (revision_of i))
        ∙ id_of-load_document i (revision_of i))
        ∙ number-decimal i (omega (arith, lt)) in
        subst (Contains (map number_of (current h))) is (Contains-map number_of (current h) p c.1)

-- each number routes to one of the four shards
numbers-shards : (n : ℕ)
    → length (filter (is_number_here 0) (below n)) + length (filter (is_number_here 1) (below n))
    + length (filter (is_number_here 2) (below n)) + length (filter (is_number_here 3) (below n))
    ≡ n
numbers-shards n =
    length-parts is_number_here (below n)
    (each_all (IsInOne is_number_here)
    (λ i. in-one (shard_of 4 (decimal i)) (mod-lt _ (omega arith))) (below n))
    ∙ length-below n

-- the source of a load has each document, and those with even numbers were written twice
pub source-writes : (n : ℕ) (hs : Histories) → IsLoaded n hs
    → (tally_in hs src_name).writes ≡ n + count_by is_even (below n)
unfolding tally_in tally_of
source-writes n hs load =
    omega (
      arith,
      at 0 (omega arith),
      at 1 (omega arith),
      at 2 (omega arith),
      at 3 (omega arith),
      indexed-shards n 0,
      indexed-shards n 1,
      indexed-shards n 2,
      indexed-shards n 3,
      numbers-indexers n,
      again-indexers n,
    )
  where
    at : (shard : ℕ) → shard < 4
        → length (slots (shard_history load_names hs src_name shard))
        ≡ length (indexed_kinds n 0 shard) + length (indexed_kinds n 1 shard)
        + length (indexed_kinds n 2 shard) + length (indexed_kinds n 3 shard)
    at shard lt =
        slots-indexed n shard (checkpoint load_key hs.book shard)
        (shard_history load_names hs src_name shard) (load.alone shard lt)
        (λ k less. load.indexed k shard less lt)

-- it has each document once, where numbers are told by their digits
pub source-documents : (n : ℕ) (hs : Histories) → n ≤ 10 ^ 64 → IsLoaded n hs
    → (tally_in hs src_name).documents ≡ n
unfolding tally_in tally_of
source-documents n hs few load =
    omega (
      arith,
      at 0 (omega arith),
      at 1 (omega arith),
      at 2 (omega arith),
      at 3 (omega arith),
      numbers-shards n,
    )
  where
    at : (shard : ℕ) → shard < 4
        → length (current (shard_history load_names hs src_name shard))
        ≡ length (filter (is_number_here shard) (below n))
    at shard lt =
        current-numbers n shard (checkpoint load_key hs.book shard)
        (shard_history load_names hs src_name shard) few (load.alone shard lt)
        (λ k less. load.indexed k shard less lt)

-- both together
pub source-tally-few : (n : ℕ) (hs : Histories) → n ≤ 10 ^ 64 → IsLoaded n hs
    → ((tally_in hs src_name).documents ≡ n)
    × ((tally_in hs src_name).writes ≡ n + count_by is_even (below n))
source-tally-few n hs few load = (source-documents n hs few load, source-writes n hs load)
