-- The documents of an indexer: a shard can keep each, and what it is to put them.
use Rattle.std.proofs.Common.{◌≡◌, ℕ, zero, suc, ◌<◌, ◌≤◌, ◌^◌, Bool, true, false, not, ◌&&◌, cond, List, [], ◌∷◌, ◌++◌, length, map, refl, sym, ap, ◌∙◌, subst, arith}
use Rattle.std.specs.Prelude.{filter}
use Rattle.std.specs.Fmt.{decimal}
use Rattle.std.specs.List.{AllByRecursion}
use Rattle.std.proofs.lemmas.Fmt.{decimal_nonempty}
use Rattle.tuple_values.specs.Document.{ByteList, Doc}
use Rattle.tuple_values.specs.declared.write.Write.TheVariants as write
use Rattle.shard_versions.specs.Documents.{id_of, is_empty, is_storable}
use Rattle.shard_versions.specs.Fitness.{is_routed}
use Rattle.shard_versions.specs.declared.entry.Kind.TheVariants.{Put}
use Rattle.shard_versions.specs.Histories.{is_pending}
use Rattle.shard_versions.proofs.ListLemmas.{each_append}
use Rattle.exchange_rules.specs.Cells.{history_in}
use Rattle.exchange_rules.specs.Following.{Writer}
use Rattle.exchange_rules.specs.Steps.{AreStorableWrites, kind_of}
use Rattle.load_rules.specs.Documents.{again_of, below, indexed_documents, is_even, is_of, load_document, numbers_of}
use Rattle.load_rules.specs.Loaded.{writes_in}
use Rattle.load_mix.specs.Puts.{HasPut}
use Rattle.load_rules.specs.Worked.{HasIndexed}
use Rattle.load_rules.proofs.CellLemmas.{src-is}

-- a text of some length isn't empty
not_empty : (bytes : ByteList) → 0 < length bytes → is_empty bytes ≡ false
not_empty [] lt = absurd (omega arith)
not_empty (b ∷ bytes) lt = refl

-- a document of a load has its number for its id, no group and no version
storable_load : (i revision : ℕ) → i < 2 ^ 64 → is_storable (load_document i revision) ≡ true
unfolding is_storable id_of load_document
storable_load i revision lt =
    ap (λ b. not b && true && true) (not_empty (decimal i) (decimal_nonempty i lt))

-- what holds of each holds of those that pass a test
each_kept : {X : Type 0} (P : X → Type 0) (test : X → Bool) (xs : List X) → AllByRecursion P xs
    → AllByRecursion P (filter test xs)
each_kept P test [] a = tt
each_kept {X} P test (x ∷ xs) a = go (test x) (filter test xs) (each_kept P test xs a.1)
  where
    go : (b : Bool) (ys : List X) → AllByRecursion P ys → AllByRecursion P (cond b (x ∷ ys) ys)
    go true ys k = (a.0, k)
    go false ys k = k

-- numbers below one are below each that isn't lower
below_less : (n m : ℕ) → n ≤ m → AllByRecursion (λ i. i < m) (below n)
unfolding below
below_less zero m le = tt
below_less (suc n) m le =
    let lt : n < m = omega arith in
    each_append (λ i. i < m) (below n) (n ∷ []) (below_less n m (omega arith)) (lt, tt)

-- documents of such numbers are storable
documents_storable : (revision : ℕ) (numbers : List ℕ) → AllByRecursion (λ i. i < 2 ^ 64) numbers
    → AreStorableWrites (map write.Put (map (λ i. load_document i revision) numbers))
documents_storable revision [] a = tt
documents_storable revision (i ∷ numbers) a =
    (storable_load i revision a.0, documents_storable revision numbers a.1)

-- the writes of two lists of documents
puts-append : (a b : List Doc) → map write.Put (a ++ b) ≡ map write.Put a ++ map write.Put b
puts-append [] b = refl
puts-append (d ∷ a) b = ap (λ x. write.Put d ∷ x) (puts-append a b)

-- each write of an indexer can be kept
pub indexed_storable : (n indexer : ℕ) → n < 2 ^ 64
    → AreStorableWrites (map write.Put (indexed_documents n indexer))
unfolding indexed_documents numbers_of again_of
indexed_storable n indexer lt =
    let own : AllByRecursion (λ i. i < 2 ^ 64) (numbers_of n indexer) =
    each_kept (λ i. i < 2 ^ 64) (is_of indexer) (below n) (below_less n (2 ^ 64) (omega arith)) in
    let again : AllByRecursion (λ i. i < 2 ^ 64) (again_of n indexer) =
    each_kept (λ i. i < 2 ^ 64) is_even (numbers_of n indexer) own in
    let first = map (λ i. load_document i 0) (numbers_of n indexer) in
    let second = map (λ i. load_document i 1) (again_of n indexer) in
    subst AreStorableWrites (sym (puts-append first second))
    (each_append _ (map write.Put first) (map write.Put second)
    (documents_storable 0 (numbers_of n indexer) own)
    (documents_storable 1 (again_of n indexer) again))

-- the entries that they ask for
kinds-puts : (docs : List Doc) → map kind_of (map write.Put docs) ≡ map Put docs
kinds-puts [] = refl
kinds-puts (d ∷ docs) = ap (λ x. Put d ∷ x) (kinds-puts docs)

-- whoever put an indexer's documents has done its work
pub indexed_put : (n indexer : ℕ) (old new : Writer)
    → HasPut (map write.Put (indexed_documents n indexer)) old new → HasIndexed n indexer old new
indexed_put n indexer old new p = record {
  steps = p.steps;
  added = p.added;
  written = λ s lt.
      ap (λ c. writes_in (history_in (p.steps c))) (src-is s)
      ∙ (p.written s lt
      ∙ ap (filter (is_routed 4 s)) (kinds-puts (indexed_documents n indexer)));
  closed = λ s lt.
      ap (λ c. is_pending (history_in (p.steps c))) (src-is s) ∙ p.closed s lt;
  elsewhere = p.elsewhere;
}
