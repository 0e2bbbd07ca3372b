-- What the walks over the numbers of documents write.
use Rattle.std.proofs.Common.{◌≡◌, ℕ, ◌+◌, ◌*◌, ◌%◌, ◌<◌, ◌&&◌, Bool, true, false, cond, List, [], ◌∷◌, ◌++◌, map, filter, refl, sym, ap, ◌∙◌, append_assoc, add-one}
use Rattle.std.proofs.lemmas.List.{append-nil, map-append}
use Rattle.std.proofs.lemmas.List.Elements.{filter-append}
use Rattle.std.proofs.lemmas.Nat.{mul-mod_first}
use Rattle.std.proofs.lemmas.Fmt.{decimal_digit}
use Rattle.std.specs.Fmt.{decimal}
use Rattle.tuple_values.specs.declared.write.Write.{Write}
use Rattle.tuple_values.specs.declared.write.Write.TheVariants.{Put}
use Rattle.load_rules.specs.Documents.{again_of, below, indexed_documents, is_even, is_of, load_document, mixed, numbers_of}

-- the reduced number gives the same
pub mixed-reduced : (i : ℕ) → i % 4294967296 * 2654435761 % 4294967296 ≡ mixed i
mixed-reduced i = mul-mod_first i 2654435761 4294967296

-- a group's name
pub group-name : (group : ℕ) → group < 10 → (103 ∷ []) ++ decimal group ≡ 103 ∷ (48 + group) ∷ []
group-name group low = ap (λ ds. 103 ∷ ds) (decimal_digit group low)

-- the documents of these numbers in a revision, as writes
abbrev pub puts : ℕ → List ℕ → List Write
puts revision numbers = map Put (map (λ i. load_document i revision) numbers)

-- a number behind others
puts-push : (revision i : ℕ) (numbers : List ℕ)
    → puts revision (numbers ++ i ∷ []) ≡ puts revision numbers ++ Put
    (load_document i revision) ∷ []
puts-push revision i numbers =
    ap (map Put) (map-append (λ k. load_document k revision) numbers (i ∷ []))
    ∙ map-append Put (map (λ k. load_document k revision) numbers) (load_document i revision ∷ [])

-- one more number that passes a test, or none
kept : (test : ℕ → Bool) (i : ℕ) (b : Bool) → test i ≡ b → filter test (i ∷ []) ≡ cond b (i ∷ []) []
kept test i b e = ap (λ t. cond t (i ∷ []) []) e

-- the numbers below the next one
numbers-more : (indexer i : ℕ) (b : Bool) → is_of indexer i ≡ b
    → numbers_of (i + 1) indexer ≡ numbers_of i indexer ++ cond b (i ∷ []) []
unfolding numbers_of below
numbers-more indexer i b e =
    ap (λ k. filter (is_of indexer) (below k)) (add-one i)
    ∙ filter-append (is_of indexer) (below i) (i ∷ [])
    ∙ ap (λ ks. filter (is_of indexer) (below i) ++ ks) (kept (is_of indexer) i b e)

-- of these the even ones
again-more : (indexer i : ℕ) (b : Bool) → (is_of indexer i && is_even i) ≡ b
    → again_of (i + 1) indexer ≡ again_of i indexer ++ cond b (i ∷ []) []
unfolding again_of
again-more indexer i b e =
    ap (filter is_even) (numbers-more indexer i (is_of indexer i) refl)
    ∙ filter-append is_even (numbers_of i indexer) (cond (is_of indexer i) (i ∷ []) [])
    ∙ ap (λ ks. filter is_even (numbers_of i indexer) ++ ks) (both (is_of indexer i) e)
  where
    both : (own : Bool) → (own && is_even i) ≡ b
        → filter is_even (cond own (i ∷ []) []) ≡ cond b (i ∷ []) []
    both true h = kept is_even i b h
    both false h = ap (λ t. cond t (i ∷ []) []) h

module _ (before old new : List Write) (indexer i : ℕ) where
  -- a document of its own is written
  pub own-taken : is_of indexer i ≡ true → old ≡ before ++ puts 0 (numbers_of i indexer)
      → new ≡ old ++ Put (load_document i 0) ∷ []
      → new ≡ before ++ puts 0 (numbers_of (i + 1) indexer)
  own-taken own so_far more =
      more ∙ ap (λ ws. ws ++ Put (load_document i 0) ∷ []) so_far
      ∙ append_assoc before (puts 0 (numbers_of i indexer)) (Put (load_document i 0) ∷ [])
      ∙ ap (λ ws. before ++ ws)
      (sym (ap (puts 0) (numbers-more indexer i true own) ∙ puts-push 0 i (numbers_of i indexer)))

  -- and one of another's is not
  pub own-passed : is_of indexer i ≡ false → old ≡ before ++ puts 0 (numbers_of i indexer)
      → old ≡ before ++ puts 0 (numbers_of (i + 1) indexer)
  own-passed other so_far =
      so_far ∙ ap (λ ks. before ++ puts 0 ks)
      (sym (numbers-more indexer i false other ∙ append-nil (numbers_of i indexer)))

  -- one with an even number is written once more
  pub again-taken : (is_of indexer i && is_even i) ≡ true
      → old ≡ before ++ puts 1 (again_of i indexer)
      → new ≡ old ++ Put (load_document i 1) ∷ []
      → new ≡ before ++ puts 1 (again_of (i + 1) indexer)
  again-taken own so_far more =
      more ∙ ap (λ ws. ws ++ Put (load_document i 1) ∷ []) so_far
      ∙ append_assoc before (puts 1 (again_of i indexer)) (Put (load_document i 1) ∷ [])
      ∙ ap (λ ws. before ++ ws)
      (sym (ap (puts 1) (again-more indexer i true own) ∙ puts-push 1 i (again_of i indexer)))

  -- and another one is not
  pub again-passed : (is_of indexer i && is_even i) ≡ false
      → old ≡ before ++ puts 1 (again_of i indexer)
      → old ≡ before ++ puts 1 (again_of (i + 1) indexer)
  again-passed other so_far =
      so_far ∙ ap (λ ks. before ++ puts 1 ks)
      (sym (again-more indexer i false other ∙ append-nil (again_of i indexer)))

-- nothing is written of no number
pub own-none : (before : List Write) (indexer : ℕ)
    → before ≡ before ++ puts 0 (numbers_of 0 indexer)
unfolding numbers_of below
own-none before indexer = sym (append-nil before)

-- nor once more
pub again-none : (before : List Write) (indexer : ℕ)
    → before ≡ before ++ puts 1 (again_of 0 indexer)
unfolding again_of numbers_of below
again-none before indexer = sym (append-nil before)

-- both walks write what the indexer writes
pub indexed-both : (none own all : List Write) (n indexer : ℕ) → none ≡ []
    → own ≡ none ++ puts 0 (numbers_of n indexer) → all ≡ own ++ puts 1 (again_of n indexer)
    → all ≡ map Put (indexed_documents n indexer)
unfolding indexed_documents
indexed-both none own all n indexer nothing first second =
    second ∙ ap (λ ws. ws ++ puts 1 (again_of n indexer))
    (first ∙ ap (λ ws. ws ++ puts 0 (numbers_of n indexer)) nothing)
    ∙ sym (map-append Put (map (λ i. load_document i 0) (numbers_of n indexer))
    (map (λ i. load_document i 1) (again_of n indexer)))

-- what the mixing of a number needs
pub ruleset mixed_steps = (mixed-reduced)

-- what a group's name needs
pub ruleset text_steps = (group-name)

-- what the walk over an indexer's own documents needs
pub ruleset own_steps = (own-taken, own-passed, own-none)

-- what the walk over those that are written again needs
pub ruleset again_steps = (again-taken, again-passed, again-none)

-- what both walks need
pub ruleset indexed_steps = (indexed-both)
