-- The reading of bytes is the one by the grammar, for all bytes.
use Rattle.std.proofs.Common.{◌≡◌, ⊎_elim, ℕ, ◌<◌, ◌≤◌, List, length, Result, Ok, Err, refl}
use Rattle.std.proofs.Common.{ap, sym, ◌∙◌, subst, ◌↔◌}
use Rattle.std.proofs.lemmas.Bool.{cases_lt}
use Rattle.expr_reader.specs.Tree.{CallTree}
use Rattle.expr_reader.specs.Grammar.{IsTooLarge, byte_limit}
use Rattle.expr_reader.specs.Reading.{read_of}
use Rattle.expr_reader.specs.Agreement.{IsWithin, IsFault, Agrees}
use Rattle.expr_reader.specs.declared.fault.ExprFault.{ExprFault}
use Rattle.expr_reader.specs.declared.fault.ExprFault.TheVariants.{TooLarge, Syntax, OutOfMemory}
use Rattle.expr_reader.proofs.LimitLemmas.{place_one}
use Rattle.expr_reader.proofs.ReadLemmas.{Told, read_told, read_complete, large_read, whole_fits}
use Rattle.expr_reader.proofs.ReadLemmas.{place_fits}

module _ (bytes : List ℕ) where
  -- what the reading says of the bytes
  told : (r : Result CallTree ExprFault) → read_of bytes ≡ r → Told bytes r
  told r is = subst (Told bytes) is (read_told bytes)

  -- bytes whose reading isn't too large are no more than may be
  few_bytes : (r : Result CallTree ExprFault) → read_of bytes ≡ r → (r ≡ Err TooLarge → ⊥)
      → length bytes ≤ byte_limit
  few_bytes r is fits = ⊎_elim
      (λ (long : byte_limit < length bytes). absurd (fits (sym is ∙ large_read bytes long)))
      (λ (few : length bytes ≤ byte_limit). few)
      (cases_lt byte_limit (length bytes))

  -- the reading is a call exactly where the bytes say it within the limits
  said_by : (tree : CallTree) → (read_of bytes ≡ Ok tree) ↔ IsWithin bytes tree
  said_by tree = (
    λ is. let it = told (Ok tree) is in
        record {
          expression = it.0;
          small = few_bytes (Ok tree) is (λ e. cc);
          keeps = it.1;
        },
    λ w. ⊎_elim
        (λ (read : read_of bytes ≡ Ok tree). read)
        (λ (large : read_of bytes ≡ Err TooLarge).
        absurd (whole_fits bytes w.small tree w.expression w.keeps (told (Err TooLarge) large)))
        (read_complete bytes tree w.small w.expression),
  )

  -- it is too large exactly where they are
  large_by : (read_of bytes ≡ Err TooLarge) ↔ IsTooLarge bytes
  large_by = (told (Err TooLarge), λ large. go (read_of bytes) refl large)
    where
      go : (r : Result CallTree ExprFault) → read_of bytes ≡ r → IsTooLarge bytes
          → r ≡ Err TooLarge
      go (Ok tree) is large =
          let it = told (Ok tree) is in
          absurd (whole_fits bytes (few_bytes (Ok tree) is (λ e. cc)) tree it.0 it.1 large)
      go (Err TooLarge) is large = refl
      go (Err (Syntax at)) is large =
          let it = told (Err (Syntax at)) is in
          absurd (place_fits bytes (few_bytes (Err (Syntax at)) is (λ e. cc)) at it.0 it.1 large)
      go (Err OutOfMemory) is large = absurd (told (Err OutOfMemory) is)

  -- it is a place exactly where it is that of their fault
  placed_by : (at : ℕ) → (read_of bytes ≡ Err (Syntax at)) ↔ IsFault bytes at
  placed_by at = (
    λ is. let it = told (Err (Syntax at)) is in
        let few = few_bytes (Err (Syntax at)) is (λ e. cc) in
        record {
          unreadable = λ tree x. ⊎_elim
              (λ (read : read_of bytes ≡ Ok tree). cc)
              (λ (large : read_of bytes ≡ Err TooLarge). cc)
              (read_complete bytes tree few x);
          fits = place_fits bytes few at it.0 it.1;
          place = it.0;
        },
    λ fault. go (read_of bytes) refl fault,
  )
    where
      go : (r : Result CallTree ExprFault) → read_of bytes ≡ r → IsFault bytes at
          → r ≡ Err (Syntax at)
      go (Ok tree) is fault = absurd (fault.unreadable tree (told (Ok tree) is).0)
      go (Err TooLarge) is fault = absurd (fault.fits (told (Err TooLarge) is))
      go (Err (Syntax k)) is fault =
          ap (λ n. Err (Syntax n)) (place_one bytes k at (told (Err (Syntax k)) is).0 fault.place)
      go (Err OutOfMemory) is fault = absurd (told (Err OutOfMemory) is)

-- the reading agrees with the grammar
pub read_of-agrees : Agrees read_of
read_of-agrees = record {
  expressions = said_by;
  large = large_by;
  faults = placed_by;
  no_memory = λ bytes is. told bytes (Err OutOfMemory) is;
}
