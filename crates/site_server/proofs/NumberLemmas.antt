-- The numbers of passes, from one on.
use Rattle.std.proofs.Common.{ℕ, zero, suc, ◌≡◌, ◌+◌, List, [], ◌∷◌, ◌++◌, map, length, refl, sym, ap, ◌∙◌, arith, length-append}
use Rattle.tuple_values.specs.declared.names.NameShards.{NameShards}
use Rattle.std.proofs.lemmas.List.{length-map, map-id}
use Rattle.exchange_rules.specs.Following.{Writer}
use Rattle.running_site.specs.Passes.{new_writer, numbers_to, number_of, writer_of}
use Rattle.running_site.specs.Plain.{TablePass}
use Rattle.running_site.specs.declared.pass.PassOf.{PassOf}
use Rattle.site_server.proofs.ListLemmas.{map-of}

-- so many numbers from this one on
abbrev pub numbers_from : ℕ → ℕ → List ℕ
numbers_from first zero = []
numbers_from first (suc n) = first ∷ numbers_from (suc first) n

-- one more of them
numbers_from-snoc : (first n : ℕ)
    → numbers_from first (suc n) ≡ numbers_from first n ++ (first + n) ∷ []
numbers_from-snoc first zero = ap (λ m. m ∷ []) (omega arith)
numbers_from-snoc first (suc n) =
    ap (λ l. first ∷ l)
    (numbers_from-snoc (suc first) n ∙ ap (λ m. numbers_from (suc first) n ++ m ∷ []) (omega arith))

-- the numbers to a count are those from 1 on
pub numbers_to-from : (n : ℕ) → numbers_to n ≡ numbers_from 1 n
numbers_to-from zero = refl
numbers_to-from (suc n) =
    ap (λ l. l ++ suc n ∷ []) (numbers_to-from n)
    ∙ (ap (λ m. numbers_from 1 n ++ m ∷ []) (omega arith) ∙ sym (numbers_from-snoc 1 n))

-- as many as were asked for
pub length-numbers_to : (n : ℕ) → length (numbers_to n) ≡ n
length-numbers_to zero = refl
length-numbers_to (suc n) =
    omega (arith, length-numbers_to n, length-append (numbers_to n) (suc n ∷ []))

-- how many new passes there are
pub length-new : (names : List NameShards) (passes : List (PassOf TablePass)) (n : ℕ)
    → map writer_of passes ≡ map (new_writer names) (numbers_to n) → length passes ≡ n
length-new names passes n e =
    sym (length-map passes writer_of)
    ∙ (ap length e ∙ (length-map (numbers_to n) (new_writer names) ∙ length-numbers_to n))

-- new passes, by numbers from 1 on
pub new-from : (names : List NameShards) (passes : List (PassOf TablePass)) (n : ℕ)
    → map writer_of passes ≡ map (new_writer names) (numbers_to n)
    → map writer_of passes ≡ map (new_writer names) (numbers_from 1 (length passes))
new-from names passes n e =
    e ∙ (ap (map (new_writer names)) (numbers_to-from n)
    ∙ ap (λ m. map (new_writer names) (numbers_from 1 m)) (sym (length-new names passes n e)))

-- the numbers of new passes
pub numbers-new : (names : List NameShards) (passes : List (PassOf TablePass)) (ns : List ℕ)
    → map writer_of passes ≡ map (new_writer names) ns → map number_of passes ≡ ns
numbers-new names passes ns e =
    sym (map-of (λ (w : Writer). w.me) writer_of passes)
    ∙ (ap (map (λ (w : Writer). w.me)) e
    ∙ (map-of (λ (w : Writer). w.me) (new_writer names) ns ∙ map-id ns))
