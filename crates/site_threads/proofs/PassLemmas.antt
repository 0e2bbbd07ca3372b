-- Passes of workers.
use Rattle.std.proofs.Common.{ℕ, ◌≡◌, List, [], ◌∷◌, map, refl, sym, ap, ◌∙◌, subst}
use Rattle.std.specs.Prelude.{All, Contains}
use Rattle.tuple_values.specs.declared.names.NameShards.{NameShards}
use Rattle.exchange_rules.specs.Following.{Writer}
use Rattle.running_site.specs.Passes.{new_writer, number_of, numbers_to, writer_of}
use Rattle.running_site.specs.Plain.{TablePass}
use Rattle.running_site.specs.declared.pass.PassOf.{PassOf}
use Rattle.site_threads.specs.Workers.{number_in, pass_in, Worker}
use Rattle.site_threads.proofs.ListLemmas.{all-there, map-of}

-- a list of numbers, each as it is
map-id : (xs : List ℕ) → map (λ x. x) xs ≡ xs
map-id [] = refl
map-id (x ∷ xs) = ap (λ l. x ∷ l) (map-id xs)

-- the numbers of new passes
pub numbers-new : (names : List NameShards) (passes : List (PassOf TablePass)) (ns : List ℕ)
    → map writer_of passes ≡ map (new_writer names) ns → map number_of passes ≡ ns
numbers-new names passes ns e =
    sym (map-of (λ (w : Writer). w.me) writer_of passes)
    ∙ (ap (map (λ (w : Writer). w.me)) e
    ∙ (map-of (λ (w : Writer). w.me) (new_writer names) ns ∙ map-id ns))

-- the passes of workers with all numbers have all of them
pub all-numbers : (workers : List Worker) (passes : List (PassOf TablePass)) (count : ℕ)
    → passes ≡ map pass_in workers → map number_in workers ≡ numbers_to count
    → All (λ number. Contains (map number_of passes) number) (numbers_to count)
all-numbers workers passes count same numbers =
    subst (λ xs. All (λ number. Contains xs number) (numbers_to count))
    (sym (ap (map number_of) same ∙ (map-of number_of pass_in workers ∙ numbers)))
    (all-there (numbers_to count))
