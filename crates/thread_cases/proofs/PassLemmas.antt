-- Passes of workers that were served.
use Rattle.std.proofs.Common.{ℕ, zero, suc, ◌≡◌, ◌<◌, List, [], ◌∷◌, ◌++◌, get_or, take, length, map, refl, ap, arith}
use Rattle.std.specs.Prelude.{All}
use Rattle.running_site.specs.declared.site.SiteOf.{SiteOf}
use Rattle.running_site.specs.Plain.{SiteCell}
use Rattle.site_threads.specs.Workers.{number_in, IsWorkerAt, Worker}
use Rattle.thread_cases.specs.Serving.{IsServed}

-- lists of as many, in which what each is is the same
map-same : {X : Type 0} (f : X → ℕ) (xs ys : List X) → length ys ≡ length xs
    → ((k : ℕ) (d : X) → k < length xs → f (get_or ys k d) ≡ f (get_or xs k d))
    → map f ys ≡ map f xs
map-same f [] [] n h = refl
map-same f [] (y ∷ ys) n h = absurd (omega (arith, n))
map-same f (x ∷ xs) [] n h = absurd (omega (arith, n))
map-same f (x ∷ xs) (y ∷ ys) n h =
    (λ i. h 0 x (omega arith) i ∷ map-same f xs ys (omega (arith, n)) (λ k d lt. h (suc k) d (omega (arith, lt))) i)

-- workers that were served have their passes at the site
pub served-own : {A B C D E : Type 0} (site : SiteOf SiteCell A B C D E) (old new : List Worker)
    → length new ≡ length old
    → ((k : ℕ) (d : Worker) → k < length old → IsServed site (get_or old k d) (get_or new k d))
    → All (IsWorkerAt site) new
served-own site old new n h k d lt = (h k d (omega (arith, n, lt))).own

-- and their numbers
pub served-numbers : {A B C D E : Type 0} (site : SiteOf SiteCell A B C D E) (old new : List Worker)
    → length new ≡ length old
    → ((k : ℕ) (d : Worker) → k < length old → IsServed site (get_or old k d) (get_or new k d))
    → map number_in new ≡ map number_in old
served-numbers site old new n h = map-same number_in old new n (λ k d lt. (h k d lt).number)

-- what was written over the front of a vector's items
pub written : {X : Type 0} (n : ℕ) (new rest : List X) → length new ≡ n → take n (new ++ rest) ≡ new
written zero [] rest e = refl
written zero (x ∷ new) rest e = absurd (omega (arith, e))
written (suc n) [] rest e = absurd (omega (arith, e))
written (suc n) (x ∷ new) rest e = ap (λ l. x ∷ l) (written n new rest (omega (arith, e)))
