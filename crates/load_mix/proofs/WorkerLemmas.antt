-- Workers of a load at its site, before their threads and behind them.
use Rattle.std.proofs.Common.{◌≡◌, ℕ, zero, suc, ◌<◌, ◌+◌, List, [], ◌∷◌, ◌++◌, length, map, take, refl, sym, ap, ◌∙◌, subst, arith}
use Rattle.std.specs.Prelude.{All, slice_index_or}
use Rattle.std.specs.List.{AllZip}
use Rattle.std.proofs.lemmas.List.{length_push}
use Rattle.std.proofs.lemmas.List.Elements.{All-nil, All-cons, All-head, All-tail, All-map}
use Rattle.running_site.specs.Plain.{SiteCell}
use Rattle.running_site.specs.Passes.{IsPassIn, layout_in}
use Rattle.running_site.specs.Plain.{TablePass}
use Rattle.running_site.specs.Sites.{IsPassAt, layout_at}
use Rattle.running_site.specs.declared.pass.PassOf.{PassOf}
use Rattle.running_site.specs.declared.site.SiteOf.{SiteOf}
use Rattle.load_rules.specs.Finished.{load_roles}
use Rattle.load_mix.specs.Workers.{Worker, IsEnded, IsWorked, IsWorkerAt, inside_in, inside_of, role_at, roles_to}

-- as many roles as a load has writers are its roles
pub all_roles : roles_to 8 ≡ load_roles
all_roles = refl

-- one more
pub map-push : {X Y : Type 0} (f : X → Y) (xs : List X) (x : X)
    → map f (xs ++ x ∷ []) ≡ map f xs ++ f x ∷ []
map-push f [] x = refl
map-push f (y ∷ xs) x = ap (λ l. f y ∷ l) (map-push f xs x)

-- the roles of one more
pub roles-push : {X : Type 0} (xs : List X) (x : X)
    → roles_to (length (xs ++ x ∷ [])) ≡ roles_to (length xs) ++ role_at (length xs) ∷ []
roles-push xs x =
    let more : length (xs ++ x ∷ []) ≡ suc (length xs) = omega (arith, length_push xs x) in
    ap roles_to more

-- pairs, one more
pub zip-push : {X Y : Type 0} (R : X → Y → Type 0) (xs : List X) (ys : List Y) (x : X) (y : Y)
    → AllZip R xs ys → R x y → AllZip R (xs ++ x ∷ []) (ys ++ y ∷ [])
zip-push R [] [] x y a r = (r, tt)
zip-push R [] (z ∷ ys) x y a r = absurd a
zip-push R (z ∷ xs) [] x y a r = absurd a
zip-push R (z ∷ xs) (w ∷ ys) x y a r = (a.0, zip-push R xs ys x y a.1 r)

-- by their places
pub zip-of : {X : Type 0} (R : X → X → Type 0) (xs ys : List X) → length ys ≡ length xs
    → ((k : ℕ) (d : X) → k < length xs → R (slice_index_or xs k d) (slice_index_or ys k d))
    → AllZip R xs ys
zip-of R [] [] long each = tt
zip-of R [] (y ∷ ys) long each = absurd (omega (arith, long))
zip-of R (x ∷ xs) [] long each = absurd (omega (arith, long))
zip-of R (x ∷ xs) (y ∷ ys) long each = (
  each zero x (omega arith),
  zip-of R xs ys (omega (arith, long)) (λ k d lt. each (suc k) d (omega (arith, lt))),
)

-- by their places in lists that are equal to these
pub zip-now : {X : Type 0} (R : X → X → Type 0) (xs ys old new : List X) → xs ≡ old → new ≡ ys
    → length ys ≡ length xs
    → ((k : ℕ) (d : X) → k < length xs → R (slice_index_or xs k d) (slice_index_or ys k d))
    → AllZip R old new
zip-now R xs ys old new e f long each =
    subst (λ l. AllZip R l new) e (subst (AllZip R xs) (sym f) (zip-of R xs ys long each))

-- what follows of each pair for its second part
pub zip-seconds : {X Y : Type 0} (R : X → Y → Type 0) (P : Y → Type 0)
    → ((x : X) (y : Y) → R x y → P y) → (xs : List X) (ys : List Y) → AllZip R xs ys → All P ys
zip-seconds R P f [] [] a = All-nil P
zip-seconds R P f [] (y ∷ ys) a = absurd a
zip-seconds R P f (x ∷ xs) [] a = absurd a
zip-seconds R P f (x ∷ xs) (y ∷ ys) a =
    All-cons P y ys (f x y a.0) (zip-seconds R P f xs ys a.1)

-- what was written over the front of a vector's items
pub written : {X : Type 0} (n : ℕ) (new rest : List X) → length new ≡ n → take n (new ++ rest) ≡ new
written zero [] rest e = refl
written zero (x ∷ new) rest e = absurd (omega (arith, e))
written (suc n) [] rest e = absurd (omega (arith, e))
written (suc n) (x ∷ new) rest e = ap (λ l. x ∷ l) (written n new rest (omega (arith, e)))

-- what is so of what each is
all-of : {X Y : Type 0} (P : X → Type 0) (f : Y → X) (ys : List Y) → All P (map f ys)
    → All (λ y. P (f y)) ys
all-of P f [] h = All-nil (λ y. P (f y))
all-of P f (y ∷ ys) h =
    All-cons (λ z. P (f z)) y ys (All-head P (f y) (map f ys) h)
    (all-of P f ys (All-tail P (f y) (map f ys) h))

module _ {A B C D E : Type 0} (site : SiteOf SiteCell A B C D E) where
  -- workers of passes of a site are workers of it
  pub made-at : (workers : List Worker) (passes : List (PassOf TablePass))
      → map inside_in workers ≡ map inside_of passes → All (IsPassAt site) passes
      → All (IsWorkerAt site) workers
  made-at workers passes e own =
      let P = IsPassIn site.table.board.shared.table_id site.table.board.shared.key
      (layout_at site) in
      all-of P inside_in workers
      (subst (All P) (sym e) (All-map P inside_of passes own))

  -- so are those that worked
  pub worked-at : (n : ℕ) (old new : List Worker) → AllZip (IsWorked n site) old new
      → All (IsWorkerAt site) new
  worked-at n old new a =
      zip-seconds (IsWorked n site) (IsWorkerAt site) (λ x y w. w.own) old new a

  -- and the passes at the end are passes of it
  pub ended-at : (workers : List Worker) (passes : List (PassOf TablePass))
      → AllZip (IsEnded site) workers passes → All (IsPassAt site) passes
  ended-at workers passes a =
      zip-seconds (IsEnded site) (IsPassAt site) (λ x y e. e.own) workers passes a
