-- What a left document gives of a bucket, from place to place.
use Rattle.std.proofs.Common.{◌≡◌, ◌<◌, ◌≤◌, ◌+◌, ℕ, zero, suc, List, [], ◌∷◌, ◌++◌, map, filter}
use Rattle.std.proofs.Common.{drop, get_or, slice_get, length, option_to_list, Some, true}
use Rattle.std.proofs.Common.{Bool, refl, ap, sym, ◌∙◌, add-one, arith}
use Rattle.std.proofs.lemmas.Option.{slice_get_read}
use Rattle.tuple_values.specs.Document.{Doc}
use Rattle.sort_spec.specs.declared.pair.OnPair.{OnPair}
use Rattle.expr_types.specs.Joins.{matches, joined}
use Rattle.hash_join.specs.Buckets.{bucket_at}
use Rattle.hash_join.specs.Held.{equals_from, held_list}
use Rattle.hash_join.specs.declared.held.Held.{Held}
use Rattle.hash_join.specs.declared.held.Held.TheVariants.{Nothing, Paired}
use Rattle.hash_join.specs.declared.table.Table.{Table}

-- an element that passes is the first of those from its place on
pub filter_here : {X : Type 0} (test : X → Bool) (xs : List X) (k : ℕ) (d : X) → k < length xs
    → test (get_or xs k d) ≡ true
    → filter test (drop k xs) ≡ option_to_list (slice_get xs k) ++ filter test (drop (suc k) xs)
filter_here test [] k d h e = absurd (omega arith)
filter_here test (x ∷ xs) zero d h e = rw e refl
filter_here test (x ∷ xs) (suc k) d h e = filter_here test xs k d (omega arith) e

-- there is none past the end
past_end : {X : Type 0} (test : X → Bool) (xs : List X) (k : ℕ) → length xs ≤ k
    → option_to_list (slice_get xs k) ++ filter test (drop (suc k) xs) ≡ []
past_end test [] k h = refl
past_end test (x ∷ xs) zero h = absurd (omega arith)
past_end test (x ∷ xs) (suc k) h = past_end test xs k (omega arith)

module _ (on : List OnPair) (table : Table) (one : Held) (left : Doc) (bucket place : ℕ)
    (rights : List Doc) (h : Paired left bucket place ≡ one)
    (b : rights ≡ bucket_at table bucket) where
  -- what is held is what the bucket gives from the place on
  here : held_list on table one ≡ map (joined left) (equals_from on left rights (Some place))
  here =
      sym (ap (held_list on table) h)
      ∙ ap (λ rs. map (joined left) (equals_from on left rs (Some place))) (sym b)

  -- past the end nothing is given
  pub none_given : (freed : Held) → length rights ≤ place → freed ≡ Nothing
      → held_list on table one ≡ held_list on table freed
  none_given freed past f =
      here ∙ ap (map (joined left)) (past_end (matches on left) rights place past)
      ∙ sym (ap (held_list on table) f)

  -- the pair of the place comes first, and then those of the equals behind it
  pair_first : (right pair : Doc) (more : List Doc) → place < length rights
      → right ≡ get_or rights place right → pair ≡ joined left right
      → filter (matches on left) (drop (place + 1) rights) ≡ more
      → held_list on table one ≡ pair ∷ map (joined left) more
  pair_first right pair more within at p e =
      let first = slice_get_read rights (length rights) place right refl within at in
      let behind = ap (λ n. filter (matches on left) (drop n rights)) (sym (add-one place)) ∙ e in
      here
      ∙ (λ j. map (joined left) (option_to_list (first j) ++ behind j))
      ∙ ap (λ w. w ∷ map (joined left) more) (sym p)

  -- the last pair leaves nothing
  pub last_given : (right pair : Doc) (freed : Held) → place < length rights
      → right ≡ get_or rights place right → pair ≡ joined left right
      → filter (matches on left) (drop (place + 1) rights) ≡ [] → freed ≡ Nothing
      → held_list on table one ≡ pair ∷ held_list on table freed
  last_given right pair freed within at p e f =
      pair_first right pair [] within at p e
      ∙ ap (λ w. pair ∷ w) (sym (ap (held_list on table) f))

  -- another leaves the left document, with the place of the next
  pub one_given : (right pair : Doc) (next : ℕ) → place < length rights
      → right ≡ get_or rights place right → pair ≡ joined left right
      → filter (matches on left) (drop (place + 1) rights) ≡ equals_from on left rights (Some next)
      → held_list on table one
      ≡ pair ∷ map (joined left) (equals_from on left (bucket_at table bucket) (Some next))
  one_given right pair next within at p e =
      pair_first right pair (equals_from on left rights (Some next)) within at p e
      ∙ ap (λ rs. pair ∷ map (joined left) (equals_from on left rs (Some next))) b
