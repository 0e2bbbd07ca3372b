-- A sort by values that were looked up once is the sort.
use Rattle.std.proofs.Common.{◌≡◌, List, [], ◌∷◌, Bool, true, false, cond, map, refl, ap, sym, ◌∙◌}
use Rattle.std.specs.Cmp.{IsTotalOrder, IsStrictWeakOrder}
use Rattle.std.specs.Cmp.Lexicographic.{options_total}
use Rattle.std.specs.Ordering.{is_lt, ordering_then}
use Rattle.std.specs.declared.cmp.Ordering.{Ordering}
use Rattle.std.specs.declared.cmp.Ordering.TheVariants.{Less, Equal, Greater}
use Rattle.std.proofs.lemmas.Cmp.{on_total, then_total}
use Rattle.tuple_values.specs.Document.{Doc}
use Rattle.tuple_values.proofs.OrderLemmas.{datum_cmp_total}
use Rattle.sort_spec.specs.Fronts.{Row, value_cmp, row_cmp}
use Rattle.sort_spec.specs.Rows.{row_for}
use Rattle.sort_spec.specs.Sorting.{insert, ins_from, ins_sort}
use Rattle.sort_spec.specs.Terms.{sort_cmp, term_cmp, less}
use Rattle.sort_spec.specs.declared.term.SortTerm.{SortTerm}
use Rattle.sort_spec.proofs.TermLemmas.{reversed_total, sort_cmp_total}

-- the order of values by a term
value_cmp_total_by : (term : SortTerm) (descending : Bool) → term.descending ≡ descending
    → IsTotalOrder (value_cmp term)
value_cmp_total_by term true e = rw e (reversed_total _ (options_total datum_cmp_total))
value_cmp_total_by term false e = rw e (options_total datum_cmp_total)

value_cmp_total : (term : SortTerm) → IsTotalOrder (value_cmp term)
value_cmp_total term = value_cmp_total_by term term.descending refl

-- the order of rows
pub row_cmp_total : (terms : List SortTerm) → IsTotalOrder (row_cmp terms)
row_cmp_total [] = record {
  antisymm = λ a b. refl;
  trans = λ a b c p q. absurd (cc);
  congr = λ a b c p. refl;
}
row_cmp_total (term ∷ []) = on_total (λ (row : Row). row.0.0) (value_cmp_total term)
row_cmp_total (term ∷ next ∷ terms) =
    then_total (on_total (λ (row : Row). row.0.0) (value_cmp_total term))
    (then_total (on_total (λ (row : Row). row.0.1) (value_cmp_total next))
    (on_total (λ (row : Row). row.1) (sort_cmp_total terms)))

-- what ties by nothing else is as it was
then_equal : (order : Ordering) → order ≡ ordering_then order Equal
then_equal Less = refl
then_equal Equal = refl
then_equal Greater = refl

-- the rows of two documents compare as the documents do
pub rows_agree : (terms : List SortTerm) (a b : Doc)
    → row_cmp terms (row_for terms a) (row_for terms b) ≡ sort_cmp terms a b
rows_agree [] a b = refl
rows_agree (term ∷ []) a b = then_equal (term_cmp term a b)
rows_agree (term ∷ next ∷ terms) a b = refl

module _ {X Y : Type 0} (lt : Y → Y → Bool) (f : X → Y) where
  -- what an insertion leaves can be read element by element
  pub insert-map : (x : X) (xs : List X)
      → map f (insert (λ a b. lt (f a) (f b)) x xs) ≡ insert lt (f x) (map f xs)
  insert-map x [] = refl
  insert-map x (y ∷ ys) = go (lt (f x) (f y)) (insert-map x ys)
    where
      go : (b : Bool) → map f (insert (λ a b. lt (f a) (f b)) x ys) ≡ insert lt (f x) (map f ys)
          → map f (cond b (x ∷ y ∷ ys) (y ∷ insert (λ a b. lt (f a) (f b)) x ys))
          ≡ cond b (f x ∷ f y ∷ map f ys) (f y ∷ insert lt (f x) (map f ys))
      go true e = refl
      go false e = ap (λ rest. f y ∷ rest) e

  -- and so can a sort of several behind others
  pub ins_from-map : (done xs : List X)
      → map f (ins_from (λ a b. lt (f a) (f b)) done xs) ≡ ins_from lt (map f done) (map f xs)
  ins_from-map done [] = refl
  ins_from-map done (x ∷ xs) =
      ins_from-map (insert (λ a b. lt (f a) (f b)) x done) xs
      ∙ ap (λ d. ins_from lt d (map f xs)) (insert-map x done)

  -- a sort of what stands for elements is the sort of those
  pub ins_sort-map : (xs : List X)
      → map f (ins_sort (λ a b. lt (f a) (f b)) xs) ≡ ins_sort lt (map f xs)
  ins_sort-map xs = ins_from-map [] xs

module _ {X : Type 0} (lt other : X → X → Bool) (same : (a b : X) → lt a b ≡ other a b) where
  -- tests that agree insert alike
  insert-same : (x : X) (xs : List X) → insert lt x xs ≡ insert other x xs
  insert-same x [] = refl
  insert-same x (y ∷ ys) = rw (same x y, insert-same x ys) refl

  -- several behind others too
  ins_from-same : (done xs : List X) → ins_from lt done xs ≡ ins_from other done xs
  ins_from-same done [] = refl
  ins_from-same done (x ∷ xs) =
      ap (λ d. ins_from lt d xs) (insert-same x done) ∙ ins_from-same (insert other x done) xs

  -- and sort alike
  pub ins_sort-same : (xs : List X) → ins_sort lt xs ≡ ins_sort other xs
  ins_sort-same xs = ins_from-same [] xs

-- an order of what is read of elements is one of the elements
pub order_on : {X Y : Type 0} (lt : Y → Y → Bool) (f : X → Y) → IsStrictWeakOrder lt
    → IsStrictWeakOrder {X = X} (λ a b. lt (f a) (f b))
order_on lt f o = record {
  one_way = λ a b. o.one_way (f a) (f b);
  chain = λ a b c. o.chain (f a) (f b) (f c);
}

-- a row comes before another
abbrev pub row_less : List SortTerm → Row → Row → Bool
row_less terms a b = is_lt (row_cmp terms a b)

-- which for the rows of documents is the order of the documents
pub row_less-for : (terms : List SortTerm) (a b : Doc)
    → row_less terms (row_for terms a) (row_for terms b) ≡ less terms a b
unfolding less
row_less-for terms a b = ap is_lt (rows_agree terms a b)

-- the documents of rows
documents : (terms : List SortTerm) (docs : List Doc)
    → map (λ row. row.1) (map (row_for terms) docs) ≡ docs
documents terms [] = refl
documents terms (doc ∷ docs) = ap (λ rest. doc ∷ rest) (documents terms docs)

-- a sort of the rows of documents has the sorted documents
pub sorted_rows : (terms : List SortTerm) (docs : List Doc)
    → map (λ row. row.1) (ins_sort (row_less terms) (map (row_for terms) docs))
    ≡ ins_sort (less terms) docs
sorted_rows terms docs =
    ap (map (λ (row : Row). row.1))
    (sym (ins_sort-map (row_less terms) (row_for terms) docs)
    ∙ ap (map (row_for terms))
    (ins_sort-same (λ a b. row_less terms (row_for terms a) (row_for terms b)) (less terms)
    (row_less-for terms) docs))
    ∙ documents terms (ins_sort (less terms) docs)
