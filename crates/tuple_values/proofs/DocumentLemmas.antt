-- What a lookup and an edit of a document are at a place.
use Rattle.std.proofs.Common.{◌≡◌, ℕ, zero, suc, ◌<◌, ◌≤◌, [], ◌∷◌, length, get_or, set, Some, None, refl, ap, sym, ◌∙◌, arith, Bool, true, false, cond, filter}
use Rattle.std.specs.Prelude.{slice_get, option_map}
use Rattle.std.specs.List.{insert, remove}
use Rattle.std.specs.declared.cmp.Ordering.{Ordering}
use Rattle.std.specs.declared.cmp.Ordering.TheVariants.{Less, Equal, Greater}
use Rattle.tuple_values.specs.Document.{ByteList, bytes_cmp, Datum, Doc, IsBelow, Rises, IsAt, IsGap, value_at, put, put_by, without}
use Rattle.tuple_values.proofs.BytesLemmas.{less_back, greater_back, less_trans, same_left, bytes_by}

pub at_within : (n : ByteList) (i : ℕ) (d : Doc) → IsAt n i d → i < length d
at_within n i [] at = absurd at
at_within n zero (f ∷ d) at = omega arith
at_within n (suc i) (f ∷ d) at = omega (arith, at_within n i d at.1)

pub gap_within : (n : ByteList) (i : ℕ) (d : Doc) → IsGap n i d → i ≤ length d
gap_within n zero d gap = omega arith
gap_within n (suc i) [] gap = absurd gap
gap_within n (suc i) (f ∷ d) gap = omega (arith, gap_within n i d gap.1)

pub value_found : (n : ByteList) (i : ℕ) (d : Doc) (e : ByteList × Datum) → IsAt n i d → value_at n d ≡ Some (get_or d i e).1
value_found n i [] e at = absurd at
value_found n zero (f ∷ d) e at = rw (bytes_by f.0 n Equal at) refl
value_found n (suc i) (f ∷ d) e at = rw (bytes_by f.0 n Less at.0) (value_found n i d e at.1)

-- the value at the place of a name
pub placed : (n : ByteList) (i : ℕ) (d : Doc) → IsAt n i d
    → option_map (λ f. f.1) (slice_get d i) ≡ value_at n d
placed n i [] at = absurd at
placed n zero (f ∷ d) at = rw (bytes_by f.0 n Equal at) refl
placed n (suc i) (f ∷ d) at = rw (bytes_by f.0 n Less at.0) (placed n i d at.1)

-- there is no value past the last field
pub placed_past : (d : Doc) → option_map (λ f. f.1) (slice_get d (length d)) ≡ None
placed_past [] = refl
placed_past (f ∷ d) = placed_past d

pub below_absent : (n : ByteList) (d : Doc) → IsBelow n d → value_at n d ≡ None
below_absent n [] below = refl
below_absent n (f ∷ d) below = rw (bytes_by f.0 n Greater (less_back n f.0 below.0)) (below_absent n d below.1)

pub value_absent : (n : ByteList) (i : ℕ) (d : Doc) → IsGap n i d → value_at n d ≡ None
value_absent n zero d gap = below_absent n d gap
value_absent n (suc i) [] gap = absurd gap
value_absent n (suc i) (f ∷ d) gap = rw (bytes_by f.0 n Less gap.0) (value_absent n i d gap.1)

pub put_found : (n : ByteList) (v : Datum) (i : ℕ) (d : Doc) → IsAt n i d → put n v d ≡ set d i (n, v)
put_found n v i [] at = absurd at
put_found n v zero (f ∷ d) at = rw at refl
put_found n v (suc i) (f ∷ d) at = rw at.0 (ap (λ (r : Doc). f ∷ r) (put_found n v i d at.1))

put_first : (n : ByteList) (v : Datum) (d : Doc) → IsBelow n d → put n v d ≡ (n, v) ∷ d
put_first n v [] below = refl
put_first n v (f ∷ d) below = rw (less_back n f.0 below.0) refl

pub put_absent : (n : ByteList) (v : Datum) (i : ℕ) (d : Doc) → IsGap n i d → put n v d ≡ insert d i (n, v)
put_absent n v zero d gap = put_first n v d gap
put_absent n v (suc i) [] gap = absurd gap
put_absent n v (suc i) (f ∷ d) gap = rw gap.0 (ap (λ (r : Doc). f ∷ r) (put_absent n v i d gap.1))

pub without_found : (n : ByteList) (i : ℕ) (d : Doc) → IsAt n i d → without n d ≡ remove d i
without_found n i [] at = absurd at
without_found n zero (f ∷ d) at = rw at refl
without_found n (suc i) (f ∷ d) at = rw at.0 (ap (λ (r : Doc). f ∷ r) (without_found n i d at.1))

below_without : (n : ByteList) (d : Doc) → IsBelow n d → without n d ≡ d
below_without n [] below = refl
below_without n (f ∷ d) below = rw (less_back n f.0 below.0) (ap (λ (r : Doc). f ∷ r) (below_without n d below.1))

pub without_absent : (n : ByteList) (i : ℕ) (d : Doc) → IsGap n i d → without n d ≡ d
without_absent n zero d gap = below_without n d gap
without_absent n (suc i) [] gap = absurd gap
without_absent n (suc i) (f ∷ d) gap = rw gap.0 (ap (λ (r : Doc). f ∷ r) (without_absent n i d gap.1))

-- below all of a document
pub below_more : (m n : ByteList) (d : Doc) → bytes_cmp m n ≡ Less → IsBelow n d → IsBelow m d
below_more m n [] less below = tt
below_more m n (f ∷ d) less below = (less_trans m n f.0 less below.0, below_more m n d less below.1)

below_put : (m n : ByteList) (v : Datum) (d : Doc) → bytes_cmp m n ≡ Less → IsBelow m d → IsBelow m (put n v d)
below_put m n v [] less below = (less, tt)
below_put m n v (f ∷ d) less below = go (below_put m n v d less below.1) (bytes_cmp f.0 n)
  where
    go : IsBelow m (put n v d) → (o : Ordering) → IsBelow m (put_by o (f ∷ put n v d) ((n, v) ∷ d) ((n, v) ∷ f ∷ d))
    go later Less = (below.0, later)
    go later Equal = (less, below.1)
    go later Greater = (less, below)

-- the same name is below too
below_same : (m n : ByteList) (d : Doc) → bytes_cmp m n ≡ Equal → IsBelow m d → IsBelow n d
below_same m n [] e below = tt
below_same m n (f ∷ d) e below = (sym (same_left m n f.0 e) ∙ below.0, below_same m n d e below.1)

pub put_rises : (n : ByteList) (v : Datum) (d : Doc) → Rises d → Rises (put n v d)
put_rises n v [] rises = (tt, tt)
put_rises n v (f ∷ d) rises = go (put_rises n v d rises.1) (bytes_cmp f.0 n) refl
  where
    go : Rises (put n v d) → (o : Ordering) → bytes_cmp f.0 n ≡ o → Rises (put_by o (f ∷ put n v d) ((n, v) ∷ d) ((n, v) ∷ f ∷ d))
    go later Less e = (below_put f.0 n v d e rises.0, later)
    go later Equal e = (below_same f.0 n d e rises.0, rises.1)
    go later Greater e = let less = greater_back f.0 n e in ((less, below_more n f.0 d less rises.0), rises)

pub below_without_too : (m n : ByteList) (d : Doc) → IsBelow m d → IsBelow m (without n d)
below_without_too m n [] below = tt
below_without_too m n (f ∷ d) below = go (below_without_too m n d below.1) (bytes_cmp f.0 n)
  where
    go : IsBelow m (without n d) → (o : Ordering) → IsBelow m (put_by o (f ∷ without n d) d (f ∷ without n d))
    go later Less = (below.0, later)
    go later Equal = below.1
    go later Greater = (below.0, later)

pub without_rises : (n : ByteList) (d : Doc) → Rises d → Rises (without n d)
without_rises n [] rises = tt
without_rises n (f ∷ d) rises = go (without_rises n d rises.1) (bytes_cmp f.0 n)
  where
    go : Rises (without n d) → (o : Ordering) → Rises (put_by o (f ∷ without n d) d (f ∷ without n d))
    go later Less = (below_without_too f.0 n d rises.0, later)
    go later Equal = rises.1
    go later Greater = (below_without_too f.0 n d rises.0, later)

below_kept : (n : ByteList) (f : ByteList × Datum) (d : Doc) → bytes_cmp n f.0 ≡ Less → IsBelow n d → (b : Bool) → IsBelow n (cond b (f ∷ d) d)
below_kept n f d here below true = (here, below)
below_kept n f d here below false = below

below-filter : (n : ByteList) (p : ByteList × Datum → Bool) (d : Doc) → IsBelow n d → IsBelow n (filter p d)
below-filter n p [] below = tt
below-filter n p (f ∷ d) below = below_kept n f (filter p d) below.0 (below-filter n p d below.1) (p f)

rises_kept : (f : ByteList × Datum) (d : Doc) → IsBelow f.0 d → Rises d → (b : Bool) → Rises (cond b (f ∷ d) d)
rises_kept f d below rises true = (below, rises)
rises_kept f d below rises false = rises

pub rises-filter : (p : ByteList × Datum → Bool) (d : Doc) → Rises d → Rises (filter p d)
rises-filter p [] rises = tt
rises-filter p (f ∷ d) rises = rises_kept f (filter p d) (below-filter f.0 p d rises.0) (rises-filter p d rises.1) (p f)
