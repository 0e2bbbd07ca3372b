-- A document is a finite map: what a lookup finds after each edit, and two documents in order with equal lookups are one.
use Rattle.std.proofs.Common.{◌≡◌, ◌≢◌, ℕ, List, [], ◌∷◌, Option, Some, None, Bool, true, false, cond, filter, refl, ap, sym, ◌∙◌, subst, if◌then◌else◌}
use Rattle.std.specs.Str.{bytes_eq}
use Rattle.std.specs.Option.{option_or}
use Rattle.std.specs.Ordering.{nat_cmp}
use Rattle.std.specs.FinMap.{slice_cmp-IsAntisymmetric}
use Rattle.std.specs.declared.cmp.Ordering.{Ordering}
use Rattle.std.specs.declared.cmp.Ordering.TheVariants.{Less, Equal, Greater}
use Rattle.tuple_values.specs.Document.{ByteList, bytes_cmp, Datum, Doc, IsBelow, Rises, value_at, put, put_by, without, over, is_named}
use Rattle.tuple_values.proofs.BytesLemmas.{greater_back, less_trans, same_left, itself, equal_back, bytes_by}
use Rattle.tuple_values.proofs.DocumentLemmas.{below_absent}
use Rattle.std.proofs.lemmas.Cmp.{ranked}

nat_same : (x y : ℕ) → nat_cmp x y ≡ Equal → x ≡ y
nat_same x y e = ranked x y Equal (sym e)

pub bytes_same : (a b : ByteList) → bytes_cmp a b ≡ Equal → a ≡ b
bytes_same a b e = slice_cmp-IsAntisymmetric nat_same a b e

-- how the first field and the rest give a lookup
value_less : (n : ByteList) (f : ByteList × Datum) (d : Doc) → bytes_cmp f.0 n ≢ Equal → value_at n (f ∷ d) ≡ value_at n d
value_less n f d other = go (bytes_cmp f.0 n) refl
  where
    go : (o : Ordering) → bytes_cmp f.0 n ≡ o → value_at n (f ∷ d) ≡ value_at n d
    go Less e = rw (bytes_by f.0 n Less e) refl
    go Equal e = absurd (other e)
    go Greater e = rw (bytes_by f.0 n Greater e) refl

value_equal : (n : ByteList) (f : ByteList × Datum) (d : Doc) → bytes_cmp f.0 n ≡ Equal → value_at n (f ∷ d) ≡ Some f.1
value_equal n f d e = rw (bytes_by f.0 n Equal e) refl

pub value_put : (n : ByteList) (v : Datum) (d : Doc) → value_at n (put n v d) ≡ Some v
value_put n v [] = value_equal n (n, v) [] (itself n)
value_put n v (f ∷ d) = go (value_put n v d) (bytes_cmp f.0 n) refl
  where
    go : value_at n (put n v d) ≡ Some v → (o : Ordering) → bytes_cmp f.0 n ≡ o → value_at n (put_by o (f ∷ put n v d) ((n, v) ∷ d) ((n, v) ∷ f ∷ d)) ≡ Some v
    go later Less e = value_less n f (put n v d) (λ i. let p : Less ≡ Equal = sym e ∙ i in cc) ∙ later
    go later Equal e = value_equal n (n, v) d (itself n)
    go later Greater e = value_equal n (n, v) (f ∷ d) (itself n)

pub value_put_other : (m n : ByteList) (v : Datum) (d : Doc) → bytes_cmp n m ≢ Equal → value_at m (put n v d) ≡ value_at m d
value_put_other m n v [] other = value_less m (n, v) [] other
value_put_other m n v (f ∷ d) other = go (value_put_other m n v d other) (bytes_cmp f.0 n) refl
  where
    go : value_at m (put n v d) ≡ value_at m d → (o : Ordering) → bytes_cmp f.0 n ≡ o → value_at m (put_by o (f ∷ put n v d) ((n, v) ∷ d) ((n, v) ∷ f ∷ d)) ≡ value_at m (f ∷ d)
    go later Less e = ap (λ (r : Option Datum). if bytes_eq f.0 m then Some f.1 else r) later
    go later Equal e = value_less m (n, v) d other ∙ sym (value_less m f d (λ i. other (sym (same_left f.0 n m e) ∙ i)))
    go later Greater e = value_less m (n, v) (f ∷ d) other

-- the right one's value where names meet
pub value_over : (n : ByteList) (l r : Doc) → Rises r → value_at n (over l r) ≡ option_or (value_at n r) (value_at n l)
value_over n l [] rises = refl
value_over n l (f ∷ r) rises = value_over n (put f.0 f.1 l) r rises.1 ∙ go (bytes_cmp f.0 n) refl
  where
    apart : bytes_cmp f.0 n ≢ Equal → option_or (value_at n r) (value_at n (put f.0 f.1 l)) ≡ option_or (value_at n (f ∷ r)) (value_at n l)
    apart other = ap (option_or (value_at n r)) (value_put_other n f.0 f.1 l other) ∙ ap (λ (w : Option Datum). option_or w (value_at n l)) (sym (value_less n f r other))

    go : (o : Ordering) → bytes_cmp f.0 n ≡ o → option_or (value_at n r) (value_at n (put f.0 f.1 l)) ≡ option_or (value_at n (f ∷ r)) (value_at n l)
    go Less e = apart (λ i. let p : Less ≡ Equal = sym e ∙ i in cc)
    go Greater e = apart (λ i. let p : Greater ≡ Equal = sym e ∙ i in cc)
    go Equal e =
        let is = bytes_same f.0 n e in
        ap (λ (w : Option Datum). option_or w (value_at n (put f.0 f.1 l))) (subst (λ m. value_at m r ≡ None) is (below_absent f.0 r rises.0))
        ∙ subst (λ m. value_at m (put f.0 f.1 l) ≡ Some f.1) is (value_put f.0 f.1 l)
        ∙ ap (λ (w : Option Datum). option_or w (value_at n l)) (sym (value_equal n f r e))

-- behind two fields of one name lookups agree where they agree over all
tails : (n : ByteList) (f : ByteList × Datum) (d : Doc) (g : ByteList × Datum) (e : Doc) → IsBelow f.0 d → IsBelow g.0 e → bytes_cmp f.0 g.0 ≡ Equal
    → value_at n (f ∷ d) ≡ value_at n (g ∷ e) → value_at n d ≡ value_at n e
tails n f d g e bd be i same = go (bytes_cmp f.0 n) refl
  where
    other : bytes_cmp f.0 n ≢ Equal → value_at n d ≡ value_at n e
    other apart = sym (value_less n f d apart) ∙ same ∙ value_less n g e (λ j. apart (same_left f.0 g.0 n i ∙ j))

    go : (o : Ordering) → bytes_cmp f.0 n ≡ o → value_at n d ≡ value_at n e
    go Less j = other (λ k. let p : Less ≡ Equal = sym j ∙ k in cc)
    go Greater j = other (λ k. let p : Greater ≡ Equal = sym j ∙ k in cc)
    go Equal j =
        let here = bytes_same f.0 n j in
        let there = bytes_same g.0 n (sym (same_left f.0 g.0 n i) ∙ j) in
        subst (λ m. value_at m d ≡ None) here (below_absent f.0 d bd) ∙ sym (subst (λ m. value_at m e ≡ None) there (below_absent g.0 e be))

-- two documents in order that answer each lookup alike are one
pub same_doc : (d e : Doc) → Rises d → Rises e → ((n : ByteList) → value_at n d ≡ value_at n e) → d ≡ e
same_doc [] [] rd re same = refl
same_doc [] (g ∷ e) rd re same = absurd (let p : None ≡ Some g.1 = same g.0 ∙ value_equal g.0 g e (itself g.0) in cc)
same_doc (f ∷ d) [] rd re same = absurd (let p : Some f.1 ≡ None = sym (value_equal f.0 f d (itself f.0)) ∙ same f.0 in cc)
same_doc (f ∷ d) (g ∷ e) rd re same = go (same_doc d e rd.1 re.1) (bytes_cmp f.0 g.0) refl
  where
    none_more : (n : ByteList) (g : ByteList × Datum) (e : Doc) → bytes_cmp n g.0 ≡ Less → IsBelow g.0 e → value_at n (g ∷ e) ≡ None
    none_more n g e less below = below_absent n (g ∷ e) (less, more e below)
      where
        more : (e : Doc) → IsBelow g.0 e → IsBelow n e
        more [] below = tt
        more (h ∷ e) below = (less_trans n g.0 h.0 less below.0, more e below.1)

    go : (((n : ByteList) → value_at n d ≡ value_at n e) → d ≡ e) → (o : Ordering) → bytes_cmp f.0 g.0 ≡ o → f ∷ d ≡ g ∷ e
    go later Less i = absurd (let p : Some f.1 ≡ None = sym (value_equal f.0 f d (itself f.0)) ∙ same f.0 ∙ none_more f.0 g e i re.0 in cc)
    go later Greater i = absurd (let p : None ≡ Some g.1 = sym (none_more g.0 f d (greater_back f.0 g.0 i) rd.0) ∙ same g.0 ∙ value_equal g.0 g e (itself g.0) in cc)
    go later Equal i =
        let names : f.0 ≡ g.0 = bytes_same f.0 g.0 i in
        let values : Some f.1 ≡ Some g.1 = sym (value_equal f.0 f d (itself f.0)) ∙ same f.0 ∙ value_equal f.0 g e (equal_back f.0 g.0 i) in
        let rest : d ≡ e = later (λ n. tails n f d g e rd.0 re.0 i (same n)) in
        let value : f.1 ≡ g.1 = cc in
        ap (λ (n : ByteList). (n, f.1) ∷ d) names ∙ ap (λ (v : Datum). (g.0, v) ∷ d) value ∙ ap (λ (r : Doc). g ∷ r) rest

-- a removed name is absent
pub value_without : (n : ByteList) (d : Doc) → Rises d → value_at n (without n d) ≡ None
value_without n [] rises = refl
value_without n (f ∷ d) rises = go (value_without n d rises.1) (bytes_cmp f.0 n) refl
  where
    go : value_at n (without n d) ≡ None → (o : Ordering) → bytes_cmp f.0 n ≡ o
        → value_at n (put_by o (f ∷ without n d) d (f ∷ without n d)) ≡ None
    go later Less e = value_less n f (without n d) (λ i. let p : Less ≡ Equal = sym e ∙ i in cc) ∙ later
    go later Equal e = subst (λ m. value_at m d ≡ None) (bytes_same f.0 n e) (below_absent f.0 d rises.0)
    go later Greater e = value_less n f (without n d) (λ i. let p : Greater ≡ Equal = sym e ∙ i in cc) ∙ later

-- and every other name stays
pub value_without_other : (m n : ByteList) (d : Doc) → bytes_cmp n m ≢ Equal
    → value_at m (without n d) ≡ value_at m d
value_without_other m n [] other = refl
value_without_other m n (f ∷ d) other =
    go (value_without_other m n d other) (bytes_cmp f.0 n) refl
  where
    go : value_at m (without n d) ≡ value_at m d → (o : Ordering) → bytes_cmp f.0 n ≡ o
        → value_at m (put_by o (f ∷ without n d) d (f ∷ without n d)) ≡ value_at m (f ∷ d)
    go later Less e = ap (λ (r : Option Datum). if bytes_eq f.0 m then Some f.1 else r) later
    go later Equal e = sym (value_less m f d (λ i. other (sym (same_left f.0 n m e) ∙ i)))
    go later Greater e = ap (λ (r : Option Datum). if bytes_eq f.0 m then Some f.1 else r) later

-- a field that a list doesn't name has another name than one that it names
apart_by : (names : List ByteList) (n : ByteList) (f : ByteList × Datum) (b : Bool)
    → is_named f.0 names ≡ b → is_named n names ≢ b → bytes_cmp f.0 n ≢ Equal
apart_by names n f b here other same =
    other (subst (λ m. is_named m names ≡ b) (bytes_same f.0 n same) here)

-- a name that is cut to is as before
pub value_cut : (n : ByteList) (names : List ByteList) (d : Doc) → is_named n names ≡ true
    → value_at n (filter (λ f. is_named f.0 names) d) ≡ value_at n d
value_cut n names [] named = refl
value_cut n names (f ∷ d) named =
    go (value_cut n names d named) (is_named f.0 names) refl
  where
    kept : List (ByteList × Datum)
    kept = filter (λ g. is_named g.0 names) d

    go : value_at n kept ≡ value_at n d → (b : Bool) → is_named f.0 names ≡ b
        → value_at n (cond b (f ∷ kept) kept) ≡ value_at n (f ∷ d)
    go later true e = ap (λ (r : Option Datum). if bytes_eq f.0 n then Some f.1 else r) later
    go later false e =
        later ∙ sym (value_less n f d (apart_by names n f false e
        (λ i. let p : true ≡ false = sym named ∙ i in cc)))

-- and another name is absent
pub value_cut_other : (n : ByteList) (names : List ByteList) (d : Doc) → is_named n names ≡ false
    → value_at n (filter (λ f. is_named f.0 names) d) ≡ None
value_cut_other n names [] named = refl
value_cut_other n names (f ∷ d) named =
    go (value_cut_other n names d named) (is_named f.0 names) refl
  where
    kept : List (ByteList × Datum)
    kept = filter (λ g. is_named g.0 names) d

    go : value_at n kept ≡ None → (b : Bool) → is_named f.0 names ≡ b
        → value_at n (cond b (f ∷ kept) kept) ≡ None
    go later true e =
        value_less n f kept (apart_by names n f true e
        (λ i. let p : false ≡ true = sym named ∙ i in cc)) ∙ later
    go later false e = later
