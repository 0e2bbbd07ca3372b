-- Places of daemons, and what is changed at them.
use Rattle.std.proofs.Common.{◌≡◌, ℕ, zero, suc, ◌+◌, Bool, true, false, cond, List, [], ◌∷◌, ◌++◌, length, Option, Some, None, refl, sym, ap, ◌∙◌, subst, true≢false}
use Rattle.std.specs.Prelude.{slice_get, bytes_eq, nat_le, ◌==◌, ◌||◌, ◌^◌, ◌-◌}
use Rattle.std.specs.List.{AllByRecursion, remove, position}
use Rattle.std.specs.Map.{keys_of, values_of, lookup}
use Rattle.std.specs.Option.{is_some}
use Rattle.indexmap.specs.IndexMap.{set_value_at}
use Rattle.indexmap.proofs.MapLemmas.{Found-position, Missing-position, index-first}
use Rattle.tuple_values.specs.Document.{ByteList}
use Rattle.daemon_board.specs.Daemons.{Entry, first_such, change_first, without_first, has_id, is_full}
use Rattle.daemon_board.specs.Finding.{IsFirst, IsPlace, shown_entries}
use Rattle.daemon_board.specs.declared.daemon.Daemon.{Daemon}

-- the value of an option that is the other's
pub same : {X : Type 0} {x y : X} → Some x ≡ Some y → x ≡ y
same {X} {x} e = ap (λ (o : Option X). value o) e
  where
    value : Option X → X
    value None = x
    value (Some z) = z

-- nothing isn't something
pub none_is_no_some : {X : Type 0} {x : X} → None ≡ Some x → ⊥
none_is_no_some {X} e = subst (λ o. shows o) e tt
  where
    shows : Option X → Type 0
    shows None = Unit {0}
    shows (Some x) = ⊥

-- no daemon passes, so none is first, changed or removed
pub none-such : (test : Entry → Bool) (es : List Entry)
    → AllByRecursion (λ e. test e ≡ false) es → first_such test es ≡ None
none-such test [] h = refl
none-such test (e ∷ es) h =
    ap (λ b. cond b (Some e) (first_such test es)) h.0 ∙ none-such test es h.1

pub none-changed : (test : Entry → Bool) (f : Daemon → Daemon) (es : List Entry)
    → AllByRecursion (λ e. test e ≡ false) es → change_first test f es ≡ es
none-changed test f [] h = refl
none-changed test f (e ∷ es) h =
    ap (λ b. cond b (record e { daemon = f e.daemon } ∷ es) (e ∷ change_first test f es)) h.0
    ∙ ap (λ l. e ∷ l) (none-changed test f es h.1)

pub none-removed : (test : Entry → Bool) (es : List Entry)
    → AllByRecursion (λ e. test e ≡ false) es → without_first test es ≡ es
none-removed test [] h = refl
none-removed test (e ∷ es) h =
    ap (λ b. cond b es (e ∷ without_first test es)) h.0
    ∙ ap (λ l. e ∷ l) (none-removed test es h.1)

-- where none is first, none passes
pub all-false : (test : Entry → Bool) (es : List Entry) → is_some (first_such test es) ≡ false
    → AllByRecursion (λ e. test e ≡ false) es
all-false test [] h = tt
all-false test (e ∷ es) h = by (test e) refl (all-false test es)
  where
    by : (b : Bool) → test e ≡ b
        → (is_some (first_such test es) ≡ false → AllByRecursion (λ x. test x ≡ false) es)
        → AllByRecursion (λ x. test x ≡ false) (e ∷ es)
    by true is rest =
        absurd (true≢false (sym (ap (λ b. is_some (cond b (Some e) (first_such test es))) is) ∙ h))
    by false is rest =
        (is, rest (sym (ap (λ b. is_some (cond b (Some e) (first_such test es))) is) ∙ h))

-- where there is a place, a daemon passes
pub some-first : (test : Entry → Bool) (es : List Entry) (i : ℕ) → IsFirst test es i
    → is_some (first_such test es) ≡ true
some-first test [] i h = absurd h
some-first test (e ∷ es) zero h = ap (λ b. is_some (cond b (Some e) (first_such test es))) h
some-first test (e ∷ es) (suc i) h =
    ap (λ b. is_some (cond b (Some e) (first_such test es))) h.0 ∙ some-first test es i h.1

pub some-place : (test : Entry → Bool) (es : List Entry) (place : Option ℕ) → IsPlace test es place
    → is_some place ≡ is_some (first_such test es)
some-place test es None h = sym (ap is_some (none-such test es h))
some-place test es (Some i) h = sym (some-first test es i h)

module _ {K : Type 0} (bytes : K → ByteList) where
  -- as many are shown as are kept
  pub shown-length : (es : List (K × Daemon)) → length (shown_entries bytes es) ≡ length es
  shown-length [] = refl
  shown-length (e ∷ es) = ap suc (shown-length es)

  -- whether the board is full, by how many are kept
  pub full-by : (es : List (K × Daemon)) (n put : ℕ) → n ≡ length es
      → (nat_le 256 n || put == 2 ^ 64 - 1)
      ≡ is_full (record { daemons = shown_entries bytes es; put = put })
  full-by es n put is = ap (λ m. nat_le 256 m || put == 2 ^ 64 - 1) (is ∙ sym (shown-length es))

  -- the daemon with an id stands where its key does
  by_id : (id : ByteList) (es : List (K × Daemon)) (i : ℕ)
      → position (λ k. bytes_eq id (bytes k)) (keys_of es) ≡ Some i
      → IsFirst (has_id id) (shown_entries bytes es) i
  by_id id [] i p = absurd (none_is_no_some p)
  by_id id (e ∷ es) zero p = (Found-position (λ k. bytes_eq id (bytes k)) (e ∷ es) zero p).first
  by_id id (e ∷ es) (suc i) p =
      let h = (Found-position (λ k. bytes_eq id (bytes k)) (e ∷ es) (suc i) p).first in
      (h.0, by_id id es i (index-first (λ k. bytes_eq id (bytes k)) es i h.1))

  no_id : (id : ByteList) (es : List (K × Daemon))
      → AllByRecursion (λ k. bytes_eq id (bytes k) ≡ false) (keys_of es)
      → AllByRecursion (λ e. has_id id e ≡ false) (shown_entries bytes es)
  no_id id [] h = tt
  no_id id (e ∷ es) h = (h.0, no_id id es h.1)

  pub placed-by_id : (id : ByteList) (es : List (K × Daemon)) (place : Option ℕ)
      → place ≡ position (λ k. bytes_eq id (bytes k)) (keys_of es)
      → IsPlace (has_id id) (shown_entries bytes es) place
  placed-by_id id es None p =
      no_id id es (Missing-position (λ k. bytes_eq id (bytes k)) es (sym p)).absent
  placed-by_id id es (Some i) p = by_id id es i (sym p)

  -- something does stand at the place of the first daemon that passes
  pub some-at : (test : Entry → Bool) (es : List (K × Daemon)) (i : ℕ)
      → IsFirst test (shown_entries bytes es) i → None ≡ slice_get (values_of es) i → ⊥
  some-at test [] i h none = h
  some-at test (e ∷ es) zero h none = none_is_no_some none
  some-at test (e ∷ es) (suc i) h none = some-at test es i h.1 none

  -- what stands at the place of the first daemon that passes
  pub first-at : (test : Entry → Bool) (es : List (K × Daemon)) (i : ℕ) (d : Daemon)
      → IsFirst test (shown_entries bytes es) i → Some d ≡ slice_get (values_of es) i
      → (id : ByteList) × (first_such test (shown_entries bytes es) ≡ Some (record { id = id; daemon = d }))
  first-at test [] i d h at = absurd h
  first-at test (e ∷ es) zero d h at = (
    bytes e.0,
    ap (λ b. cond b (Some (record { id = bytes e.0; daemon = e.1 })) (first_such test (shown_entries bytes es))) h
        ∙ ap (λ x. Some (record { id = bytes e.0; daemon = x })) (same (sym at)),
  )
  first-at test (e ∷ es) (suc i) d h at =
      let rest = first-at test es i d h.1 at in (
        rest.0,
        ap (λ b. cond b (Some (record { id = bytes e.0; daemon = e.1 })) (first_such test (shown_entries bytes es))) h.0
            ∙ rest.1,
      )

  -- a change at that place changes the first daemon that passes
  pub changed-at : (test : Entry → Bool) (f : Daemon → Daemon) (es : List (K × Daemon)) (i : ℕ)
      (d w : Daemon) → IsFirst test (shown_entries bytes es) i
      → Some d ≡ slice_get (values_of es) i → w ≡ f d
      → shown_entries bytes (set_value_at es i w) ≡ change_first test f (shown_entries bytes es)
  changed-at test f [] i d w h at is = absurd h
  changed-at test f (e ∷ es) zero d w h at is =
      ap (λ x. record { id = bytes e.0; daemon = x } ∷ shown_entries bytes es) (is ∙ ap f (same at))
      ∙ sym (ap (λ b. cond b (record { id = bytes e.0; daemon = f e.1 } ∷ shown_entries bytes es)
      (record { id = bytes e.0; daemon = e.1 } ∷ change_first test f (shown_entries bytes es))) h)
  changed-at test f (e ∷ es) (suc i) d w h at is =
      ap (λ l. record { id = bytes e.0; daemon = e.1 } ∷ l) (changed-at test f es i d w h.1 at is)
      ∙ sym (ap (λ b. cond b (record { id = bytes e.0; daemon = f e.1 } ∷ shown_entries bytes es)
      (record { id = bytes e.0; daemon = e.1 } ∷ change_first test f (shown_entries bytes es))) h.0)

  -- so does a removal
  pub removed-at : (test : Entry → Bool) (es : List (K × Daemon)) (i : ℕ)
      → IsFirst test (shown_entries bytes es) i
      → shown_entries bytes (remove es i) ≡ without_first test (shown_entries bytes es)
  removed-at test [] i h = absurd h
  removed-at test (e ∷ es) zero h =
      sym (ap (λ b. cond b (shown_entries bytes es)
      (record { id = bytes e.0; daemon = e.1 } ∷ without_first test (shown_entries bytes es))) h)
  removed-at test (e ∷ es) (suc i) h =
      ap (λ l. record { id = bytes e.0; daemon = e.1 } ∷ l) (removed-at test es i h.1)
      ∙ sym (ap (λ b. cond b (shown_entries bytes es)
      (record { id = bytes e.0; daemon = e.1 } ∷ without_first test (shown_entries bytes es))) h.0)

  -- one more at the end
  pub shown-push : (es : List (K × Daemon)) (k : K) (d : Daemon)
      → shown_entries bytes (es ++ (k, d) ∷ [])
      ≡ shown_entries bytes es ++ record { id = bytes k; daemon = d } ∷ []
  shown-push [] k d = refl
  shown-push (e ∷ es) k d =
      ap (λ l. record { id = bytes e.0; daemon = e.1 } ∷ l) (shown-push es k d)

  -- nothing is looked up under an id that isn't there
  pub absent-key : (id : ByteList) (es : List (K × Daemon))
      → is_some (first_such (has_id id) (shown_entries bytes es)) ≡ false
      → lookup (λ k. bytes_eq id (bytes k)) es ≡ None
  absent-key id [] h = refl
  absent-key id (e ∷ es) h = by (bytes_eq id (bytes e.0)) (absent-key id es) h
    where
      by : (b : Bool)
          → (is_some (first_such (has_id id) (shown_entries bytes es)) ≡ false
          → lookup (λ k. bytes_eq id (bytes k)) es ≡ None)
          → is_some (cond b (Some (record { id = bytes e.0; daemon = e.1 }))
          (first_such (has_id id) (shown_entries bytes es))) ≡ false
          → cond b (Some e.1) (lookup (λ k. bytes_eq id (bytes k)) es) ≡ None
      by true rest is = absurd (true≢false is)
      by false rest is = rest is
