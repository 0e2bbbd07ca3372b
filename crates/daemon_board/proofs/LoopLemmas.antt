-- Steps of the loops over the daemons that are kept.
use Rattle.std.proofs.Common.{◌≡◌, ℕ, zero, suc, ◌+◌, ◌≤◌, min, Bool, true, false, cond, List, [], ◌∷◌, ◌++◌, length, map, Option, Some, None, refl, sym, ap, ◌∙◌, subst, drop, add-one, arith, true≢false}
use Rattle.std.specs.Prelude.{slice_get, take, if◌then◌else◌}
use Rattle.std.specs.List.{AllByRecursion}
use Rattle.std.specs.Option.{IsSome}
use Rattle.tuple_values.specs.Document.{ByteList, Doc}
use Rattle.daemon_board.specs.Daemons.{Entry, is_due, least_due}
use Rattle.daemon_board.specs.Finding.{IsFirst, shown_entries}
use Rattle.daemon_board.specs.Listed.{row_of}
use Rattle.daemon_board.specs.declared.daemon.Daemon.{Daemon}
use Rattle.daemon_board.proofs.PlaceLemmas.{same, none_is_no_some}

-- what is something isn't nothing
pub no-some : {X : Type 0} (o : Option X) → ((x : X) → o ≡ Some x → ⊥) → IsSome o → ⊥
no-some None none some = absurd (true≢false (sym some))
no-some (Some x) none some = none x refl

module _ {K : Type 0} (bytes : K → ByteList) where
  -- the daemon as a board shows it
  abbrev pub entry : K × Daemon → Entry
  entry e = record { id = bytes e.0; daemon = e.1 }

  -- one more doesn't pass
  pub more-fail : (test : Entry → Bool) (es : List (K × Daemon)) (i : ℕ) (e : K × Daemon)
      → Some e ≡ slice_get es i → test (entry e) ≡ false
      → AllByRecursion (λ x. test x ≡ false) (take i (shown_entries bytes es))
      → AllByRecursion (λ x. test x ≡ false) (take (i + 1) (shown_entries bytes es))
  more-fail test es i e at fails h =
      subst (λ n. AllByRecursion (λ x. test x ≡ false) (take n (shown_entries bytes es)))
      (sym (add-one i)) (go es i at h)
    where
      go : (es : List (K × Daemon)) (i : ℕ) → Some e ≡ slice_get es i
          → AllByRecursion (λ x. test x ≡ false) (take i (shown_entries bytes es))
          → AllByRecursion (λ x. test x ≡ false) (take (suc i) (shown_entries bytes es))
      go [] i at h = absurd (none_is_no_some (sym at))
      go (x ∷ es) zero at h = (subst (λ y. test (entry y) ≡ false) (same at) fails, tt)
      go (x ∷ es) (suc i) at h = (h.0, go es i at h.1)

  -- the first one that passes
  pub first-passes : (test : Entry → Bool) (es : List (K × Daemon)) (i : ℕ) (e : K × Daemon)
      → Some e ≡ slice_get es i → test (entry e) ≡ true
      → AllByRecursion (λ x. test x ≡ false) (take i (shown_entries bytes es))
      → IsFirst test (shown_entries bytes es) i
  first-passes test [] i e at passes h = absurd (none_is_no_some (sym at))
  first-passes test (x ∷ es) zero e at passes h =
      subst (λ y. test (entry y) ≡ true) (same at) passes
  first-passes test (x ∷ es) (suc i) e at passes h = (h.0, first-passes test es i e at passes h.1)

  -- none passes
  pub all-fail : (test : Entry → Bool) (es : List (K × Daemon)) (i : ℕ) → length es ≤ i
      → AllByRecursion (λ x. test x ≡ false) (take i (shown_entries bytes es))
      → AllByRecursion (λ x. test x ≡ false) (shown_entries bytes es)
  all-fail test [] i le h = tt
  all-fail test (e ∷ es) zero le h = absurd (omega (arith, le))
  all-fail test (e ∷ es) (suc i) le h = (h.0, all-fail test es i (omega (arith, le)) h.1)

  -- one more may be due
  pub due-goes : (now least : ℕ) (es : List (K × Daemon)) (i : ℕ) (e : K × Daemon)
      → Some e ≡ slice_get es i
      → least_due now least (drop i (shown_entries bytes es))
      ≡ least_due now (if is_due now e.1 then min least e.1.next else least)
      (drop (i + 1) (shown_entries bytes es))
  due-goes now least es i e at =
      go es i at
      ∙ ap (λ n. least_due now (if is_due now e.1 then min least e.1.next else least)
      (drop n (shown_entries bytes es))) (sym (add-one i))
    where
      go : (es : List (K × Daemon)) (i : ℕ) → Some e ≡ slice_get es i
          → least_due now least (drop i (shown_entries bytes es))
          ≡ least_due now (if is_due now e.1 then min least e.1.next else least)
          (drop (suc i) (shown_entries bytes es))
      go [] i at = absurd (none_is_no_some (sym at))
      go (x ∷ es) zero at =
          ap (λ (y : K × Daemon). least_due now (if is_due now y.1 then min least y.1.next else least)
          (shown_entries bytes es)) (sym (same at))
      go (x ∷ es) (suc i) at = go es i at

  pub due-taken : (now least : ℕ) (es : List (K × Daemon)) (i : ℕ) (e : K × Daemon) (new : ℕ)
      → Some e ≡ slice_get es i → is_due now e.1 ≡ true → new ≡ min least e.1.next
      → least_due now least (drop i (shown_entries bytes es))
      ≡ least_due now new (drop (i + 1) (shown_entries bytes es))
  due-taken now least es i e new at due is =
      due-goes now least es i e at
      ∙ ap (λ b. least_due now (if b then min least e.1.next else least) (drop (i + 1) (shown_entries bytes es))) due
      ∙ ap (λ n. least_due now n (drop (i + 1) (shown_entries bytes es))) (sym is)

  pub due-left : (now least : ℕ) (es : List (K × Daemon)) (i : ℕ) (e : K × Daemon) (new : ℕ)
      → Some e ≡ slice_get es i → is_due now e.1 ≡ false → new ≡ least
      → least_due now least (drop i (shown_entries bytes es))
      ≡ least_due now new (drop (i + 1) (shown_entries bytes es))
  due-left now least es i e new at due is =
      due-goes now least es i e at
      ∙ ap (λ b. least_due now (if b then min least e.1.next else least) (drop (i + 1) (shown_entries bytes es))) due
      ∙ ap (λ n. least_due now n (drop (i + 1) (shown_entries bytes es))) (sym is)

  -- at the end none is left
  pub due-ends : (now least : ℕ) (es : List (K × Daemon)) (i : ℕ) → length es ≤ i
      → least_due now least (drop i (shown_entries bytes es)) ≡ least
  due-ends now least [] zero le = refl
  due-ends now least [] (suc i) le = refl
  due-ends now least (e ∷ es) zero le = absurd (omega (arith, le))
  due-ends now least (e ∷ es) (suc i) le = due-ends now least es i (omega (arith, le))

  -- one more is listed
  pub list-goes : (es : List (K × Daemon)) (i : ℕ) (e : K × Daemon) → Some e ≡ slice_get es i
      → map row_of (take i (shown_entries bytes es)) ++ row_of (entry e) ∷ []
      ≡ map row_of (take (i + 1) (shown_entries bytes es))
  list-goes es i e at =
      go es i at ∙ ap (λ n. map row_of (take n (shown_entries bytes es))) (sym (add-one i))
    where
      go : (es : List (K × Daemon)) (i : ℕ) → Some e ≡ slice_get es i
          → map row_of (take i (shown_entries bytes es)) ++ row_of (entry e) ∷ []
          ≡ map row_of (take (suc i) (shown_entries bytes es))
      go [] i at = absurd (none_is_no_some (sym at))
      go (x ∷ es) zero at = ap (λ y. row_of (entry y) ∷ []) (same at)
      go (x ∷ es) (suc i) at = ap (λ l. row_of (entry x) ∷ l) (go es i at)

  -- all are listed
  pub list-ends : (es : List (K × Daemon)) (i : ℕ) → length es ≤ i
      → map row_of (take i (shown_entries bytes es)) ≡ map row_of (shown_entries bytes es)
  list-ends [] zero le = refl
  list-ends [] (suc i) le = refl
  list-ends (e ∷ es) zero le = absurd (omega (arith, le))
  list-ends (e ∷ es) (suc i) le = ap (λ l. row_of (entry e) ∷ l) (list-ends es i (omega (arith, le)))
