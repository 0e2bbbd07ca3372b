-- Tests of each item of a list, and of each number below a bound.
use Rattle.std.proofs.Common.{◌≡◌, ℕ, ◌+◌, ◌<◌, ◌≤◌, Bool, true, false, List, length, get_or, take, refl, sym, subst, Decides, arith}
use Rattle.std.proofs.lemmas.Bool.{false≢true}
use Rattle.std.specs.List.{AllByRecursion}
use Rattle.shard_versions.specs.declared.entry.Entry.{Entry}
use Rattle.shard_versions.proofs.ListLemmas.{each_more, each_at, each_end}

module _ {X : Type 0} (P : X → Type 0) (xs : List X) (i : ℕ) where
  -- where one item fails, not each passes
  pub each-fails : (x : X) (r : Bool) → i < length xs → x ≡ get_or xs i x → Decides r (P x) → r ≡ false
      → Decides false (AllByRecursion P xs)
  each-fails x r lt is d e = (
    λ f. absurd (false≢true f),
    λ a.
        let p : P x = subst P (sym is) (each_at P xs i x lt a) in
        let t : r ≡ true = d.1 p in cc,
  )

  -- where it passes, those before it and it pass
  pub each-goes : (x : X) (r : Bool) → i < length xs → x ≡ get_or xs i x → Decides r (P x) → r ≡ true
      → AllByRecursion P (take i xs) → AllByRecursion P (take (i + 1) xs)
  each-goes x r lt is d e a = each_more P xs i x lt a (subst P is (d.0 e))

  -- at the end each passes
  pub each-ends : length xs ≤ i → AllByRecursion P (take i xs) → Decides true (AllByRecursion P xs)
  each-ends le a = (λ e. each_end P xs i le a, λ a'. refl)

module _ (P : ℕ → Type 0) (n i : ℕ) where
  -- where one number fails, not each below the bound passes
  pub below-fails : (r : Bool) → i < n → Decides r (P i) → r ≡ false → Decides false ((k : ℕ) → k < n → P k)
  below-fails r lt d e = (λ f. absurd (false≢true f), λ a. let t : r ≡ true = d.1 (a i lt) in cc)

  -- where none did, each passes
  pub below-ends : n ≤ i → ((k : ℕ) → k < i → P k) → Decides true ((k : ℕ) → k < n → P k)
  below-ends le a = (λ e k l. a k (omega arith), λ a'. refl)

-- one more entry carries the number
pub own-more : (actor : ℕ) (es : List Entry) (i : ℕ) (d : Entry) → i < length es
    → AllByRecursion (λ e. e.by ≡ actor) (take i es) → (get_or es i d).by ≡ actor
    → AllByRecursion (λ e. e.by ≡ actor) (take (i + 1) es)
own-more actor es i d lt a t = each_more (λ (e : Entry). e.by ≡ actor) es i d lt a t

-- not each carries it where one doesn't
pub own-fails : (actor : ℕ) (es : List Entry) (i : ℕ) (d : Entry) → i < length es
    → ((get_or es i d).by ≡ actor → ⊥) → AllByRecursion (λ e. e.by ≡ actor) es → ⊥
own-fails actor es i d lt fails a = fails (each_at (λ (e : Entry). e.by ≡ actor) es i d lt a)

-- each does at the end
pub own-end : (actor : ℕ) (es : List Entry) (i : ℕ) → length es ≤ i
    → AllByRecursion (λ e. e.by ≡ actor) (take i es) → AllByRecursion (λ e. e.by ≡ actor) es
own-end actor es i le a = each_end (λ (e : Entry). e.by ≡ actor) es i le a

-- what the test of writers needs
pub ruleset own_steps = (own-more, own-fails, own-end)
