-- What a look adds where the table has one pass.
use Rattle.std.proofs.Common.{ℕ, zero, suc, ◌+◌, ◌≡◌, ◌≢◌, ◌⊎◌, List, [], ◌∷◌, ◌++◌, length, get_or, sym, refl, ap, ◌∙◌, subst, ⊎_elim, inl, inr, arith, append-nil, length-append}
use Rattle.std.specs.Prelude.{All, Contains}
use Rattle.turn_table.specs.declared.knowledge.Known.{Known}
use Rattle.turn_table.specs.Histories.{at}
use Rattle.turn_table.specs.Steps.{AddsOthers}

-- a list of one number has no other
only-one : (n m : ℕ) → Contains (n ∷ []) m → m ≡ n
only-one n m (zero, low, is) = sym is
only-one n m (suc i, low, is) = absurd (omega arith)

module _ {E : Type 0} where
  -- the last entry of a list is the last of those that were added
  last-added : (early : List E) (x : E) (more : List E) (d : E) (place : ℕ)
      → place ≡ length early + length more
      → get_or (early ++ x ∷ more) place d ≡ get_or (x ∷ more) (length more) d
  last-added [] x more d place is =
      let e : place ≡ length more = omega arith in ap (λ i. get_or (x ∷ more) i d) e
  last-added (y ∷ early) x more d zero is = absurd (omega arith)
  last-added (y ∷ early) x more d (suc place) is =
      last-added early x more d place (omega arith)

  -- a list that grew in two ways by entries of two kinds, which exclude each other, grew by none
  -- in one of them
  grew-once : (P Q : E → Type 0) → ((x : E) → P x → Q x → ⊥) → (s t m l : List E)
      → s ++ m ≡ t ++ l → All P m → All Q l → (m ≡ []) ⊎ (l ≡ [])
  grew-once P Q apart s t [] l e p q = inl refl
  grew-once P Q apart s t (x ∷ m) [] e p q = inr refl
  grew-once P Q apart s t (x ∷ m) (y ∷ l) e p q =
      let long = ap length e in
      let left = length-append s (x ∷ m) in let right = length-append t (y ∷ l) in
      let place : length s + length m ≡ length t + length l = omega (arith, long, left, right) in
      let same : get_or (x ∷ m) (length m) x ≡ get_or (y ∷ l) (length l) x =
      sym (last-added s x m x (length s + length m) refl)
      ∙ (ap (λ l. get_or l (length s + length m) x) e
      ∙ last-added t y l x (length s + length m) place) in
      absurd (apart (get_or (y ∷ l) (length l) x)
      (subst P same (p (length m) x (omega arith))) (q (length l) x (omega arith)))

-- of a table with one pass, a look finds what the pass had seen, or what was there at the start
pub alone-adds : {A E : Type 0} (writer : E → ℕ) (k : Known A E) (cell : ℕ) (entries : List E)
    → k.numbers ≡ k.number ∷ [] → AddsOthers writer k cell entries
    → (entries ≡ at k.seen cell) ⊎ (entries ≡ at k.start cell)
alone-adds {A} {E} writer k cell entries one (others, later) =
    let early = at k.seen cell in let first = at k.start cell in
    let apart : (x : E) → writer x ≢ k.number → Contains k.numbers (writer x) → ⊥ =
    λ x other listed. other (only-one k.number (writer x)
    (subst (λ ns. Contains ns (writer x)) one listed)) in
    ⊎_elim
    (λ (none : others.0 ≡ []).
    inl (others.1 ∙ (ap (λ l. early ++ l) none ∙ append-nil early)))
    (λ (none : later.0 ≡ []).
    inr (later.1 ∙ (ap (λ l. first ++ l) none ∙ append-nil first)))
    (grew-once (λ entry. writer entry ≢ k.number) (λ entry. Contains k.numbers (writer entry))
    apart early first others.0 later.0 (sym others.1 ∙ later.1) others.2 later.2)
