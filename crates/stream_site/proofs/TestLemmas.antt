-- Answers of calls: what isn't true is false, and an answer is no refusal.
use Rattle.std.proofs.Common.{◌≡◌, ◌↔◌, Bool, true, false, refl, sym, ap, subst}
use Rattle.std.specs.Result.{IsErrAnd}
use Rattle.std.specs.Prelude.{Result, Ok, Err}

-- what isn't true is false
pub not_true : (b : Bool) → (b ≡ true → ⊥) → b ≡ false
not_true false n = refl
not_true true n = absurd (n refl)

-- an answer is no refusal
pub ok_is_no_err : {A E : Type 0} (a : A) (e : E) → Ok a ≡ Err e → ⊥
ok_is_no_err a e h = cc

-- two facts that never hold
pub iff_never : {P R : Type 0} → (P → ⊥) → (R → ⊥) → P ↔ R
iff_never f g = (λ p. absurd (f p), λ r. absurd (g r))

-- a refusal of one answer is one of another
pub err_again : {A B E : Type 0} (e f : E) → ◌≡◌ {A = Result A E} (Err e) (Err f)
    → ◌≡◌ {A = Result B E} (Err e) (Err f)
err_again e f h = let same : e ≡ f = cc in ap Err same

-- what is known of a fault is known of it where it is handed on
pub handed_on : {A E : Type 0} (P : Result A E → Type 0) (r : Result A E) (fault : E)
    → IsErrAnd r (λ f. f ≡ fault) → P (Err fault) → P r
handed_on P (Ok a) fault e p = absurd e
handed_on P (Err f) fault e p = subst (λ x. P (Err x)) (sym e) p
