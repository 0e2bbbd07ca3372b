-- The numbers of passes.
use Rattle.std.proofs.Common.{◌≡◌, ◌≢◌, ℕ, zero, suc, ◌+◌, ◌-◌, ◌<◌, [], ◌∷◌, ◌++◌, length, get_or, refl, sym, ap, ◌∙◌, arith, length-append, inl, inr}
use Rattle.std.specs.Prelude.{AllPairs}
use Rattle.std.proofs.lemmas.Bool.{cases_lt}
use Rattle.std.proofs.lemmas.List.{get_or_append_left, get_or-append_right}
use Rattle.running_site.specs.Passes.{numbers_to}

-- one more number
pub numbers-next : (n : ℕ) → numbers_to (n + 1) ≡ numbers_to n ++ (n + 1) ∷ []
numbers-next n =
    let e : n + 1 ≡ suc n = omega arith in
    ap numbers_to e ∙ ap (λ m. numbers_to n ++ m ∷ []) (sym e)

-- how many there are
pub numbers-long : (n : ℕ) → length (numbers_to n) ≡ n
numbers-long zero = refl
numbers-long (suc n) =
    let e = length-append (numbers_to n) (suc n ∷ []) in
    let l = numbers-long n in omega (arith, e, l)

-- the number at a place
pub numbers-at : (n i d : ℕ) → i < n → get_or (numbers_to n) i d ≡ i + 1
numbers-at zero i d lt = absurd (omega (arith, lt))
numbers-at (suc n) i d lt =
    let l = numbers-long n in
    elim (cases_lt i n) [
      | inl less ↦
          get_or_append_left (numbers_to n) (suc n ∷ []) d i (omega (arith, l, less))
          ∙ numbers-at n i d less
      | inr past ↦
          let same : i ≡ n = omega (arith, lt, past) in
          get_or-append_right (numbers_to n) (suc n ∷ []) n i d l past
          ∙ last i n d same
    ]
  where
    last : (i n d : ℕ) → i ≡ n → get_or (suc n ∷ []) (i - n) d ≡ i + 1
    last i n d same =
        let none : i - n ≡ zero = omega (arith, same) in
        ap (λ k. get_or (suc n ∷ []) k d) none ∙ (let e : suc n ≡ i + 1 = omega (arith, same) in e)

-- they differ
pub numbers-differ : (n : ℕ) → AllPairs (λ (a b : ℕ). a ≢ b) (numbers_to n)
numbers-differ n i j d less lt same =
    let l = numbers-long n in
    let a = numbers-at n i d (omega (arith, l, less, lt)) in
    let b = numbers-at n j d (omega (arith, l, lt)) in
    omega (arith, a, b, same, less)
