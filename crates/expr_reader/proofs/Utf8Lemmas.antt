-- Characters as bytes: where bytes stop being text, and which bytes begin a character.
use Rattle.std.proofs.Common.{◌≡◌, ◌⊎◌, inl, inr, ⊎_elim, ℕ, ◌+◌, ◌-◌, ◌*◌, ◌/◌, ◌<◌}
use Rattle.std.proofs.Common.{◌≤◌, true, List, [], ◌∷◌}
use Rattle.std.proofs.Common.{sym, subst, ◌∙◌, arith}
use Rattle.std.proofs.lemmas.Bool.{cases_lt}
use Rattle.std.proofs.lemmas.Bool.Decides.{nat_tests}
use lib.Utf8.{scalar, scalar_cases, low_scalar, encode, next}
use Rattle.expr_reader.specs.Letters.{is_lead, is_second}

-- a byte that goes on with a character
abbrev pub Follows : ℕ → Type 0
Follows b = (128 ≤ b) × (b < 192)

-- the bytes of a character past ASCII, by how many they are
pub data Wide (c : ℕ) : Type 0 where
  of_two : (x y : ℕ) → is_lead x ≡ true → is_second x y ≡ true → Follows y → encode c ≡ x ∷ y ∷ []
      → Wide c
  of_three : (x y z : ℕ) → is_lead x ≡ true → is_second x y ≡ true → Follows y → Follows z
      → encode c ≡ x ∷ y ∷ z ∷ [] → Wide c
  of_four : (x y z w : ℕ) → is_lead x ≡ true → is_second x y ≡ true → Follows y → Follows z
      → Follows w → encode c ≡ x ∷ y ∷ z ∷ w ∷ [] → Wide c

-- two bytes of a character
two : (c : ℕ) → 128 ≤ c → c < 2048 → encode c ≡ (192 + c / 64) ∷ next c ∷ []
unfolding encode
two c l h = grind (arith, nat_tests)

-- three bytes
three : (c : ℕ) → 2048 ≤ c → c < 65536 → encode c ≡ (224 + c / 4096) ∷ next (c / 64) ∷ next c ∷ []
unfolding encode
three c l h = grind (arith, nat_tests)

-- four bytes
four : (c : ℕ) → 65536 ≤ c
    → encode c ≡ (240 + c / 262144) ∷ next (c / 4096) ∷ next (c / 64) ∷ next c ∷ []
unfolding encode
four c l = grind (arith, nat_tests)

-- numbers past the surrogates are characters
high_scalar : (c : ℕ) → 57344 ≤ c → c < 1114112 → scalar c ≡ true
high_scalar c l h = grind (arith, nat_tests)

-- the bytes that begin a character past ASCII
lead : (x : ℕ) → 194 ≤ x → x ≤ 244 → is_lead x ≡ true
lead x l h = grind (arith, nat_tests)

-- what stands second behind each first byte
second : (x y : ℕ) → Follows y → (x ≡ 224 → 160 ≤ y) → (x ≡ 240 → 144 ≤ y) → (x ≡ 237 → y ≤ 159)
    → (x ≡ 244 → y ≤ 143) → is_second x y ≡ true
second x y f a b c d = grind (arith, nat_tests)

-- what that says of the second byte
pub record SecondRange (x y : ℕ) : Type 0 where
  pub least : 128 ≤ y
  pub greatest : y ≤ 191
  pub at_e0 : x ≡ 224 → 160 ≤ y
  pub at_f0 : x ≡ 240 → 144 ≤ y
  pub at_ed : x ≡ 237 → y ≤ 159
  pub at_f4 : x ≡ 244 → y ≤ 143

-- the test of the second byte says this
pub second_range : (x y : ℕ) → is_second x y ≡ true → SecondRange x y
second_range x y h = record {
  least = grind (arith, nat_tests);
  greatest = grind (arith, nat_tests);
  at_e0 = λ e. grind (arith, nat_tests);
  at_f0 = λ e. grind (arith, nat_tests);
  at_ed = λ e. grind (arith, nat_tests);
  at_f4 = λ e. grind (arith, nat_tests);
}

-- each later byte of a character goes on with it
follows : (x : ℕ) → Follows (next x)
follows x = (omega arith, omega arith)

-- each character past ASCII has such bytes
pub wide : (c : ℕ) → scalar c ≡ true → 128 ≤ c → Wide c
wide c s l = by (scalar_cases c s) (cases_lt c 2048) (cases_lt c 65536)
  where
    by : (c < 55296) ⊎ ((57344 ≤ c) × (c < 1114112)) → (c < 2048) ⊎ (2048 ≤ c)
        → (c < 65536) ⊎ (65536 ≤ c) → Wide c
    by k (inl h) _ = of_two (192 + c / 64) (next c)
        (lead (192 + c / 64) (omega arith) (omega arith))
        (second (192 + c / 64) (next c) (follows c) (λ e. absurd (omega arith))
        (λ e. absurd (omega arith)) (λ e. absurd (omega arith)) (λ e. absurd (omega arith)))
        (follows c) (two c l h)
    by k (inr m) (inl h) =
        of_three (224 + c / 4096) (next (c / 64)) (next c)
        (lead (224 + c / 4096) (omega arith) (omega arith))
        (second (224 + c / 4096) (next (c / 64)) (follows (c / 64)) (λ e. omega arith)
        (λ e. absurd (omega arith)) (λ e. surrogates k e) (λ e. absurd (omega arith)))
        (follows (c / 64)) (follows c) (three c m h)
      where
        surrogates : (c < 55296) ⊎ ((57344 ≤ c) × (c < 1114112)) → 224 + c / 4096 ≡ 237
            → next (c / 64) ≤ 159
        surrogates (inl below) e = omega arith
        surrogates (inr above) e = absurd (omega arith)
    by (inl below) (inr m) (inr h) = absurd (omega arith)
    by (inr above) (inr m) (inr h) =
        of_four (240 + c / 262144) (next (c / 4096)) (next (c / 64)) (next c)
        (lead (240 + c / 262144) (omega arith) (omega arith))
        (second (240 + c / 262144) (next (c / 4096)) (follows (c / 4096))
        (λ e. absurd (omega arith)) (λ e. omega arith) (λ e. absurd (omega arith))
        (λ e. omega arith))
        (follows (c / 4096)) (follows (c / 64)) (follows c) (four c h)

-- ---- characters from their bytes

-- a character that has these bytes
pub record From (bytes : List ℕ) : Type 0 where
  pub char : ℕ
  pub is_scalar : scalar char ≡ true
  pub is_wide : 128 ≤ char
  pub is : encode char ≡ bytes

-- two bytes are those of a character
pub from_two : (x y : ℕ) → 194 ≤ x → x < 224 → Follows y → From (x ∷ y ∷ [])
from_two x y l h f =
    let c = (x - 192) * 64 + (y - 128) in
    let p : x ≡ 192 + c / 64 = omega arith in
    let q : y ≡ next c = omega arith in
    record {
      char = c;
      is_scalar = low_scalar c (omega arith);
      is_wide = omega arith;
      is = two c (omega arith) (omega arith) ∙ sym (λ k. p k ∷ q k ∷ []);
    }

-- the numbers of three bytes, and of four
abbrev number_of_three : ℕ → ℕ → ℕ → ℕ
number_of_three x y z = (x - 224) * 4096 + (y - 128) * 64 + (z - 128)

-- the number of four bytes
abbrev number_of_four : ℕ → ℕ → ℕ → ℕ → ℕ
number_of_four x y z w = (x - 240) * 262144 + (y - 128) * 4096 + (z - 128) * 64 + (w - 128)

-- three bytes are no longer form than needed
three_least : (x y z : ℕ) → 224 ≤ x → SecondRange x y → 2048 ≤ number_of_three x y z
three_least x y z l s =
    ⊎_elim (λ (above : 224 < x). omega arith)
    (λ (here : x ≤ 224). omega (arith, s.at_e0 (omega arith))) (cases_lt 224 x)

-- three bytes are no surrogate
three_scalar : (x y z : ℕ) → 224 ≤ x → x < 240 → SecondRange x y → Follows z
    → scalar (number_of_three x y z) ≡ true
three_scalar x y z l h s f = ⊎_elim
    (λ (below : x < 237). low_scalar (number_of_three x y z) (omega arith))
    (λ (rest : 237 ≤ x). ⊎_elim
    (λ (above : 237 < x). high_scalar (number_of_three x y z) (omega arith) (omega arith))
    (λ (here : x ≤ 237). low_scalar (number_of_three x y z) (omega (arith, s.at_ed (omega arith))))
    (cases_lt 237 x))
    (cases_lt x 237)

-- three bytes are those of a character
pub from_three : (x y z : ℕ) → 224 ≤ x → x < 240 → SecondRange x y → Follows z
    → From (x ∷ y ∷ z ∷ [])
from_three x y z l h s f =
    let c = number_of_three x y z in
    let p : x ≡ 224 + c / 4096 = omega arith in
    let q : y ≡ next (c / 64) = omega arith in
    let r : z ≡ next c = omega arith in
    let least : 2048 ≤ c = three_least x y z l s in
    record {
      char = c;
      is_scalar = three_scalar x y z l h s f;
      is_wide = omega (arith, least);
      is = three c least (omega arith) ∙ sym (λ k. p k ∷ q k ∷ r k ∷ []);
    }

-- four bytes are no longer form than needed, and not past the last character
four_range : (x y z w : ℕ) → 240 ≤ x → x ≤ 244 → SecondRange x y → Follows z → Follows w
    → (65536 ≤ number_of_four x y z w) × (number_of_four x y z w < 1114112)
four_range x y z w l h s f g = (
  ⊎_elim (λ (above : 240 < x). omega arith)
      (λ (here : x ≤ 240). omega (arith, s.at_f0 (omega arith))) (cases_lt 240 x),
  ⊎_elim (λ (below : x < 244). omega arith)
      (λ (here : 244 ≤ x). omega (arith, s.at_f4 (omega arith))) (cases_lt x 244),
)

-- four bytes are those of a character
pub from_four : (x y z w : ℕ) → 240 ≤ x → x ≤ 244 → SecondRange x y → Follows z → Follows w
    → From (x ∷ y ∷ z ∷ w ∷ [])
from_four x y z w l h s f g =
    let c = number_of_four x y z w in
    let range = four_range x y z w l h s f g in
    let p : x ≡ 240 + c / 262144 = omega arith in
    let q : y ≡ next (c / 4096) = omega arith in
    let e : c / 64 ≡ (x - 240) * 4096 + (y - 128) * 64 + (z - 128) = omega arith in
    let r : z ≡ next (c / 64) = subst (λ (m : ℕ). z ≡ next m) (sym e) (omega arith) in
    let t : w ≡ next c = omega arith in
    record {
      char = c;
      is_scalar = high_scalar c (omega (arith, range.0)) range.1;
      is_wide = omega (arith, range.0);
      is = four c range.0 ∙ sym (λ k. p k ∷ q k ∷ r k ∷ t k ∷ []);
    }
