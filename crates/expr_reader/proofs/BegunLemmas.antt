-- A character that is begun where bytes stop being text: it can be completed, and no byte goes on.
use Rattle.std.proofs.Common.{◌≡◌, ⊎_elim, ℕ, ◌+◌, ◌<◌, ◌≤◌, Bool, true}
use Rattle.std.proofs.Common.{false, cond, List, [], ◌∷◌, ◌++◌, length, take, refl}
use Rattle.std.proofs.Common.{sym, ap, ◌∙◌, arith}
use Rattle.std.proofs.lemmas.Bool.{cases_lt, false≢true}
use Rattle.std.proofs.lemmas.Bool.Decides.{nat_tests}
use Rattle.std.proofs.lemmas.Str.{encode_ascii}
use lib.Utf8.{scalar, encode}
use Rattle.expr_reader.specs.Letters.{is_lead, is_second, is_later, begun_bytes}
use Rattle.expr_reader.proofs.Utf8Lemmas.{Follows, Wide, of_two, of_three, of_four, wide, From}
use Rattle.expr_reader.proofs.Utf8Lemmas.{second_range, from_two, from_three}
use Rattle.expr_reader.proofs.Utf8Lemmas.{from_four}

-- the bytes begin with no whole character
abbrev pub NoChar : List ℕ → Type 0
NoChar tail = (d : ℕ) (rest : List ℕ) → scalar d ≡ true → tail ≡ encode d ++ rest → ⊥

-- ---- what is begun can be completed

-- a character past ASCII that begins with these bytes
pub record Completed (front : List ℕ) : Type 0 where
  pub char : ℕ
  pub rest : List ℕ
  pub is_scalar : scalar char ≡ true
  pub is_wide : 128 ≤ char
  pub is : encode char ≡ front ++ rest

-- a character whose bytes go on from a front completes it
completed : (front rest : List ℕ) → From (front ++ rest) → Completed front
completed front rest f =
    record { char = f.char; rest = rest; is_scalar = f.is_scalar; is_wide = f.is_wide; is = f.is }

-- the first bytes of characters past ASCII, as numbers
pub lead_range : (x : ℕ) → is_lead x ≡ true → (194 ≤ x) × (x ≤ 244)
lead_range x h = (grind (arith, nat_tests), grind (arith, nat_tests))

-- the test for a later byte, as numbers
later_follows : (x : ℕ) → is_later x ≡ true → Follows x
later_follows x h = (grind (arith, nat_tests), grind (arith, nat_tests))

-- the same from the numbers
follows_later : (x : ℕ) → Follows x → is_later x ≡ true
follows_later x h = let l = h.0 in let u = h.1 in grind (arith, nat_tests)

-- what is read past the end stands second nowhere
no_second_zero : (x : ℕ) → is_second x 0 ≡ true → ⊥
no_second_zero x h = let r = second_range x 0 h in omega arith

-- the least of the bytes that go on with a character
abbrev later : Follows 128
later = (omega arith, omega arith)

-- one byte that begins a character can be completed
one_byte : (x : ℕ) → is_lead x ≡ true → Completed (x ∷ [])
one_byte x h =
    let r = lead_range x h in
    ⊎_elim
    (λ (in_two : x < 224). completed (x ∷ []) (128 ∷ [])
    (from_two x 128 (omega arith) in_two (omega arith, omega arith)))
    (λ (more : 224 ≤ x). ⊎_elim
    (λ (in_three : x < 240). ⊎_elim
    (λ (above : 224 < x). completed (x ∷ []) (128 ∷ 128 ∷ [])
    (from_three x 128 128 more in_three (record {
      least = omega arith;
      greatest = omega arith;
      at_e0 = λ e. absurd (omega arith);
      at_f0 = λ e. absurd (omega arith);
      at_ed = λ e. omega arith;
      at_f4 = λ e. omega arith;
    }) (omega arith, omega arith)))
    (λ (here : x ≤ 224). completed (x ∷ []) (160 ∷ 128 ∷ [])
    (from_three x 160 128 more in_three (record {
      least = omega arith;
      greatest = omega arith;
      at_e0 = λ e. omega arith;
      at_f0 = λ e. absurd (omega arith);
      at_ed = λ e. absurd (omega arith);
      at_f4 = λ e. absurd (omega arith);
    }) (omega arith, omega arith)))
    (cases_lt 224 x))
    (λ (in_four : 240 ≤ x). ⊎_elim
    (λ (above : 240 < x). completed (x ∷ []) (128 ∷ 128 ∷ 128 ∷ [])
    (from_four x 128 128 128 in_four r.1 (record {
      least = omega arith;
      greatest = omega arith;
      at_e0 = λ e. absurd (omega arith);
      at_f0 = λ e. absurd (omega arith);
      at_ed = λ e. omega arith;
      at_f4 = λ e. omega arith;
    }) (omega arith, omega arith) (omega arith, omega arith)))
    (λ (here : x ≤ 240). completed (x ∷ []) (144 ∷ 128 ∷ 128 ∷ [])
    (from_four x 144 128 128 in_four r.1 (record {
      least = omega arith;
      greatest = omega arith;
      at_e0 = λ e. absurd (omega arith);
      at_f0 = λ e. omega arith;
      at_ed = λ e. absurd (omega arith);
      at_f4 = λ e. absurd (omega arith);
    }) (omega arith, omega arith) (omega arith, omega arith)))
    (cases_lt 240 x))
    (cases_lt x 240))
    (cases_lt x 224)

-- so can two
two_bytes : (x y : ℕ) → is_lead x ≡ true → is_second x y ≡ true → Completed (x ∷ y ∷ [])
two_bytes x y h s =
    let r = lead_range x h in
    let q = second_range x y s in
    ⊎_elim
    (λ (in_two : x < 224). completed (x ∷ y ∷ []) []
    (from_two x y (omega arith) in_two (omega arith, omega arith)))
    (λ (more : 224 ≤ x). ⊎_elim
    (λ (in_three : x < 240). completed (x ∷ y ∷ []) (128 ∷ [])
    (from_three x y 128 more in_three q (omega arith, omega arith)))
    (λ (in_four : 240 ≤ x). completed (x ∷ y ∷ []) (128 ∷ 128 ∷ [])
    (from_four x y 128 128 in_four r.1 q (omega arith, omega arith) (omega arith, omega arith)))
    (cases_lt x 240))
    (cases_lt x 224)

-- so can three, where they hold no whole character
three_bytes : (x y z : ℕ) (tail : List ℕ) → NoChar (x ∷ y ∷ z ∷ tail) → is_lead x ≡ true
    → is_second x y ≡ true → is_later z ≡ true → Completed (x ∷ y ∷ z ∷ [])
three_bytes x y z tail none h s l =
    let r = lead_range x h in
    let q = second_range x y s in
    let f = later_follows z l in
    ⊎_elim
    (λ (in_two : x < 224).
    let c = from_two x y (omega arith) in_two (omega arith, omega arith) in
    absurd (none c.char (z ∷ tail) c.is_scalar (ap (λ t. t ++ z ∷ tail) (sym c.is))))
    (λ (more : 224 ≤ x). ⊎_elim
    (λ (in_three : x < 240). completed (x ∷ y ∷ z ∷ []) [] (from_three x y z more in_three q f))
    (λ (in_four : 240 ≤ x). completed (x ∷ y ∷ z ∷ []) (128 ∷ [])
    (from_four x y z 128 in_four r.1 q f (omega arith, omega arith)))
    (cases_lt x 240))
    (cases_lt x 224)

-- ---- no byte goes on with it

-- a character that is begun by the first byte is past ASCII
pub first_wide : (x : ℕ) (tail : List ℕ) → NoChar (x ∷ tail) → (d : ℕ) (rest more : List ℕ)
    → scalar d ≡ true → encode d ++ rest ≡ x ∷ more → 128 ≤ d
first_wide x tail none d rest more s e = ⊎_elim
    (λ (ascii : d < 128).
    let whole : d ∷ rest ≡ x ∷ more = rw (encode_ascii d ascii) at e in
    let same : d ≡ x = cc in
    absurd (none d tail s (sym (rw (encode_ascii d ascii) (ap (λ t. t ∷ tail) same)))))
    (λ (up : 128 ≤ d). up)
    (cases_lt d 128)

-- what a character past ASCII with such first bytes must be, by how many bytes it has
module _ (d : ℕ) (rest more : List ℕ) where
  two_of : (x y : ℕ) (tail : List ℕ) (a b : ℕ) → encode d ≡ a ∷ b ∷ []
      → encode d ++ rest ≡ x ∷ y ∷ more → x ∷ y ∷ tail ≡ encode d ++ tail
  two_of x y tail a b k e =
      let whole : a ∷ b ∷ rest ≡ x ∷ y ∷ more = rw k at e in
      let p : a ≡ x = cc in
      let q : b ≡ y = cc in
      rw k (sym (λ i. p i ∷ q i ∷ tail))

  three_of : (x y z : ℕ) (tail : List ℕ) (a b c : ℕ) → encode d ≡ a ∷ b ∷ c ∷ []
      → encode d ++ rest ≡ x ∷ y ∷ z ∷ more → x ∷ y ∷ z ∷ tail ≡ encode d ++ tail
  three_of x y z tail a b c k e =
      let whole : a ∷ b ∷ c ∷ rest ≡ x ∷ y ∷ z ∷ more = rw k at e in
      let p : a ≡ x = cc in
      let q : b ≡ y = cc in
      let r : c ≡ z = cc in
      rw k (sym (λ i. p i ∷ q i ∷ r i ∷ tail))

-- a first byte that begins no character ends the text
ends_at_first : (x : ℕ) (tail : List ℕ) → NoChar (x ∷ tail) → is_lead x ≡ false
    → (d : ℕ) (rest more : List ℕ) → scalar d ≡ true → encode d ++ rest ≡ x ∷ more → ⊥
ends_at_first x tail none missing d rest more s e =
    by (wide d s (first_wide x tail none d rest more s e))
  where
    off : (a : ℕ) (others : List ℕ) → is_lead a ≡ true → a ∷ others ≡ x ∷ more → ⊥
    off a others there whole = let same : a ≡ x = cc in
        false≢true (sym missing ∙ ap is_lead (sym same) ∙ there)

    by : Wide d → ⊥
    by (of_two a b l q f k) = off a (b ∷ rest) l (rw k at e)
    by (of_three a b c l q f g k) = off a (b ∷ c ∷ rest) l (rw k at e)
    by (of_four a b c v l q f g h k) = off a (b ∷ c ∷ v ∷ rest) l (rw k at e)

-- so does a second byte that cannot stand behind the first
ends_at_second : (x y : ℕ) (tail : List ℕ) → NoChar (x ∷ y ∷ tail) → is_second x y ≡ false
    → (d : ℕ) (rest more : List ℕ) → scalar d ≡ true → encode d ++ rest ≡ x ∷ y ∷ more → ⊥
ends_at_second x y tail none missing d rest more s e =
    by (wide d s (first_wide x (y ∷ tail) none d rest (y ∷ more) s e))
  where
    off : (a b : ℕ) (others : List ℕ) → is_second a b ≡ true → a ∷ b ∷ others ≡ x ∷ y ∷ more → ⊥
    off a b others there whole =
        let p : a ≡ x = cc in
        let q : b ≡ y = cc in
        false≢true (sym missing ∙ (λ i. is_second (sym p i) (sym q i)) ∙ there)

    by : Wide d → ⊥
    by (of_two a b l q f k) = off a b rest q (rw k at e)
    by (of_three a b c l q f g k) = off a b (c ∷ rest) q (rw k at e)
    by (of_four a b c v l q f g h k) = off a b (c ∷ v ∷ rest) q (rw k at e)

-- so does a third byte that does not go on
ends_at_third : (x y z : ℕ) (tail : List ℕ) → NoChar (x ∷ y ∷ z ∷ tail) → is_later z ≡ false
    → (d : ℕ) (rest more : List ℕ) → scalar d ≡ true → encode d ++ rest ≡ x ∷ y ∷ z ∷ more → ⊥
ends_at_third x y z tail none missing d rest more s e =
    by (wide d s (first_wide x (y ∷ z ∷ tail) none d rest (y ∷ z ∷ more) s e))
  where
    off : (a b c : ℕ) (others : List ℕ) → Follows c → a ∷ b ∷ c ∷ others ≡ x ∷ y ∷ z ∷ more → ⊥
    off a b c others there whole = let same : c ≡ z = cc in
        false≢true (sym missing ∙ ap is_later (sym same) ∙ follows_later c there)

    by : Wide d → ⊥
    by (of_two a b l q f k) = none d (z ∷ tail) s (two_of d rest (z ∷ more) x y (z ∷ tail) a b k e)
    by (of_three a b c l q f g k) = off a b c rest g (rw k at e)
    by (of_four a b c v l q f g h k) = off a b c (v ∷ rest) g (rw k at e)

-- so does the fourth, where the four are no character
ends_at_fourth : (x y z w : ℕ) (tail : List ℕ) → NoChar (x ∷ y ∷ z ∷ w ∷ tail)
    → (d : ℕ) (rest more : List ℕ) → scalar d ≡ true → encode d ++ rest ≡ x ∷ y ∷ z ∷ w ∷ more → ⊥
ends_at_fourth x y z w tail none d rest more s e =
    by (wide d s (first_wide x (y ∷ z ∷ w ∷ tail) none d rest (y ∷ z ∷ w ∷ more) s e))
  where
    by : Wide d → ⊥
    by (of_two a b l q f k) =
        none d (z ∷ w ∷ tail) s (two_of d rest (z ∷ w ∷ more) x y (z ∷ w ∷ tail) a b k e)
    by (of_three a b c l q f g k) =
        none d (w ∷ tail) s (three_of d rest (w ∷ more) x y z (w ∷ tail) a b c k e)
    by (of_four a b c v l q f g h k) =
        let whole : a ∷ b ∷ c ∷ v ∷ rest ≡ x ∷ y ∷ z ∷ w ∷ more = rw k at e in
        let p : a ≡ x = cc in
        let q' : b ≡ y = cc in
        let r : c ≡ z = cc in
        let t : v ≡ w = cc in
        none d tail s (rw k (sym (λ i. p i ∷ q' i ∷ r i ∷ t i ∷ tail)))

-- ---- the bytes that are begun

-- by how many bytes are begun
pub record Begun (tail : List ℕ) (count : ℕ) : Type 0 where
  pub completed : 0 < count → Completed (take count tail)
  pub ends : count < length tail → (d : ℕ) (rest more : List ℕ) → scalar d ≡ true
      → encode d ++ rest ≡ take (count + 1) tail ++ more → ⊥
  pub within : count ≤ length tail

-- what is begun, by either value of a test
if_begun : (b : Bool) (tail : List ℕ) (x y : ℕ) → (b ≡ true → Begun tail x)
    → (b ≡ false → Begun tail y) → Begun tail (cond b x y)
if_begun true tail x y t f = t refl
if_begun false tail x y t f = f refl

-- a byte that begins no character has begun nothing
none_begun : (x : ℕ) (tail : List ℕ) → NoChar (x ∷ tail) → is_lead x ≡ false → Begun (x ∷ tail) 0
none_begun x tail none missing = record {
  completed = λ h. absurd (omega arith);
  ends = λ h d rest more s e. ends_at_first x tail none missing d rest more s e;
  within = omega arith;
}

-- the bytes that are counted are those that begin a character
pub begun : (tail : List ℕ) → NoChar tail → Begun tail (begun_bytes tail)
begun [] none = record {
  completed = λ h. absurd (omega arith);
  ends = λ h. absurd (omega arith);
  within = omega arith;
}
begun (x ∷ []) none = if_begun (is_lead x) _ _ _
    (λ l. if_begun (is_second x 0) _ _ _
    (λ s. absurd (no_second_zero x s))
    (λ s. record {
      completed = λ h. one_byte x l;
      ends = λ h. absurd (omega arith);
      within = omega arith;
    }))
    (none_begun x [] none)
begun (x ∷ y ∷ []) none = if_begun (is_lead x) _ _ _
    (λ l. if_begun (is_second x y) _ _ _
    (λ s. record {
      completed = λ h. two_bytes x y l s;
      ends = λ h. absurd (omega arith);
      within = omega arith;
    })
    (λ s. record {
      completed = λ h. one_byte x l;
      ends = λ h d rest more k e. ends_at_second x y [] none s d rest more k e;
      within = omega arith;
    }))
    (none_begun x (y ∷ []) none)
begun (x ∷ y ∷ z ∷ tail) none = if_begun (is_lead x) _ _ _
    (λ l. if_begun (is_second x y) _ _ _
    (λ s. if_begun (is_later z) _ _ _
    (λ f. record {
      completed = λ h. three_bytes x y z tail none l s f;
      ends = λ h d rest more k e. fourth tail none h d rest more k e;
      within = omega arith;
    })
    (λ f. record {
      completed = λ h. two_bytes x y l s;
      ends = λ h d rest more k e. ends_at_third x y z tail none f d rest more k e;
      within = omega arith;
    }))
    (λ s. record {
      completed = λ h. one_byte x l;
      ends = λ h d rest more k e. ends_at_second x y (z ∷ tail) none s d rest more k e;
      within = omega arith;
    }))
    (none_begun x (y ∷ z ∷ tail) none)
  where
    fourth : (others : List ℕ) → NoChar (x ∷ y ∷ z ∷ others) → 3 < length (x ∷ y ∷ z ∷ others)
        → (d : ℕ) (rest more : List ℕ) → scalar d ≡ true
        → encode d ++ rest ≡ take 4 (x ∷ y ∷ z ∷ others) ++ more → ⊥
    fourth [] none' h d rest more k e = absurd (omega arith)
    fourth (w ∷ others) none' h d rest more k e =
        ends_at_fourth x y z w others none' d rest more k e
