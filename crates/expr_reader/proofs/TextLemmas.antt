-- Bytes as a text and what stands behind it.
use Rattle.std.proofs.Common.{◌≡◌, ◌⊎◌, inl, inr, ⊎_elim, ℕ, zero, suc, ◌+◌, ◌<◌, ◌≤◌, true}
use Rattle.std.proofs.Common.{List, [], ◌∷◌, ◌++◌, length, take, drop, IsUtf8}
use Rattle.std.proofs.Common.{encode_utf8, encode_utf8_all, refl, sym, ap, subst, ◌∙◌, arith}
use Rattle.std.proofs.Common.{append_assoc, length-append, length-drop}
use Rattle.std.proofs.Common.{take-append-drop, true≢false}
use Rattle.std.proofs.lemmas.Bool.{cases_Bool, cases_lt, cond-true, cond-false, and_parts}
use Rattle.std.proofs.lemmas.Str.{IsUtf8-from_is_utf8, is_utf8-from_IsUtf8, IsUtf8-append}
use Rattle.std.proofs.lemmas.Str.{IsUtf8-encode, encode_ascii, cons_from_encodes, length-encode}
use Rattle.std.proofs.lemmas.Str.{len_utf8_bounds, utf8_valid_len_le}
use Rattle.std.proofs.Math.Seq.{take-append_seam}
use Rattle.std.specs.Str.{is_utf8}
use Rattle.std.specs.Str.Lossy.{valid_len_up_to, utf8_valid_len}
use lib.Utf8.{scalar, scalars}
use Rattle.expr_reader.specs.Letters.{is_lead}
use Rattle.expr_reader.proofs.Utf8Lemmas.{Wide, of_two, of_three, of_four, wide}
use Rattle.expr_reader.proofs.BegunLemmas.{NoChar, lead_range}

-- ---- the longest front that is text

-- the longest front up to a length is text, and no longer one is
longest_front : (bs : List ℕ) (m : ℕ)
    → IsUtf8 (take (valid_len_up_to bs m) bs) ×
    ((k : ℕ) → valid_len_up_to bs m < k → k ≤ m → ¬ (IsUtf8 (take k bs)))
longest_front bs zero = (([], (refl, refl)), λ k above within. absurd (omega arith))
longest_front bs (suc m) =
    let rest = longest_front bs m in
    ⊎_elim
    (λ whole.
    let is : valid_len_up_to bs (suc m) ≡ suc m = cond-true _ _ _ whole in (
      subst (λ n. IsUtf8 (take n bs)) (sym is) (IsUtf8-from_is_utf8 _ whole),
      λ k above within.
          absurd (omega arith),
    ))
    (λ short.
    let is : valid_len_up_to bs (suc m) ≡ valid_len_up_to bs m = cond-false _ _ _ short in (
      subst (λ n. IsUtf8 (take n bs)) (sym is) rest.0,
      λ k above within u. ⊎_elim
          (λ (top : m < k).
          let same : k ≡ suc m = omega arith in
          true≢false (sym (is_utf8-from_IsUtf8 _ (subst (λ n. IsUtf8 (take n bs)) same u)) ∙ short))
          (λ (low : k ≤ m). rest.1 k (omega arith) low u)
          (cases_lt m k),
    ))
    (cases_Bool (is_utf8 (take (suc m) bs)))

-- the front is text
pub front_is_text : (bs : List ℕ) → IsUtf8 (take (utf8_valid_len bs) bs)
unfolding utf8_valid_len
front_is_text bs = (longest_front bs (length bs)).0

-- a longer front isn't
longer_is_none : (bs : List ℕ) (k : ℕ) → utf8_valid_len bs < k → k ≤ length bs
    → ¬ (IsUtf8 (take k bs))
unfolding utf8_valid_len
longer_is_none bs k above within = (longest_front bs (length bs)).1 k above within

-- no character stands behind it
pub no_char_behind : (bs : List ℕ) → NoChar (drop (utf8_valid_len bs) bs)
no_char_behind bs d rest s e =
    let n = utf8_valid_len bs in
    let front = take n bs in
    let behind : front ++ drop n bs ≡ bs = take-append-drop n bs in
    let whole : bs ≡ (front ++ encode_utf8 d) ++ rest =
    sym behind ∙ ap (λ t. front ++ t) e ∙ sym (append_assoc front (encode_utf8 d) rest) in
    let k = length (front ++ encode_utf8 d) in
    let text : IsUtf8 (take k bs) =
    subst IsUtf8 (sym (ap (take k) whole ∙ take-append_seam (front ++ encode_utf8 d) rest))
    (IsUtf8-append front (encode_utf8 d) (front_is_text bs) (IsUtf8-encode d s)) in
    let le = utf8_valid_len_le bs in
    let fills : n + length (drop n bs) ≡ length bs = omega (arith, length-drop n bs) in
    let long : length (encode_utf8 d) + length rest ≡ length (drop n bs) =
    sym (length-append (encode_utf8 d) rest) ∙ ap length (sym e) in
    let split : k ≡ length front + length (encode_utf8 d) = length-append front (encode_utf8 d) in
    let total : length front + length (drop n bs) ≡ length bs =
    sym (length-append front (drop n bs)) ∙ ap length behind in
    longer_is_none bs k (omega (arith, length-encode d, len_utf8_bounds d)) (omega arith) text

-- ---- characters in a row

-- one of them is a character
pub scalar_in : (front : List ℕ) (d : ℕ) (rest : List ℕ) → scalars (front ++ d ∷ rest) ≡ true
    → scalar d ≡ true
scalar_in [] d rest h = (and_parts _ _ h).0
scalar_in (c ∷ front) d rest h = scalar_in front d rest (and_parts _ _ h).1

-- the first of them are
pub scalars_front : (front rest : List ℕ) → scalars (front ++ rest) ≡ true → scalars front ≡ true
scalars_front [] rest h = refl
scalars_front (c ∷ front) rest h = let two = and_parts (scalar c) (scalars (front ++ rest)) h in
    rw (two.0, scalars_front front rest two.1) refl

-- the last of them are
pub scalars_back : (front rest : List ℕ) → scalars (front ++ rest) ≡ true → scalars rest ≡ true
scalars_back [] rest h = h
scalars_back (c ∷ front) rest h =
    scalars_back front rest (and_parts (scalar c) (scalars (front ++ rest)) h).1

-- characters and more characters
pub scalars_append : (front rest : List ℕ) → scalars front ≡ true → scalars rest ≡ true
    → scalars (front ++ rest) ≡ true
scalars_append [] rest h k = k
scalars_append (c ∷ front) rest h k = let two = and_parts (scalar c) (scalars front) h in
    rw (two.0, scalars_append front rest two.1 k) refl

-- bytes that begin with those of some characters are those of a row that begins with them
pub encodes_front : (front ds rest : List ℕ) → encode_utf8_all ds ≡ encode_utf8_all front ++ rest
    → (es : List ℕ) × (ds ≡ front ++ es) × (encode_utf8_all es ≡ rest)
encodes_front [] ds rest e = (ds, refl, e)
encodes_front (c ∷ front) ds rest e =
    let head = cons_from_encodes ds (encode_utf8_all front ++ rest) c
    (e ∙ append_assoc (encode_utf8 c) (encode_utf8_all front) rest) in
    let more = encodes_front front head.0 rest head.2 in
    (more.0, head.1 ∙ ap (λ t. c ∷ t) more.1, more.2)

-- ---- the first byte of a character

-- it is the character itself, or past ASCII as the character is
pub record FirstByte (c : ℕ) : Type 0 where
  pub byte : ℕ
  pub others : List ℕ
  pub is : encode_utf8 c ≡ byte ∷ others
  pub kind : ((c < 128) × (byte ≡ c) × (others ≡ [])) ⊎ ((128 ≤ c) × (128 ≤ byte))

-- each character has one
pub first_byte : (c : ℕ) → scalar c ≡ true → FirstByte c
first_byte c s = ⊎_elim
    (λ (ascii : c < 128).
    record { byte = c; others = []; is = encode_ascii c ascii; kind = inl (ascii, refl, refl) })
    (λ (up : 128 ≤ c). by up (wide c s up))
    (cases_lt c 128)
  where
    past : (x : ℕ) → is_lead x ≡ true → 128 ≤ x
    past x h = let r = lead_range x h in omega arith

    by : 128 ≤ c → Wide c → FirstByte c
    by up (of_two x y l q f k) =
        record { byte = x; others = y ∷ []; is = k; kind = inr (up, past x l) }
    by up (of_three x y z l q f g k) =
        record { byte = x; others = y ∷ z ∷ []; is = k; kind = inr (up, past x l) }
    by up (of_four x y z w l q f g h k) =
        record { byte = x; others = y ∷ z ∷ w ∷ []; is = k; kind = inr (up, past x l) }

-- two characters that begin with one byte are the same, or both are past ASCII
pub same_first : (c d : ℕ) → scalar d ≡ true → (f : FirstByte c) → (rest more : List ℕ)
    → encode_utf8 d ++ rest ≡ f.byte ∷ more → (d ≡ c) ⊎ ((128 ≤ c) × (128 ≤ d))
same_first c d s f rest more e =
    let g = first_byte d s in
    let whole : g.byte ∷ (g.others ++ rest) ≡ f.byte ∷ more = rw g.is at e in
    let same : g.byte ≡ f.byte = cc in
    ⊎_elim
    (λ low. ⊎_elim (λ ascii. inl (omega arith)) (λ up. absurd (omega arith)) f.kind)
    (λ high. ⊎_elim (λ ascii. absurd (omega arith)) (λ up. inr (up.0, high.0)) f.kind)
    g.kind
