-- The end of the text, and a character that is begun there.
use Rattle.std.proofs.Common.{◌≡◌, ⊎_elim, ℕ, ◌+◌, ◌<◌, ◌≤◌, List, [], ◌∷◌, ◌++◌}
use Rattle.std.proofs.Common.{Bool, true, false, cond, Some}
use Rattle.std.proofs.Common.{length, take, encode_utf8}
use Rattle.std.proofs.Common.{encode_utf8_all, refl, ap, sym, ◌∙◌, subst, append_assoc, append-nil}
use Rattle.std.proofs.Common.{length-append, add_assoc, add-one}
use Rattle.std.proofs.Common.{arith}
use Rattle.std.proofs.lemmas.Bool.{cases_lt}
use Rattle.std.proofs.lemmas.Str.{encodes-append}
use Rattle.std.proofs.Math.Seq.{take-append_seam, take-append-add}
use lib.Utf8.{scalars}
use Rattle.expr_reader.specs.Letters.{begun_bytes}
use Rattle.expr_reader.specs.Machine.{Machine, start, is_over, takes_wide}
use Rattle.expr_reader.specs.Reading.{begun_len}
use Rattle.expr_reader.specs.Grammar.{GoesOn}
use Rattle.expr_reader.proofs.TakeLemmas.{go, go_then}
use Rattle.expr_reader.proofs.BegunLemmas.{NoChar, Completed, Begun, begun, first_wide}
use Rattle.expr_reader.proofs.TextLemmas.{scalars_append}
use Rattle.expr_reader.proofs.PlaceLemmas.{FitsOn, Viable, viable, shorter, shorter_fits, dead}
use Rattle.expr_reader.proofs.WideLemmas.{wide_taken, wide_refused}
use Rattle.expr_reader.proofs.RefusalLemmas.{PlaceOf}

-- nothing follows
cut_place : (cs : List ℕ) (m : Machine) → scalars cs ≡ true → go start cs ≡ Some m
    → PlaceOf (encode_utf8_all cs ++ []) (length (encode_utf8_all cs) + 0) m
cut_place cs m s h =
    let bs = encode_utf8_all cs in
    let long : length (bs ++ []) ≡ length bs = omega (arith, length-append bs []) in
    let at : length bs + 0 ≡ length bs = omega arith in
    let front = sym (ap (λ n. take n (bs ++ [])) at ∙ take-append_seam bs []) in
    let on = viable cs m s h in
    record {
      place = record {
        within = omega (arith, long);
        front = subst GoesOn front on.0;
        longest = λ less. absurd (omega (arith, long));
      };
      fits = λ small. subst FitsOn front (on.1 small);
    }

-- a front up to a begun character
begun_front : (cs : List ℕ) (m : Machine) (front : List ℕ) → scalars cs ≡ true
    → go start cs ≡ Some m → takes_wide m.place ≡ true → Completed front
    → Viable (encode_utf8_all cs ++ front) m
begun_front cs m front s h t f =
    let n = wide_taken m f.char f.is_wide t in
    let one : scalars (f.char ∷ []) ≡ true = rw f.is_scalar refl in
    let on = viable (cs ++ f.char ∷ []) n.0 (scalars_append cs (f.char ∷ []) s one)
    (go_then start m cs (f.char ∷ []) (Some n.0) h (rw n.1 refl)) in
    let bytes_are : encode_utf8_all (cs ++ f.char ∷ []) ≡ (encode_utf8_all cs ++ front) ++ f.rest =
    encodes-append cs (f.char ∷ [])
    ∙ ap (λ t'. encode_utf8_all cs ++ t') (append-nil (encode_utf8 f.char) ∙ f.is)
    ∙ sym (append_assoc (encode_utf8_all cs) front f.rest) in
    let counts : is_over n.0 ≡ is_over m =
    λ i. is_over (record m { begun = n.2 i; deepest = n.3 i }) in (
      shorter (encode_utf8_all cs ++ front) f.rest (subst GoesOn bytes_are on.0),
      λ small. shorter_fits (encode_utf8_all cs ++ front) f.rest
          (subst FitsOn bytes_are (on.1 (counts ∙ small))),
    )

-- the place of a begun character that the machine may take
begun_place : (cs : List ℕ) (m : Machine) (x : ℕ) (tail : List ℕ) (k : ℕ) → scalars cs ≡ true
    → go start cs ≡ Some m → takes_wide m.place ≡ true → Begun (x ∷ tail) k
    → PlaceOf (encode_utf8_all cs ++ x ∷ tail) (length (encode_utf8_all cs) + k) m
begun_place cs m x tail k s h t b =
    let bs = encode_utf8_all cs in
    let one_more : take (length bs + k + 1) (bs ++ x ∷ tail) ≡ bs ++ x ∷ take k tail =
    ap (λ n. take n (bs ++ x ∷ tail)) (add_assoc (length bs) k 1)
    ∙ take-append-add bs (x ∷ tail) (k + 1) ∙ ap (λ n. bs ++ take n (x ∷ tail)) (add-one k) in
    let seam = sym (take-append-add bs (x ∷ tail) k) in
    let on : Viable (bs ++ take k (x ∷ tail)) m = ⊎_elim
    (λ (some : 0 < k). begun_front cs m (take k (x ∷ tail)) s h t (b.completed some))
    (λ (none : k ≤ 0).
    let is : k ≡ 0 = omega arith in
    subst (λ n. Viable (bs ++ take n (x ∷ tail)) m) (sym is)
    (subst (λ u. Viable u m) (sym (append-nil bs)) (viable cs m s h)))
    (cases_lt 0 k) in
    record {
      place = record {
        within = omega (arith, b.within, length-append bs (x ∷ tail));
        front = subst GoesOn seam on.0;
        longest = λ less goes. dead cs m x (take k tail) h
            (λ d rest more sd e. absurd
            (b.ends (omega (arith, length-append bs (x ∷ tail))) d rest more sd
            (e ∙ ap (λ n. take n (x ∷ tail) ++ more) (sym (add-one k)))))
            (subst GoesOn one_more goes);
      };
      fits = λ small. subst FitsOn seam (on.1 small);
    }

-- the place of a byte that the machine doesn't take
byte_place : (cs : List ℕ) (m : Machine) (x : ℕ) (tail : List ℕ) → scalars cs ≡ true
    → go start cs ≡ Some m → takes_wide m.place ≡ false → NoChar (x ∷ tail)
    → PlaceOf (encode_utf8_all cs ++ x ∷ tail) (length (encode_utf8_all cs) + 0) m
byte_place cs m x tail s h t none =
    let bs = encode_utf8_all cs in
    let at : length bs + 0 ≡ length bs = omega arith in
    let one_more : take (length bs + 0 + 1) (bs ++ x ∷ tail) ≡ bs ++ x ∷ [] =
    ap (λ n. take (n + 1) (bs ++ x ∷ tail)) at ∙ take-append-add bs (x ∷ tail) 1 in
    let seam = sym (ap (λ n. take n (bs ++ x ∷ tail)) at ∙ take-append_seam bs (x ∷ tail)) in
    let on = viable cs m s h in
    record {
      place = record {
        within = omega (arith, length-append bs (x ∷ tail));
        front = subst GoesOn seam on.0;
        longest = λ less goes. dead cs m x [] h
            (λ d rest more sd e. wide_refused m d (first_wide x tail none d rest more sd e) t)
            (subst GoesOn one_more goes);
      };
      fits = λ small. subst FitsOn seam (on.1 small);
    }

-- the place where all characters were taken
pub end_place : (cs : List ℕ) (m : Machine) (tail : List ℕ) → scalars cs ≡ true
    → go start cs ≡ Some m → NoChar tail
    → PlaceOf (encode_utf8_all cs ++ tail) (length (encode_utf8_all cs) + begun_len m tail) m
end_place cs m [] s h none = by_wide (takes_wide m.place)
  where
    by_wide : (b : Bool) → PlaceOf (encode_utf8_all cs ++ [])
        (length (encode_utf8_all cs) + cond b 0 0) m
    by_wide true = cut_place cs m s h
    by_wide false = cut_place cs m s h
end_place cs m (x ∷ tail) s h none = by_wide (takes_wide m.place) refl
  where
    by_wide : (b : Bool) → takes_wide m.place ≡ b → PlaceOf (encode_utf8_all cs ++ x ∷ tail)
        (length (encode_utf8_all cs) + cond b (begun_bytes (x ∷ tail)) 0) m
    by_wide true t = begun_place cs m x tail (begun_bytes (x ∷ tail)) s h t (begun (x ∷ tail) none)
    by_wide false t = byte_place cs m x tail s h t none
