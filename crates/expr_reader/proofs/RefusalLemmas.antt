-- How a run ends, and a character that the machine refuses.
use Rattle.std.proofs.Common.{◌≡◌, ◌⊎◌, inl, inr, ⊎_elim, ℕ, ◌+◌, ◌≤◌, List, [], ◌∷◌, ◌++◌}
use Rattle.std.proofs.Common.{true, false, cond, Some, None}
use Rattle.std.proofs.Common.{length, take, encode_utf8}
use Rattle.std.proofs.Common.{encode_utf8_all, refl, ap, sym, ◌∙◌, subst}
use Rattle.std.proofs.Common.{length-append}
use Rattle.std.proofs.Common.{arith}
use Rattle.std.specs.Char.{len_utf8}
use Rattle.std.specs.Option.{option_and_then}
use Rattle.std.proofs.lemmas.Str.{length-encode}
use Rattle.std.proofs.Math.Seq.{take-append_seam, take-append-add}
use lib.Utf8.{scalar, scalars, encode}
use Rattle.expr_reader.specs.Machine.{Machine, start, is_over}
use Rattle.expr_reader.specs.Steps.{step}
use Rattle.expr_reader.specs.Reading.{Outcome, ended, stuck, over, follow, run}
use Rattle.expr_reader.specs.Grammar.{GoesOn, IsPlace}
use Rattle.expr_reader.proofs.TakeLemmas.{go}
use Rattle.expr_reader.proofs.TextLemmas.{FirstByte, first_byte, same_first}
use Rattle.expr_reader.proofs.PlaceLemmas.{FitsOn, viable, dead}
use Rattle.expr_reader.proofs.WideLemmas.{alike}

-- ---- a run and its end

-- what follows a character that is taken
after_step : (n : Machine) (rest o : Outcome) → cond (is_over n) over rest ≡ o
    → ((is_over n ≡ true) × (over ≡ o)) ⊎ ((is_over n ≡ false) × (rest ≡ o))
after_step n rest o h = elim (is_over n) as
    (λ b. is_over n ≡ b → cond b over rest ≡ o
    → ((is_over n ≡ true) × (over ≡ o)) ⊎ ((is_over n ≡ false) × (rest ≡ o)))
    [ true ↦ λ is e. inl (is, e) | false ↦ λ is e. inr (is, e) ] refl h

-- a run to the end takes all characters, and passes no limit
pub run_go : (cs : List ℕ) (at : ℕ) (m n : Machine) → is_over m ≡ false → run at m cs ≡ ended n
    → (go m cs ≡ Some n) × (is_over n ≡ false)
run_go [] at m n small h = let same : m ≡ n = cc in (ap Some same, ap is_over (sym same) ∙ small)
run_go (c ∷ cs) at m n small h =
    elim (step m c) as (λ o. follow at m c o (λ x. run (at + len_utf8 c) x cs) ≡ ended n
    → (option_and_then (λ x. go x cs) o ≡ Some n) × (is_over n ≡ false)) [
      | None ↦ λ e. cc
      | Some x ↦ λ e. ⊎_elim
          (λ (large : (is_over x ≡ true) × (over ≡ ended n)). let no = large.1 in cc)
          (λ (more : (is_over x ≡ false) × (run (at + len_utf8 c) x cs ≡ ended n)).
          run_go cs (at + len_utf8 c) x n more.0 more.1)
          (after_step x (run (at + len_utf8 c) x cs) (ended n) e)
    ] h

-- what takes all characters is a run to the end, or passes a limit
pub go_run : (cs : List ℕ) (at : ℕ) (m n : Machine) → go m cs ≡ Some n
    → (run at m cs ≡ ended n) ⊎ (run at m cs ≡ over)
go_run [] at m n h = let same : m ≡ n = cc in inl (ap ended same)
go_run (c ∷ cs) at m n h =
    elim (step m c) as (λ o. option_and_then (λ x. go x cs) o ≡ Some n
    → (follow at m c o (λ x. run (at + len_utf8 c) x cs) ≡ ended n) ⊎
    (follow at m c o (λ x. run (at + len_utf8 c) x cs) ≡ over)) [
      | None ↦ λ e. cc
      | Some x ↦ λ e. (elim (is_over x) as
          (λ b. (cond b over (run (at + len_utf8 c) x cs) ≡ ended n) ⊎
          (cond b over (run (at + len_utf8 c) x cs) ≡ over))
          [ true ↦ inr refl | false ↦ go_run cs (at + len_utf8 c) x n e ])
    ] h

-- a run that is stuck has taken a front within the limits, and stops at the next character
pub record Stuck (at k : ℕ) (m n : Machine) (c : ℕ) (cs : List ℕ) : Type 0 where
  pub front : List ℕ
  pub rest : List ℕ
  pub is : cs ≡ front ++ c ∷ rest
  pub place : k ≡ at + length (encode_utf8_all front)
  pub taken : go m front ≡ Some n
  pub small : is_over n ≡ false
  pub refused : step n c ≡ None

-- a run that is stuck is so
pub stuck_at : (cs : List ℕ) (at k : ℕ) (m n : Machine) (c : ℕ) → is_over m ≡ false
    → run at m cs ≡ stuck k n c → Stuck at k m n c cs
stuck_at [] at k m n c small h = cc
stuck_at (x ∷ cs) at k m n c small h =
    elim (step m x) as (λ o. step m x ≡ o
    → follow at m x o (λ p. run (at + len_utf8 x) p cs) ≡ stuck k n c → Stuck at k m n c (x ∷ cs)) [
      | None ↦ λ none e.
          let place : at ≡ k = cc in
          let there : m ≡ n = cc in
          let char : x ≡ c = cc in
          record {
            front = [];
            rest = cs;
            is = ap (λ t. t ∷ cs) char;
            place = omega (arith, place);
            taken = ap Some there;
            small = ap is_over (sym there) ∙ small;
            refused = (λ i. step (sym there i) (sym char i)) ∙ none;
          }
      | Some p ↦ λ some e. ⊎_elim
          (λ (large : (is_over p ≡ true) × (over ≡ stuck k n c)). let no = large.1 in cc)
          (λ (more : (is_over p ≡ false) × (run (at + len_utf8 x) p cs ≡ stuck k n c)).
          let r = stuck_at cs (at + len_utf8 x) k p n c more.0 more.1 in
          record {
            front = x ∷ r.front;
            rest = r.rest;
            is = ap (λ t. x ∷ t) r.is;
            place = omega (
              arith,
              r.place,
              length-append (encode_utf8 x) (encode_utf8_all r.front),
              length-encode x,
            );
            taken = rw some r.taken;
            small = r.small;
            refused = r.refused;
          })
          (after_step p (run (at + len_utf8 x) p cs) (stuck k n c) e)
    ] refl h

-- a run over a limit has taken a front that is over it
pub record Over (m : Machine) (cs : List ℕ) : Type 0 where
  pub front : List ℕ
  pub rest : List ℕ
  pub is : cs ≡ front ++ rest
  pub end : Machine
  pub taken : go m front ≡ Some end
  pub large : is_over end ≡ true

-- a run over a limit is so
pub over_at : (cs : List ℕ) (at : ℕ) (m : Machine) → run at m cs ≡ over → Over m cs
over_at [] at m h = cc
over_at (x ∷ cs) at m h =
    elim (step m x) as (λ o. step m x ≡ o
    → follow at m x o (λ p. run (at + len_utf8 x) p cs) ≡ over → Over m (x ∷ cs)) [
      | None ↦ λ none e. cc
      | Some p ↦ λ some e. ⊎_elim
          (λ (large : (is_over p ≡ true) × (over ≡ over)). record {
            front = x ∷ [];
            rest = cs;
            is = refl;
            end = p;
            taken = rw some refl;
            large = large.0;
          })
          (λ (more : (is_over p ≡ false) × (run (at + len_utf8 x) p cs ≡ over)).
          let r = over_at cs (at + len_utf8 x) p more.1 in
          record {
            front = x ∷ r.front;
            rest = r.rest;
            is = ap (λ t. x ∷ t) r.is;
            end = r.end;
            taken = rw some r.taken;
            large = r.large;
          })
          (after_step p (run (at + len_utf8 x) p cs) over e)
    ] refl h

-- ---- a character that is refused

-- the place of bytes, and expressions within the limits that begin so if the machine passed none
pub record PlaceOf (bytes : List ℕ) (at : ℕ) (m : Machine) : Type 0 where
  pub place : IsPlace bytes at
  pub fits : is_over m ≡ false → FitsOn (take at bytes)

-- a character that is refused has its place
pub refused_place : (front : List ℕ) (m : Machine) (c : ℕ) (tail : List ℕ) → scalars front ≡ true
    → scalar c ≡ true → go start front ≡ Some m → step m c ≡ None
    → PlaceOf (encode_utf8_all front ++ (encode_utf8 c ++ tail)) (length (encode_utf8_all front)) m
refused_place front m c tail s k h none =
    let bs = encode_utf8_all front in
    let f = first_byte c k in
    let bytes_are : bs ++ (encode_utf8 c ++ tail) ≡ bs ++ f.byte ∷ (f.others ++ tail) =
    ap (λ t. bs ++ (t ++ tail)) f.is in
    let one_more : take (length bs + 1) (bs ++ (encode_utf8 c ++ tail)) ≡ bs ++ f.byte ∷ [] =
    ap (take (length bs + 1)) bytes_are ∙ take-append-add bs (f.byte ∷ (f.others ++ tail)) 1 in
    let seam = sym (take-append_seam bs (encode_utf8 c ++ tail)) in
    let on = viable front m s h in
    record {
      place = record {
        within = omega (arith, length-append bs (encode_utf8 c ++ tail));
        front = subst GoesOn seam on.0;
        longest = λ less goes. dead front m f.byte [] h (refuses f) (subst GoesOn one_more goes);
      };
      fits = λ small. subst FitsOn seam (on.1 small);
    }
  where
    refuses : (f : FirstByte c) (d : ℕ) (rest more : List ℕ) → scalar d ≡ true
        → encode_utf8 d ++ rest ≡ f.byte ∷ more → step m d ≡ None
    refuses f d rest more sd e =
        ⊎_elim (λ (same : d ≡ c). subst (λ x. step m x ≡ None) (sym same) none)
        (λ (up : (128 ≤ c) × (128 ≤ d)). alike m c d up.0 up.1 none)
        (same_first c d sd f rest more e)
