-- Fronts that are over the limits, and the longest front with which some expression begins.
use Rattle.std.proofs.Common.{◌≡◌, ◌⊎◌, inl, inr, ⊎_elim, ℕ, ◌+◌, ◌-◌, ◌<◌, ◌≤◌, List, []}
use Rattle.std.proofs.Common.{◌∷◌, ◌++◌, Bool, true, false, cond, eqb, Option, Some, None, ◌&&◌}
use Rattle.std.proofs.Common.{is_none, length, take, drop, encode_utf8, encode_utf8_all, refl, ap}
use Rattle.std.proofs.Common.{sym, ◌∙◌, subst, append_assoc, length-append, arith}
use Rattle.std.proofs.Common.{take-append-drop}
use Rattle.std.specs.List.{list_all}
use Rattle.std.specs.Option.{option_and_then}
use Rattle.std.specs.Str.{chars}
use Rattle.std.specs.Str.Lossy.{utf8_valid_len}
use Rattle.std.proofs.lemmas.Bool.{cases_lt, false≢true}
use Rattle.std.proofs.lemmas.Bool.Decides.{nat_tests}
use Rattle.std.proofs.lemmas.Str.{encodes-append, encodes-chars, scalars-chars}
use Rattle.std.proofs.Math.Seq.{take-add, take-append-add, take-append_seam}
use lib.Utf8.{scalars, encode}
use Rattle.expr_reader.specs.Letters.{is_blank, is_name_letter, begins_name, is_key_letter}
use Rattle.expr_reader.specs.Letters.{is_special, is_name}
use Rattle.expr_reader.specs.Tree.{CallTree, level_limit, call_limit}
use Rattle.expr_reader.specs.Machine.{Machine, start, is_over, close_in, end_word}
use Rattle.expr_reader.specs.Steps.{step, stop}
use Rattle.expr_reader.specs.Machine.{end_call_of, end_call, end_renamed_of, end_renamed}
use Rattle.expr_reader.specs.Steps.{begin_word}
use Rattle.expr_reader.specs.declared.machine.Place.{Place}
use Rattle.expr_reader.specs.declared.machine.Place.TheVariants.{Start, Name, AfterName, Open}
use Rattle.expr_reader.specs.declared.machine.Place.TheVariants.{Before, Bare, Quote, Escape}
use Rattle.expr_reader.specs.declared.machine.Place.TheVariants.{AfterQuote, AfterCall, CallGap}
use Rattle.expr_reader.specs.declared.machine.Place.TheVariants.{As, AfterAs, BeforeTo, To}
use Rattle.expr_reader.specs.declared.machine.Place.TheVariants.{AfterTo, Close}
use Rattle.expr_reader.specs.declared.open_calls.OpenCall.{OpenCall}
use Rattle.expr_reader.specs.Grammar.{IsExpression, GoesOn, IsPlace, IsOver}
use Rattle.expr_reader.proofs.TakeLemmas.{go}
use Rattle.expr_reader.proofs.CompleteLemmas.{closed}
use Rattle.expr_reader.proofs.TextLemmas.{scalar_in, scalars_front, front_is_text, no_char_behind}
use Rattle.expr_reader.proofs.PlaceLemmas.{viable, shorter, goes_behind}
use Rattle.expr_reader.proofs.RefusalLemmas.{PlaceOf, refused_place}
use Rattle.expr_reader.proofs.EndLemmas.{end_place}

-- ---- counts only rise

-- the counts of a machine are at least those of another
abbrev Grows : Machine → Option Machine → Type 0
Grows m None = Unit {0}
Grows m (Some n) = (m.begun ≤ n.begun) × (m.deepest ≤ n.deepest)

-- by either value of a test
if_grows : (m : Machine) (b : Bool) (x y : Option Machine) → Grows m x → Grows m y
    → Grows m (cond b x y)
if_grows m true x y t f = t
if_grows m false x y t f = f

-- the counts are the same
same : (m n : Machine) → n.begun ≡ m.begun → n.deepest ≡ m.deepest → Grows m (Some n)
same m n b d = (omega (arith, b), omega (arith, d))

-- a machine has its own counts
stays : (m : Machine) → (m.begun ≤ m.begun) × (m.deepest ≤ m.deepest)
stays m = (omega arith, omega arith)

-- a call that closes changes none
close_same : (outer : List OpenCall) (n : Machine)
    → ((close_in outer n).begun ≡ n.begun) × ((close_in outer n).deepest ≡ n.deepest)
close_same [] n = (refl, refl)
close_same (o ∷ outer) n = (refl, refl)

-- a call that is an argument changes none
call_same : (inner : Option CallTree) (n : Machine)
    → ((end_call_of inner n).begun ≡ n.begun) × ((end_call_of inner n).deepest ≡ n.deepest)
call_same None n = (refl, refl)
call_same (Some c) n = (refl, refl)

-- nor does one under a new name
renamed_same : (inner : Option CallTree) (n : Machine)
    → ((end_renamed_of inner n).begun ≡ n.begun) × ((end_renamed_of inner n).deepest ≡ n.deepest)
renamed_same None n = (refl, refl)
renamed_same (Some c) n = (refl, refl)

-- nor does what stands behind an argument
stop_grows : (m n : Machine) (c : ℕ) → n.begun ≡ m.begun → n.deepest ≡ m.deepest
    → Grows m (stop n c)
stop_grows m n c b d =
    let k = close_same n.outer n in
    if_grows m (eqb c 44) _ _ (same m (record n { place = Before }) b d)
    (if_grows m (eqb c 41) _ _ (same m (close_in n.outer n) (k.0 ∙ b) (k.1 ∙ d)) tt)

-- nor does the begin of a word
begin_grows : (m n : Machine) (c : ℕ) → n.begun ≡ m.begun → n.deepest ≡ m.deepest
    → Grows m (begin_word n c)
begin_grows m n c b d =
    if_grows m (eqb c 34) _ _ (same m (record n { place = Quote; text = []; blanks = [] }) b d)
    (if_grows m (is_special c) _ _ tt
    (same m (record n { place = Bare; text = encode_utf8 c; blanks = [] }) b d))

-- no count falls
step_grows : (q : Place) (m : Machine) (c : ℕ) → Grows m (step (record m { place = q }) c)
step_grows Start m c =
    if_grows m (is_blank c) _ _ (stays m)
    (if_grows m (begins_name c) _ _ (stays m) tt)
step_grows Name m c =
    if_grows m (is_name_letter c) _ _ (stays m)
    (if_grows m (is_blank c) _ _ (stays m)
    (if_grows m (eqb c 40) _ _ (omega arith, omega arith) tt))
step_grows AfterName m c =
    if_grows m (is_blank c) _ _ (stays m)
    (if_grows m (eqb c 40) _ _ (omega arith, omega arith) tt)
step_grows Open m c =
    let n = record m { place = Open } in
    let k = close_same m.outer n in
    if_grows m (is_blank c) _ _ (same m n refl refl)
    (if_grows m (eqb c 41) _ _ (same m (close_in m.outer n) k.0 k.1)
    (begin_grows m n c refl refl))
step_grows Before m c =
    if_grows m (is_blank c) _ _ (stays m)
    (begin_grows m (record m { place = Before }) c refl refl)
step_grows Bare m c =
    if_grows m (is_blank c) _ _ (stays m)
    (if_grows m (eqb c 61) _ _
    (if_grows m (is_none m.key && list_all is_key_letter m.text) _ _ (stays m) tt)
    (if_grows m (eqb c 40) _ _
    (if_grows m (is_name m.text) _ _ (omega arith, omega arith) tt)
    (if_grows m (is_special c) _ _
    (stop_grows m (end_word false (record m { place = Bare })) c refl refl)
    (stays m))))
step_grows Quote m c =
    if_grows m (eqb c 34) _ _ (stays m)
    (if_grows m (eqb c 92) _ _ (stays m) (stays m))
step_grows Escape m c = if_grows m (eqb c 34) _ _ (stays m) (stays m)
step_grows AfterQuote m c =
    if_grows m (is_blank c) _ _ (stays m)
    (stop_grows m (end_word true (record m { place = AfterQuote })) c refl refl)
step_grows AfterCall m c =
    let k = call_same m.inner (record m { place = AfterCall }) in
    if_grows m (is_blank c) _ _ (stays m)
    (stop_grows m (end_call (record m { place = AfterCall })) c k.0 k.1)
step_grows CallGap m c =
    let k = call_same m.inner (record m { place = CallGap }) in
    if_grows m (is_blank c) _ _ (stays m)
    (if_grows m (eqb c 97 && is_none m.key) _ _ (stays m)
    (stop_grows m (end_call (record m { place = CallGap })) c k.0 k.1))
step_grows As m c = if_grows m (eqb c 115) _ _ (stays m) tt
step_grows AfterAs m c = if_grows m (is_blank c) _ _ (stays m) tt
step_grows BeforeTo m c =
    if_grows m (is_blank c) _ _ (stays m)
    (if_grows m (begins_name c) _ _ (stays m) tt)
step_grows To m c =
    let k = renamed_same m.inner (record m { place = To }) in
    if_grows m (is_name_letter c) _ _ (stays m)
    (if_grows m (is_blank c) _ _ (stays m)
    (stop_grows m (end_renamed (record m { place = To })) c k.0 k.1))
step_grows AfterTo m c =
    let k = renamed_same m.inner (record m { place = AfterTo }) in
    if_grows m (is_blank c) _ _ (stays m)
    (stop_grows m (end_renamed (record m { place = AfterTo })) c k.0 k.1)
step_grows Close m c = if_grows m (is_blank c) _ _ (stays m) tt

-- over many characters too
go_grows : (cs : List ℕ) (m n : Machine) → go m cs ≡ Some n
    → (m.begun ≤ n.begun) × (m.deepest ≤ n.deepest)
go_grows [] m n h = let is : m ≡ n = cc in
    (omega (arith, ap (λ (x : Machine). x.begun) is), omega (arith, ap (λ (x : Machine). x.deepest) is))
go_grows (c ∷ cs) m n h =
    elim (step m c) as (λ o. Grows m o → option_and_then (λ x. go x cs) o ≡ Some n
    → (m.begun ≤ n.begun) × (m.deepest ≤ n.deepest)) [
      | None ↦ λ g e. cc
      | Some x ↦ λ g e. let more = go_grows cs x n e in
          (omega (arith, g.0, more.0), omega (arith, g.1, more.1))
    ] (step_grows m.place m c) h

-- counts within the limits pass none
pub within : (m : Machine) → m.deepest ≤ level_limit → m.begun ≤ call_limit → is_over m ≡ false
within m d b = grind (arith, nat_tests)

-- what a machine over a limit has taken is over it
pub over_front : (front : List ℕ) (m : Machine) → go start front ≡ Some m → is_over m ≡ true
    → IsOver (encode_utf8_all front)
over_front front m h large more tree x keeps =
    let g = goes_behind front m more tree h x in
    let grows = go_grows g.others m (closed tree) g.taken in
    let small = within m (omega (arith, grows.1, keeps.0)) (omega (arith, grows.0, keeps.1)) in
    false≢true (sym small ∙ large)

-- ---- the longest front

-- no longer front goes on
pub longest_of : (bytes : List ℕ) (at k : ℕ) → IsPlace bytes at → k ≤ length bytes
    → GoesOn (take k bytes) → k ≤ at
longest_of bytes at k p le goes = ⊎_elim
    (λ (less : at < k).
    let is : k ≡ (at + 1) + (k - (at + 1)) = omega arith in
    let split : take k bytes ≡ take (at + 1) bytes ++ take (k - (at + 1)) (drop (at + 1) bytes) =
    ap (λ n. take n bytes) is ∙ take-add (at + 1) (k - (at + 1)) bytes in
    absurd (p.longest (omega (arith, le))
    (shorter (take (at + 1) bytes) (take (k - (at + 1)) (drop (at + 1) bytes))
    (subst GoesOn split goes))))
    (λ (within : k ≤ at). within)
    (cases_lt at k)

-- so there is one place
pub place_one : (bytes : List ℕ) (a b : ℕ) → IsPlace bytes a → IsPlace bytes b → a ≡ b
place_one bytes a b p q =
    let up = longest_of bytes a b p q.within q.front in
    let down = longest_of bytes b a q p.within p.front in
    omega (arith, up, down)

-- a character that is refused within characters has its place
pub refused_in : (cs front : List ℕ) (c : ℕ) (rest tail : List ℕ) (m : Machine)
    → cs ≡ front ++ c ∷ rest → scalars cs ≡ true → go start front ≡ Some m → step m c ≡ None
    → PlaceOf (encode_utf8_all cs ++ tail) (length (encode_utf8_all front)) m
refused_in cs front c rest tail m is s taken refused =
    let all : scalars (front ++ c ∷ rest) ≡ true = subst (λ t. scalars t ≡ true) is s in
    let bytes_are : encode_utf8_all cs ++ tail ≡ encode_utf8_all front ++
    (encode_utf8 c ++ (encode_utf8_all rest ++ tail)) =
    ap (λ t. encode_utf8_all t ++ tail) is
    ∙ ap (λ t. t ++ tail) (encodes-append front (c ∷ rest))
    ∙ append_assoc (encode_utf8_all front) (encode_utf8 c ++ encode_utf8_all rest) tail
    ∙ ap (λ t. encode_utf8_all front ++ t)
    (append_assoc (encode_utf8 c) (encode_utf8_all rest) tail) in
    subst (λ t. PlaceOf t (length (encode_utf8_all front)) m) (sym bytes_are)
    (refused_place front m c (encode_utf8_all rest ++ tail) (scalars_front front (c ∷ rest) all)
    (scalar_in front c rest all) taken refused)

-- the machine stops at a character
record Halts (m : Machine) (cs : List ℕ) : Type 0 where
  front : List ℕ
  char : ℕ
  rest : List ℕ
  is : cs ≡ front ++ char ∷ rest
  end : Machine
  taken : go m front ≡ Some end
  refused : step end char ≡ None

-- it takes all characters, or stops at one
go_ends : (cs : List ℕ) (m : Machine) → ((n : Machine) × (go m cs ≡ Some n)) ⊎ Halts m cs
go_ends [] m = inl (m, refl)
go_ends (c ∷ cs) m =
    elim (step m c) as (λ o. step m c ≡ o
    → ((n : Machine) × (option_and_then (λ x. go x cs) o ≡ Some n)) ⊎ Halts m (c ∷ cs)) [
      | None ↦ λ none. inr (record {
        front = [];
        char = c;
        rest = cs;
        is = refl;
        end = m;
        taken = refl;
        refused = none;
      })
      | Some x ↦ λ some. ⊎_elim (λ (whole : (n : Machine) × (go x cs ≡ Some n)). inl whole)
          (λ (h : Halts x cs). inr (record {
            front = c ∷ h.front;
            char = h.char;
            rest = h.rest;
            is = ap (λ t. c ∷ t) h.is;
            end = h.end;
            taken = rw some h.taken;
            refused = h.refused;
          })) (go_ends cs x)
    ] refl

-- bytes by the longest front that is text, its characters, and what stands behind it
pub record Parts (bytes : List ℕ) : Type 0 where
  pub are : scalars (chars (take (utf8_valid_len bytes) bytes)) ≡ true
  pub whole : encode_utf8_all (chars (take (utf8_valid_len bytes) bytes)) ++
      drop (utf8_valid_len bytes) bytes ≡ bytes
  pub front : encode_utf8_all (chars (take (utf8_valid_len bytes) bytes)) ≡ take
      (utf8_valid_len bytes) bytes

-- all bytes are so
pub parts : (bytes : List ℕ) → Parts bytes
parts bytes =
    let n = utf8_valid_len bytes in
    let text = front_is_text bytes in
    let front : encode_utf8_all (chars (take n bytes)) ≡ take n bytes =
    encodes-chars (take n bytes) text in
    record {
      are = scalars-chars (take n bytes) text;
      whole = ap (λ t. t ++ drop n bytes) front ∙ take-append-drop n bytes;
      front = front;
    }

-- one of bytes that are written otherwise is theirs
place_is : (bytes other : List ℕ) (at : ℕ) → IsPlace bytes at → bytes ≡ other
    → (k : ℕ) × IsPlace other k
place_is bytes other at p is = (at, subst (λ t. IsPlace t at) is p)

-- all bytes have a place
place_exists : (bytes : List ℕ) → (at : ℕ) × IsPlace bytes at
place_exists bytes =
    let n = utf8_valid_len bytes in
    let cs = chars (take n bytes) in
    let p = parts bytes in
    ⊎_elim
    (λ (all : (m : Machine) × (go start cs ≡ Some m)).
    let e = end_place cs all.0 (drop n bytes) p.are all.1 (no_char_behind bytes) in
    place_is _ bytes _ e.place p.whole)
    (λ (h : Halts start cs).
    let e = refused_in cs h.front h.char h.rest (drop n bytes) h.end h.is p.are h.taken h.refused in
    place_is _ bytes _ e.place p.whole)
    (go_ends cs start)

-- where a front is over the limits, the longest that goes on is
pub over_place : (front rest : List ℕ) (m : Machine) → scalars front ≡ true
    → go start front ≡ Some m → is_over m ≡ true
    → (at : ℕ) × IsPlace (encode_utf8_all front ++ rest) at ×
    IsOver (take at (encode_utf8_all front ++ rest))
over_place front rest m s h large =
    let bs = encode_utf8_all front in
    let there = place_exists (bs ++ rest) in
    let at = there.0 in
    let goes : GoesOn (take (length bs) (bs ++ rest)) =
    subst GoesOn (sym (take-append_seam bs rest)) (viable front m s h).0 in
    let le = longest_of (bs ++ rest) at (length bs) there.1
    (omega (arith, length-append bs rest)) goes in
    let is : at ≡ length bs + (at - length bs) = omega (arith, le) in
    let split : take at (bs ++ rest) ≡ bs ++ take (at - length bs) rest =
    ap (λ n. take n (bs ++ rest)) is ∙ take-append-add bs rest (at - length bs) in (
      at,
      there.1,
      λ more tree x. over_front front m h large (take (at - length bs) rest ++ more) tree
          (subst (λ t. IsExpression t tree)
          (ap (λ t. t ++ more) split ∙ append_assoc bs (take (at - length bs) rest) more) x),
    )
