-- The machine counts calls as quotes and parentheses alone do.
use Rattle.std.proofs.Common.{◌≡◌, ◌⊎◌, inl, inr, ⊎_elim, ℕ, ◌+◌, ◌-◌, ◌<◌, ◌≤◌, List, []}
use Rattle.std.proofs.Common.{◌∷◌, ◌++◌, Bool, true, false, cond, eqb, Option, Some, None, ◌&&◌}
use Rattle.std.proofs.Common.{is_none, length, take, drop, encode_utf8_all, refl, ap, sym, ◌∙◌}
use Rattle.std.proofs.Common.{subst, arith, append_assoc, take_all}
use Rattle.std.specs.Prelude.{◌↔◌, ◌==◌}
use Rattle.std.specs.List.{list_all}
use Rattle.std.specs.Option.{option_and_then}
use Rattle.std.specs.Str.Lossy.{utf8_valid_len}
use Rattle.std.proofs.lemmas.Bool.{cases_lt, cases_Bool, false≢true, eqb-true, and_parts}
use Rattle.std.proofs.lemmas.Bool.Decides.{nat_tests}
use lib.Utf8.{scalars}
use Rattle.expr_reader.specs.Letters.{is_blank, is_name_letter, begins_name, is_key_letter}
use Rattle.expr_reader.specs.Letters.{is_special, is_name}
use Rattle.expr_reader.specs.Tree.{CallTree, level_limit, call_limit}
use Rattle.expr_reader.specs.Machine.{Machine, start, is_over, open_call, close_in, end_word}
use Rattle.expr_reader.specs.Machine.{end_call_of, end_renamed_of}
use Rattle.expr_reader.specs.Steps.{step, stop, begin_word}
use Rattle.expr_reader.specs.Counts.{Counts, count, count_plain, counts_from, counts_of}
use Rattle.expr_reader.specs.Counts.{whole_characters, PassLimits, LimitsAreCounted}
use Rattle.expr_reader.specs.declared.machine.Place.{Place}
use Rattle.expr_reader.specs.declared.machine.Place.TheVariants.{Start, Name, AfterName, Open}
use Rattle.expr_reader.specs.declared.machine.Place.TheVariants.{Before, Bare, Quote, Escape}
use Rattle.expr_reader.specs.declared.machine.Place.TheVariants.{AfterQuote, AfterCall, CallGap}
use Rattle.expr_reader.specs.declared.machine.Place.TheVariants.{As, AfterAs, BeforeTo, To}
use Rattle.expr_reader.specs.declared.machine.Place.TheVariants.{AfterTo, Close}
use Rattle.expr_reader.specs.declared.open_calls.OpenCall.{OpenCall}
use Rattle.expr_reader.specs.Grammar.{IsExpression, GoesOn, IsPlace, IsOver}
use Rattle.expr_reader.proofs.LettersLemmas.{begins_letter}
use Rattle.expr_reader.proofs.TakeLemmas.{go}
use Rattle.expr_reader.proofs.BegunLemmas.{NoChar}
use Rattle.expr_reader.proofs.TextLemmas.{encodes_front, no_char_behind}
use Rattle.expr_reader.proofs.CompleteLemmas.{closed}
use Rattle.expr_reader.proofs.PlaceLemmas.{expression_read, FitsOn, shorter, not_over}
use Rattle.expr_reader.proofs.EndLemmas.{end_place}
use Rattle.expr_reader.proofs.LimitLemmas.{within, over_front, longest_of, parts}

-- ---- counts of a machine

-- quoted text is being read
abbrev in_quotes : Place → Bool
in_quotes Quote = true
in_quotes Escape = true
in_quotes _ = false

-- a backslash of it was
abbrev in_escape : Place → Bool
in_escape Escape = true
in_escape _ = false

-- what the machine counts
abbrev shown : Machine → Counts
shown m = record {
  quoted = in_quotes m.place;
  escaped = in_escape m.place;
  level = length m.outer;
  deepest = m.deepest;
  begun = m.begun;
}

-- where it goes on, it counts so
abbrev Counted : Option Machine → Counts → Type 0
Counted None k = Unit {0}
Counted (Some n) k = k ≡ shown n

-- by either value of a test
if_counted : (b : Bool) (x y : Option Machine) (k : Counts) → (b ≡ true → Counted x k)
    → (b ≡ false → Counted y k) → Counted (cond b x y) k
if_counted true x y k t f = t refl
if_counted false x y k t f = f refl

-- a character that changes no count outside of quotes
record Calm (c : ℕ) : Type 0 where
  quote : (c == 34) ≡ false
  bracket : (c == 40) ≡ false
  close : (c == 41) ≡ false

-- it changes none
calm : (k : Counts) (c : ℕ) → Calm c → count_plain k c ≡ k
calm k c h = rw (h.quote, h.bracket, h.close) refl

-- a blank is so
blank_calm : (c : ℕ) → is_blank c ≡ true → Calm c
blank_calm c h = record {
  quote = grind (arith, nat_tests);
  bracket = grind (arith, nat_tests);
  close = grind (arith, nat_tests);
}

-- a name letter is
letter_calm : (c : ℕ) → is_name_letter c ≡ true → Calm c
letter_calm c h = record {
  quote = grind (arith, nat_tests);
  bracket = grind (arith, nat_tests);
  close = grind (arith, nat_tests);
}

-- a character that isn't special is
plain_calm : (c : ℕ) → is_special c ≡ false → Calm c
plain_calm c h = record {
  quote = grind (arith, nat_tests);
  bracket = grind (arith, nat_tests);
  close = grind (arith, nat_tests);
}

-- one of another number is
other_calm : (c d : ℕ) → (c == d) ≡ true → Calm d → Calm c
other_calm c d e h = subst Calm (sym (eqb-true c d e)) h

-- a comma is
comma_calm : Calm 44
comma_calm = record { quote = refl; bracket = refl; close = refl }

-- what a machine counts outside of quotes
abbrev plain_counts : Machine → Counts
plain_counts m = record {
  quoted = false;
  escaped = false;
  level = length m.outer;
  deepest = m.deepest;
  begun = m.begun;
}

-- a parenthesis that opens a call
open_counts : (m : Machine) (c : ℕ) → eqb c 40 ≡ true
    → count_plain (plain_counts m) c ≡ shown (open_call m)
open_counts m c e =
    let o : OpenCall = record { name = m.name; args = m.args; key = m.key } in
    let longer : length m.outer + 1 ≡ length (o ∷ m.outer) = omega arith in
    ap (count_plain (plain_counts m)) (eqb-true c 40 e)
    ∙ (λ i. record (shown (open_call m)) { level = longer i })

-- a parenthesis that closes one
close_counts : (outer : List OpenCall) (n : Machine) → in_quotes n.place ≡ false
    → in_escape n.place ≡ false
    → count_plain (plain_counts (record n { outer = outer })) 41 ≡ shown
    (close_in outer (record n { outer = outer }))
close_counts [] n q s = λ i. record (plain_counts (record n { outer = [] })) {
  quoted = sym q i;
  escaped = sym s i;
}
close_counts (o ∷ []) n q s = refl
close_counts (o ∷ p ∷ outer) n q s =
    let shorter : length (o ∷ p ∷ outer) - 1 ≡ length (p ∷ outer) = omega arith in
    λ i. record (plain_counts n) { level = shorter i }

-- what stands behind an argument
stop_counted : (n : Machine) (c : ℕ) → in_quotes n.place ≡ false → in_escape n.place ≡ false
    → Counted (stop n c) (count_plain (plain_counts n) c)
stop_counted n c q s = if_counted (eqb c 44) _ _ _
    (λ e. calm (plain_counts n) c (other_calm c 44 e comma_calm))
    (λ _. if_counted (eqb c 41) _ _ _
    (λ e. ap (count_plain (plain_counts n)) (eqb-true c 41 e) ∙ close_counts n.outer n q s)
    (λ _. tt))

-- the same behind a call
call_counted : (inner : Option CallTree) (m : Machine) (c : ℕ) → in_quotes m.place ≡ false
    → in_escape m.place ≡ false
    → Counted (stop (end_call_of inner m) c) (count_plain (plain_counts m) c)
call_counted None m c q s = stop_counted m c q s
call_counted (Some t) m c q s = stop_counted (end_call_of (Some t) m) c q s

-- and behind a new name
renamed_counted : (inner : Option CallTree) (m : Machine) (c : ℕ) → in_quotes m.place ≡ false
    → in_escape m.place ≡ false
    → Counted (stop (end_renamed_of inner m) c) (count_plain (plain_counts m) c)
renamed_counted None m c q s = stop_counted m c q s
renamed_counted (Some t) m c q s = stop_counted (end_renamed_of (Some t) m) c q s

-- a word or call that begins
begin_counted : (m : Machine) (c : ℕ) → Counted (begin_word m c) (count_plain (plain_counts m) c)
begin_counted m c = if_counted (eqb c 34) _ _ _
    (λ e. rw e refl)
    (λ _. if_counted (is_special c) _ _ _ (λ _. tt)
    (λ ns. calm (plain_counts m) c (plain_calm c ns)))

-- ---- one more character

-- no count changes at a calm one
stays : (m : Machine) (c : ℕ) → Calm c → count_plain (plain_counts m) c ≡ plain_counts m
stays m c h = calm (plain_counts m) c h

-- at each place the machine counts as the characters do
step_counted : (q : Place) (m : Machine) (c : ℕ)
    → Counted (step (record m { place = q }) c) (count (shown (record m { place = q })) c)
step_counted Start m c = if_counted (is_blank c) _ _ _
    (λ b. stays m c (blank_calm c b))
    (λ _. if_counted (begins_name c) _ _ _
    (λ b. stays m c (letter_calm c (begins_letter c b))) (λ _. tt))
step_counted Name m c = if_counted (is_name_letter c) _ _ _
    (λ b. stays m c (letter_calm c b))
    (λ _. if_counted (is_blank c) _ _ _
    (λ b. stays m c (blank_calm c b))
    (λ _. if_counted (eqb c 40) _ _ _ (λ e. open_counts m c e) (λ _. tt)))
step_counted AfterName m c = if_counted (is_blank c) _ _ _
    (λ b. stays m c (blank_calm c b))
    (λ _. if_counted (eqb c 40) _ _ _ (λ e. open_counts m c e) (λ _. tt))
step_counted Open m c = if_counted (is_blank c) _ _ _
    (λ b. stays m c (blank_calm c b))
    (λ _. if_counted (eqb c 41) _ _ _
    (λ e. ap (count_plain (plain_counts m)) (eqb-true c 41 e)
    ∙ close_counts m.outer (record m { place = Open }) refl refl)
    (λ _. begin_counted (record m { place = Open }) c))
step_counted Before m c = if_counted (is_blank c) _ _ _
    (λ b. stays m c (blank_calm c b)) (λ _. begin_counted (record m { place = Before }) c)
step_counted Bare m c = if_counted (is_blank c) _ _ _
    (λ b. stays m c (blank_calm c b))
    (λ _. if_counted (eqb c 61) _ _ _
    (λ e. if_counted (is_none m.key && list_all is_key_letter m.text) _ _ _
    (λ _. stays m c (other_calm c 61 e (record { quote = refl; bracket = refl; close = refl })))
    (λ _. tt))
    (λ _. if_counted (eqb c 40) _ _ _
    (λ e. if_counted (is_name m.text) _ _ _ (λ _. open_counts m c e) (λ _. tt))
    (λ _. if_counted (is_special c) _ _ _
    (λ _. stop_counted (end_word false (record m { place = Bare })) c refl refl)
    (λ ns. stays m c (plain_calm c ns)))))
step_counted Quote m c = if_counted (eqb c 34) _ _ _
    (λ e. rw e refl)
    (λ nq. if_counted (eqb c 92) _ _ _ (λ e. rw (nq, e) refl) (λ nb. rw (nq, nb) refl))
step_counted Escape m c = if_counted (eqb c 34) _ _ _ (λ e. refl) (λ nq. refl)
step_counted AfterQuote m c = if_counted (is_blank c) _ _ _
    (λ b. stays m c (blank_calm c b))
    (λ _. stop_counted (end_word true (record m { place = AfterQuote })) c refl refl)
step_counted AfterCall m c = if_counted (is_blank c) _ _ _
    (λ b. stays m c (blank_calm c b))
    (λ _. call_counted m.inner (record m { place = AfterCall }) c refl refl)
step_counted CallGap m c = if_counted (is_blank c) _ _ _
    (λ b. stays m c (blank_calm c b))
    (λ _. if_counted (eqb c 97 && is_none m.key) _ _ _
    (λ e. stays m c (other_calm c 97 (and_parts _ _ e).0
    (record { quote = refl; bracket = refl; close = refl })))
    (λ _. call_counted m.inner (record m { place = CallGap }) c refl refl))
step_counted As m c = if_counted (eqb c 115) _ _ _
    (λ e. stays m c (other_calm c 115 e (record { quote = refl; bracket = refl; close = refl })))
    (λ _. tt)
step_counted AfterAs m c = if_counted (is_blank c) _ _ _
    (λ b. stays m c (blank_calm c b)) (λ _. tt)
step_counted BeforeTo m c = if_counted (is_blank c) _ _ _
    (λ b. stays m c (blank_calm c b))
    (λ _. if_counted (begins_name c) _ _ _
    (λ b. stays m c (letter_calm c (begins_letter c b))) (λ _. tt))
step_counted To m c = if_counted (is_name_letter c) _ _ _
    (λ b. stays m c (letter_calm c b))
    (λ _. if_counted (is_blank c) _ _ _
    (λ b. stays m c (blank_calm c b))
    (λ _. renamed_counted m.inner (record m { place = To }) c refl refl))
step_counted AfterTo m c = if_counted (is_blank c) _ _ _
    (λ b. stays m c (blank_calm c b))
    (λ _. renamed_counted m.inner (record m { place = AfterTo }) c refl refl)
step_counted Close m c = if_counted (is_blank c) _ _ _
    (λ b. stays m c (blank_calm c b)) (λ _. tt)

-- ---- fronts

-- the machine counts what it takes
go_counted : (cs : List ℕ) (m n : Machine) → go m cs ≡ Some n → counts_from (shown m) cs ≡ shown n
go_counted [] m n h = let is : m ≡ n = cc in ap shown is
go_counted (c ∷ cs) m n h =
    elim (step m c) as (λ o. Counted o (count (shown m) c) → option_and_then (λ x. go x cs) o ≡ Some n
    → counts_from (count (shown m) c) cs ≡ shown n) [
      | None ↦ λ k e. cc
      | Some x ↦ λ k e. ap (λ t. counts_from t cs) k ∙ go_counted cs x n e
    ] (step_counted m.place m c) h

-- what takes more takes the front
go_front : (xs ys : List ℕ) (m n : Machine) → go m (xs ++ ys) ≡ Some n
    → (k : Machine) × (go m xs ≡ Some k)
go_front [] ys m n h = (m, refl)
go_front (x ∷ xs) ys m n h =
    elim (step m x) as (λ o. option_and_then (λ p. go p (xs ++ ys)) o ≡ Some n
    → (k : Machine) × (option_and_then (λ p. go p xs) o ≡ Some k))
    [ None ↦ λ e. cc | Some p ↦ λ e. go_front xs ys p n e ] h

-- a front of an expression is taken
front_taken : (cs : List ℕ) → GoesOn (encode_utf8_all cs) → (m : Machine) × (go start cs ≡ Some m)
front_taken cs (more, tree, x) =
    let r = expression_read _ tree x in
    let split = encodes_front cs r.characters more (sym r.printed) in
    go_front cs split.0 start (closed tree) (ap (go start) (sym split.1) ∙ r.taken)

-- a machine is over a limit where it counts more
over_counts : (m : Machine) → is_over m ≡ true → PassLimits (shown m)
over_counts m h = ⊎_elim (λ (deep : level_limit < m.deepest). inl deep)
    (λ (low : m.deepest ≤ level_limit). ⊎_elim
    (λ (many : call_limit < m.begun). inr many)
    (λ (few : m.begun ≤ call_limit). absurd (false≢true (sym (within m low few) ∙ h)))
    (cases_lt call_limit m.begun))
    (cases_lt level_limit m.deepest)

-- and there alone
counts_over : (m : Machine) → PassLimits (shown m) → is_over m ≡ true
counts_over m h = ⊎_elim (λ (large : is_over m ≡ true). large)
    (λ (small : is_over m ≡ false).
    let k = not_over m small in
    absurd (⊎_elim (λ (deep : level_limit < m.deepest). omega (arith, k.0))
    (λ (many : call_limit < m.begun). omega (arith, k.1)) h))
    (cases_Bool (is_over m))

-- bytes that go on are all before their place
front_at : (bytes : List ℕ) (at : ℕ) → IsPlace bytes at → GoesOn bytes → take at bytes ≡ bytes
front_at bytes at p goes =
    let whole : take (length bytes) bytes ≡ bytes = take_all (length bytes) bytes (omega arith) in
    let le = longest_of bytes at (length bytes) p (omega arith) (subst GoesOn (sym whole) goes) in
    take_all at bytes (omega (arith, le))

-- what is over the limits is so with more bytes
over_more : (front more : List ℕ) → IsOver front → IsOver (front ++ more)
over_more front more over others tree x keeps =
    over (more ++ others) tree
    (subst (λ t. IsExpression t tree) (append_assoc front more others) x) keeps

-- characters and a tail that begins none, with which some expression begins, are over the limits
-- exactly where the counts of the characters pass them
over_counted : (cs tail : List ℕ) → scalars cs ≡ true → NoChar tail
    → GoesOn (encode_utf8_all cs ++ tail)
    → IsOver (encode_utf8_all cs ++ tail) ↔ PassLimits (counts_of cs)
over_counted cs tail s none goes =
    let t = front_taken cs (shorter (encode_utf8_all cs) tail goes) in
    let m = t.0 in
    let counts : counts_of cs ≡ shown m = go_counted cs start m t.1 in
    let end = end_place cs m tail s t.1 none in
    let bytes = encode_utf8_all cs ++ tail in
    subst (λ (n : Counts). IsOver bytes ↔ PassLimits n) (sym counts) (
      λ over. ⊎_elim (λ (large : is_over m ≡ true). over_counts m large)
          (λ (small : is_over m ≡ false).
          let f = subst FitsOn (front_at bytes _ end.place goes) (end.fits small) in
          absurd (over f.0 f.1 f.2 f.3))
          (cases_Bool (is_over m)),
      λ k. over_more (encode_utf8_all cs) tail (over_front cs m t.1 (counts_over m k)),
    )

-- the limits are those of the counts
pub limits_are_counted : LimitsAreCounted
limits_are_counted front goes =
    let p = parts front in
    let cs = whole_characters front in
    subst (λ t. IsOver t ↔ PassLimits (counts_of cs)) p.whole
    (over_counted cs (drop (utf8_valid_len front) front) p.are (no_char_behind front)
    (subst GoesOn (sym p.whole) goes))
