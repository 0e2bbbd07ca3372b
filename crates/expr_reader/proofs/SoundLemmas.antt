-- What is read is laid out as an expression.
use Rattle.std.proofs.Common.{◌≡◌, ℕ, List, [], ◌∷◌, ◌++◌, Bool, true, false, ◌&&◌, ◌+◌, ◌/◌}
use Rattle.std.proofs.Common.{◌≤◌, ◌<◌, ltb, arith, eqb, cond, Option, Some, None, is_none}
use Rattle.std.proofs.Common.{encode_utf8, encode_utf8_all, refl, ap, sym, ◌∙◌, subst, append_assoc}
use Rattle.std.proofs.Common.{append-nil}
use Rattle.std.specs.List.{AllByRecursion, list_all}
use Rattle.std.proofs.lemmas.Bool.{false≢true, and_parts, eqb-true}
use Rattle.std.proofs.lemmas.Str.{encode_ascii}
use Rattle.std.specs.Option.{option_and_then}
use lib.Utf8.{encode, next}
use Rattle.expr_reader.specs.Tree.{renamed, word_tree, call_arg_tree}
use Rattle.expr_reader.specs.Letters.{is_blank, is_key_letter, is_name_letter, begins_name}
use Rattle.expr_reader.specs.Letters.{is_special, is_name}
use Rattle.expr_reader.specs.Machine.{Machine, start, end_call_of}
use Rattle.expr_reader.specs.Steps.{step, begin_word}
use Rattle.expr_reader.specs.Machine.{end_call, end_renamed_of, end_renamed}
use Rattle.expr_reader.specs.Steps.{stop}
use Rattle.expr_reader.specs.declared.machine.Place.{Place}
use Rattle.expr_reader.specs.declared.machine.Place.TheVariants.{Start, Name, AfterName, Open}
use Rattle.expr_reader.specs.declared.machine.Place.TheVariants.{Before, Bare, Quote, Escape}
use Rattle.expr_reader.specs.declared.machine.Place.TheVariants.{AfterQuote, AfterCall, CallGap}
use Rattle.expr_reader.specs.declared.machine.Place.TheVariants.{As, AfterAs, BeforeTo, To}
use Rattle.expr_reader.specs.declared.machine.Place.TheVariants.{AfterTo, Close}
use Rattle.expr_reader.specs.Layout.{call_print, call_says}
use Rattle.expr_reader.specs.Word.{AreBlank, IsGap, IsName, IsKey, EndsPlain, BeginsPlain, IsBare}
use Rattle.expr_reader.specs.Word.{nothing_more, letter, escaped_quote, kept_backslash}
use Rattle.expr_reader.specs.Word.{inside_print, inside_text, bare, quoted}
use Rattle.expr_reader.specs.declared.open_calls.OpenCall.{OpenCall}
use Rattle.expr_reader.proofs.LettersLemmas.{blank_not_special, key_ascii, name_ascii}
use Rattle.expr_reader.proofs.LettersLemmas.{begins_letter}
use Rattle.expr_reader.proofs.TakeLemmas.{go}
use Rattle.expr_reader.proofs.FrontLemmas.{all_push, bytes_push, bytes_append, join, print-join}
use Rattle.expr_reader.proofs.FrontLemmas.{text-join, IsInside-join, Context, InCall, Here}
use Rattle.expr_reader.proofs.FrontLemmas.{AtBase, CalledAt, RenamesAt, RenamedAt, Whole}
use Rattle.expr_reader.proofs.FrontLemmas.{Front, Good}
use Rattle.expr_reader.proofs.StepLemmas.{if_good, push_tail, push_is, name_push, blank_push}
use Rattle.expr_reader.proofs.StepLemmas.{gap_push, here_push, here_is, here_blank, before_here}
use Rattle.expr_reader.proofs.StepLemmas.{here_opened, opens, opened_blank, closed_good}
use Rattle.expr_reader.proofs.StepLemmas.{closes_none, EndedIn, ended_word, ended_call}
use Rattle.expr_reader.proofs.StepLemmas.{ended_renamed, no_key_print, stops}

-- ---- before the outermost call

-- one more character before the name
from_start : (m : Machine) (c : ℕ) (p : List ℕ) → Front Start m p
    → Good (step (record m { place = Start }) c) (p ++ c ∷ [])
from_start m c p (base, blank) = if_good (is_blank c) _ _ _
    (λ b. (
      base,
      blank_push p c blank b,
    ))
    (λ nb. if_good (begins_name c) _ _ _
    (λ b. (
      base,
      refl,
      record {
        before = p;
        letters = c ∷ [];
        blank = blank;
        is_name = (b, tt);
        says = sym
            (append-nil (encode_utf8 c));
        is = refl;
      },
    ))
    (λ _. tt))

-- a text without blanks behind it goes on
pub grown : (text blanks said more : List ℕ) → text ≡ said → blanks ≡ []
    → (text ++ blanks) ++ more ≡ said ++ more
grown text blanks said more ht hb =
    ap (λ t. (t ++ blanks) ++ more) ht ∙ ap (λ b. (said ++ b) ++ more) hb
    ∙ ap (λ t. t ++ more) (append-nil said)

-- blanks alone stand before the outermost call
base_context : (m : Machine) (p : List ℕ) → AtBase m → AreBlank p
    → Context m.outer m.name m.args m.key p
base_context m p base b = subst (λ o. Context o m.name m.args m.key p) (sym base.0) b

-- one more character in the name
from_name : (m : Machine) (c : ℕ) (p : List ℕ) → Front Name m p
    → Good (step (record m { place = Name }) c) (p ++ c ∷ [])
from_name m c p (base, none, at) = if_good (is_name_letter c) _ _ _
    (λ b. (
      base,
      refl,
      record {
        before = at.before;
        letters = at.letters ++ c ∷ [];
        blank = at.blank;
        is_name = name_push at.letters c at.is_name b;
        says = grown m.text m.blanks (encode_utf8_all at.letters) (encode_utf8 c) at.says none
            ∙ sym (bytes_push at.letters c);
        is = push_tail p at.before at.letters c at.is;
      },
    ))
    (λ _. if_good (is_blank c) _ _ _
    (λ b. (
      base,
      p,
      c ∷ [],
      at,
      (b, tt),
      refl,
    ))
    (λ _. if_good (eqb c 40) _ _ _
    (λ e. (
      opens m.outer m.name m.args m.key m.text at.before at.letters [] p c
          (base_context m at.before base at.blank) at.is_name tt at.says
          (at.is ∙ ap (λ t. at.before ++ t) (sym (append-nil at.letters))) (eqb-true c 40 e),
      refl,
      refl,
    ))
    (λ _. tt)))

-- one more character behind the name
from_after_name : (m : Machine) (c : ℕ) (p : List ℕ) → Front AfterName m p
    → Good (step (record m { place = AfterName }) c) (p ++ c ∷ [])
from_after_name m c p (base, front, gap, at, bg, is) = if_good (is_blank c) _ _ _
    (λ b. (
      base,
      front,
      gap ++ c ∷ [],
      at,
      blank_push gap c bg b,
      push_tail p front gap c is,
    ))
    (λ _. if_good (eqb c 40) _ _ _
    (λ e. (
      opens m.outer m.name m.args m.key m.text at.before at.letters gap p c
          (base_context m at.before base at.blank) at.is_name bg at.says
          (is ∙ ap (λ t. t ++ gap) at.is ∙ append_assoc at.before at.letters gap)
          (eqb-true c 40 e),
      refl,
      refl,
    ))
    (λ _. tt))

-- ---- words

-- a word begins
begins : (m : Machine) (c : ℕ) (p : List ℕ) → Here m [] p → is_blank c ≡ false
    → Good (begin_word m c) (p ++ c ∷ [])
begins m c p w nb = if_good (eqb c 34) _ _ _
    (λ e. (
      nothing_more,
      tt,
      refl,
      refl,
      here_push m.outer m.name m.args m.key [] p c 34 w (eqb-true c 34 e),
    ))
    (λ _. if_good (is_special c) _ _ _ (λ _. tt)
    (λ ns. (
      c ∷ [],
      [],
      ((ns, tt), nb, nb),
      tt,
      sym (append-nil (encode_utf8 c)),
      refl,
      here_push m.outer m.name m.args m.key [] p c c w refl,
    )))

-- one more character before a word
from_before : (m : Machine) (c : ℕ) (p : List ℕ) → Front Before m p
    → Good (step (record m { place = Before }) c) (p ++ c ∷ [])
from_before m c p f =
    if_good (is_blank c) _ _ _ (here_blank m.outer m.name m.args m.key p c f)
    (begins (record m { place = Before }) c p f)

-- one more character behind a parenthesis
from_open : (m : Machine) (c : ℕ) (p : List ℕ) → Front Open m p
    → Good (step (record m { place = Open }) c) (p ++ c ∷ [])
from_open m c p (o, a, k) = if_good (is_blank c) _ _ _
    (λ b. (opened_blank m.outer m.name p c o b, a, k))
    (λ nb. if_good (eqb c 41) _ _ _
    (λ e. closed_good m.outer (record m { place = Open }) (p ++ c ∷ [])
    (closes_none m.outer m.name m.args p c o a (eqb-true c 41 e)))
    (λ _. begins (record m { place = Open }) c p
    (here_opened m.outer m.name m.args m.key p o a k) nb))

-- one more character behind a closing quote
from_after_quote : (m : Machine) (c : ℕ) (p : List ℕ) → Front AfterQuote m p
    → Good (step (record m { place = AfterQuote }) c) (p ++ c ∷ [])
from_after_quote m c p (i, ws, hi, hw, ht, w) = if_good (is_blank c) _ _ _
    (λ b. (
      i,
      ws ++ c ∷ [],
      hi,
      blank_push ws c hw b,
      ht,
      here_is m.outer m.name m.args m.key _ _ (p ++ c ∷ [])
          (here_push m.outer m.name m.args m.key (34 ∷ (inside_print i ++ 34 ∷ ws)) p c c w refl)
          (ap (λ t. 34 ∷ t) (append_assoc (inside_print i) (34 ∷ ws) (c ∷ []))),
    ))
    (λ _. stops (record m { place = AfterQuote }) (word_tree m.key m.text true) c p
    (ended_word m.outer m.name m.args m.key m.text (quoted i) ws p hi hw ht
    (here_is m.outer m.name m.args m.key _ _ p w
    (ap (λ t. 34 ∷ t) (sym (append_assoc (inside_print i) (34 ∷ []) ws))))))

-- one more character between quotes
from_quote : (m : Machine) (c : ℕ) (p : List ℕ) → Front Quote m p
    → Good (step (record m { place = Quote }) c) (p ++ c ∷ [])
from_quote m c p (i, hi, ht, hb, w) =
    let push = here_push m.outer m.name m.args m.key (34 ∷ inside_print i) p c in
    if_good (eqb c 34) _ _ _
    (λ e. (i, [], hi, tt, ht, push 34 w (eqb-true c 34 e)))
    (λ nq. if_good (eqb c 92) _ _ _
    (λ e. (i, hi, ht, hb, push 92 w (eqb-true c 92 e)))
    (λ nb. let j = letter c nothing_more in (
      join i j,
      IsInside-join i j hi (nq, nb, tt),
      grown m.text m.blanks (inside_text i) (encode_utf8 c) ht hb
          ∙ ap (λ t. inside_text i ++ t) (sym (append-nil (encode_utf8 c))) ∙ sym (text-join i j),
      refl,
      here_is m.outer m.name m.args m.key _ _ (p ++ c ∷ []) (push c w refl)
          (ap (λ t. 34 ∷ t) (sym (print-join i j))),
    )))

-- one more character behind a backslash
from_escape : (m : Machine) (c : ℕ) (p : List ℕ) → Front Escape m p
    → Good (step (record m { place = Escape }) c) (p ++ c ∷ [])
from_escape m c p (i, hi, ht, hb, w) =
    let push = here_push m.outer m.name m.args m.key (34 ∷ (inside_print i ++ 92 ∷ [])) p c in
    if_good (eqb c 34) _ _ _
    (λ e. let j = escaped_quote nothing_more in (
      join i j,
      IsInside-join i j hi tt,
      grown m.text m.blanks (inside_text i) (34 ∷ []) ht hb ∙ sym (text-join i j),
      refl,
      here_is m.outer m.name m.args m.key _ _ (p ++ c ∷ []) (push 34 w (eqb-true c 34 e))
          (ap (λ t. 34 ∷ t)
          (append_assoc (inside_print i) (92 ∷ []) (34 ∷ []) ∙ sym (print-join i j))),
    ))
    (λ nq. let j = kept_backslash c nothing_more in (
      join i j,
      IsInside-join i j hi (nq, tt),
      ap (λ t. t ++ encode_utf8 c)
          (append-nil ((m.text ++ m.blanks) ++ 92 ∷ [])
          ∙ grown m.text m.blanks (inside_text i) (92 ∷ []) ht hb)
          ∙ append_assoc (inside_text i) (92 ∷ []) (encode_utf8 c)
          ∙ ap (λ t. inside_text i ++ 92 ∷ t) (sym (append-nil (encode_utf8 c)))
          ∙ sym (text-join i j),
      refl,
      here_is m.outer m.name m.args m.key _ _ (p ++ c ∷ []) (push c w refl)
          (ap (λ t. 34 ∷ t)
          (append_assoc (inside_print i) (92 ∷ []) (c ∷ []) ∙ sym (print-join i j))),
    ))

-- ---- bare text

-- a fact of all, of two lists
all_append : (P : ℕ → Type 0) (cs ds : List ℕ) → AllByRecursion P cs → AllByRecursion P ds
    → AllByRecursion P (cs ++ ds)
all_append P [] ds h k = k
all_append P (x ∷ cs) ds h k = (h.0, all_append P cs ds h.1 k)

-- no blank is special
blanks_plain : (ws : List ℕ) → AreBlank ws → AllByRecursion (λ c. is_special c ≡ false) ws
blanks_plain [] h = tt
blanks_plain (w ∷ ws) h = (blank_not_special w h.0, blanks_plain ws h.1)

-- what begins with no blank does so whatever follows
begins_append : (cs ds : List ℕ) → BeginsPlain cs → BeginsPlain (cs ++ ds)
begins_append [] ds h = absurd h
begins_append (c ∷ cs) ds h = h

-- what gets a character that is no blank ends with none
ends_push : (cs : List ℕ) (c : ℕ) → is_blank c ≡ false → EndsPlain (cs ++ c ∷ [])
ends_push [] c h = h
ends_push (x ∷ []) c h = h
ends_push (x ∷ y ∷ cs) c h = ends_push (y ∷ cs) c h

-- bytes of a class of ASCII letters are characters of it
module _ (f : ℕ → Bool) (ascii : (x : ℕ) → f x ≡ true → x < 128) where
  -- a byte past ASCII is none of the class
  no_high : (x : ℕ) (y : Bool) (P : Type 0) → 128 ≤ x → (f x && y) ≡ true → P
  no_high x y P le h = absurd (omega (arith, ascii x (and_parts _ _ h).0))

  -- bytes of the class begin with a character of it
  class_head : (c : ℕ) (rest : List ℕ) → list_all f (encode c ++ rest) ≡ true
      → (f c ≡ true) × (list_all f rest ≡ true)
  unfolding encode
  class_head c rest h =
      let P : Type 0 = (f c ≡ true) × (list_all f rest ≡ true) in
      let two = (192 + c / 64) ∷ next c ∷ [] in
      let three = (224 + c / 4096) ∷ next (c / 64) ∷ next c ∷ [] in
      let four = (240 + c / 262144) ∷ next (c / 4096) ∷ next (c / 64) ∷ next c ∷ [] in
      elim (ltb c 128) as (λ b. list_all f
      (cond b (c ∷ []) (cond (ltb c 2048) two (cond (ltb c 65536) three four)) ++ rest) ≡ true
      → P) [
        | true ↦ λ k. and_parts _ _ k
        | false ↦ λ k. (elim (ltb c 2048) as
            (λ b. list_all f (cond b two (cond (ltb c 65536) three four) ++ rest) ≡ true
            → P) [
              | true ↦ λ u. no_high (192 + c / 64) _ P (omega arith) u
              | false ↦ λ u. (elim (ltb c 65536) as
                  (λ b. list_all f (cond b three four ++ rest) ≡ true → P) [
                    | true ↦ λ v. no_high (224 + c / 4096) _ P (omega arith) v
                    | false ↦ λ v. no_high
                        (240 + c / 262144) _ P (omega arith) v
                  ]) u
            ]) k
      ] h

  -- characters whose bytes are of the class are of it
  pub class_of_bytes : (cs : List ℕ) → list_all f (encode_utf8_all cs) ≡ true
      → AllByRecursion (λ c. f c ≡ true) cs
  class_of_bytes [] h = tt
  class_of_bytes (c ∷ cs) h =
      let k = class_head c (encode_utf8_all cs) h in
      (k.0, class_of_bytes cs k.1)

-- bare text of key letters is a key
bare_key : (cs : List ℕ) → IsBare cs → list_all is_key_letter (encode_utf8_all cs) ≡ true → IsKey cs
bare_key [] b h = absurd b.1
bare_key (c ∷ cs) b h = class_of_bytes is_key_letter key_ascii (c ∷ cs) h

-- the bytes of a name are name letters
name_letters : (bs : List ℕ) → is_name bs ≡ true → list_all is_name_letter bs ≡ true
name_letters [] h = absurd (false≢true h)
name_letters (b ∷ bs) h = let two = and_parts _ _ h in rw (begins_letter b two.0, two.1) refl

-- characters whose bytes are a name are one
name_of_bytes : (cs : List ℕ) → is_name (encode_utf8_all cs) ≡ true → IsName cs
name_of_bytes [] h = absurd (false≢true h)
name_of_bytes (c ∷ cs) h =
    let all = class_of_bytes is_name_letter name_ascii (c ∷ cs)
    (name_letters (encode_utf8_all (c ∷ cs)) h) in
    let first : is_name (c ∷ encode_utf8_all cs) ≡ true =
    ap (λ t. is_name (t ++ encode_utf8_all cs)) (sym (encode_ascii c (name_ascii c all.0))) ∙ h in
    ((and_parts _ _ first).0, all.1)

-- one more character of bare text
from_bare : (m : Machine) (c : ℕ) (p : List ℕ) → Front Bare m p
    → Good (step (record m { place = Bare }) c) (p ++ c ∷ [])
from_bare m c p (cs, ws, hb, hw, ht, hbl, w) = if_good (is_blank c) _ _ _
    (λ b. (
      cs,
      ws ++ c ∷ [],
      hb,
      blank_push ws c hw b,
      ht,
      ap (λ t. t ++ encode_utf8 c) hbl ∙ sym (bytes_push ws c),
      here_is m.outer m.name m.args m.key _ _ (p ++ c ∷ []) (push c refl)
          (append_assoc cs ws (c ∷ [])),
    ))
    (λ nb. if_good (eqb c 61) _ _ _
    (λ e. if_good (is_none m.key && list_all is_key_letter m.text) _ _ _
    (λ k. let two = and_parts _ _ k in
    key_here m.outer m.name m.args m.key m.text cs ws p c w hb hw ht two.0 two.1 (eqb-true c 61 e))
    (λ _. tt))
    (λ _. if_good (eqb c 40) _ _ _
    (λ e. if_good (is_name m.text) _ _ _
    (λ k. let x = before_here m.outer m.name m.args m.key (cs ++ ws) p w in (
      opens m.outer m.name m.args m.key m.text x.front cs ws p c x.context
          (name_of_bytes cs (ap is_name (sym ht) ∙ k)) hw ht x.is (eqb-true c 40 e),
      refl,
      refl,
    ))
    (λ _. tt))
    (λ _. if_good (is_special c) _ _ _
    (λ _. stops (record m { place = Bare }) (word_tree m.key m.text false) c p
    (ended_word m.outer m.name m.args m.key m.text (bare cs) ws p hb hw ht w))
    (λ ns. (
      (cs ++ ws) ++ c ∷ [],
      [],
      (
        all_push (λ d. is_special d ≡ false) (cs ++ ws) c
            (all_append (λ d. is_special d ≡ false) cs ws hb.0 (blanks_plain ws hw)) ns,
        begins_append (cs ++ ws) (c ∷ []) (begins_append cs ws hb.1),
        ends_push (cs ++ ws) c nb,
      ),
      tt,
      ap (λ t. (t ++ m.blanks) ++ encode_utf8 c) ht
          ∙ ap (λ t. (encode_utf8_all cs ++ t) ++ encode_utf8 c) hbl
          ∙ ap (λ t. t ++ encode_utf8 c) (sym (bytes_append cs ws)) ∙ sym (bytes_push (cs ++ ws) c),
      refl,
      here_is m.outer m.name m.args m.key _ _ (p ++ c ∷ []) (push c refl)
          (sym (append-nil ((cs ++ ws) ++ c ∷ []))),
    )))))
  where
    push : (d : ℕ) → c ≡ d → InCall m.outer m.name m.args m.key ((cs ++ ws) ++ d ∷ []) (p ++ c ∷ [])
    push d e = here_push m.outer m.name m.args m.key (cs ++ ws) p c d w e

    key_here : (outer : List OpenCall) (name args said text cs ws p : _) (c : ℕ)
        → InCall outer name args said (cs ++ ws) p → IsBare cs → AreBlank ws
        → text ≡ encode_utf8_all cs → is_none said ≡ true → list_all is_key_letter text ≡ true
        → c ≡ 61 → InCall outer name args (Some text) [] (p ++ c ∷ [])
    key_here [] name args said text cs ws p c w hb hw ht none letters e = absurd w
    key_here (o ∷ outer) name args said text cs ws p c w hb hw ht none letters e =
        let wk = w.with_key in record {
          front = p ++ c ∷ [];
          with_key = record {
            front = wk.front;
            head = wk.head;
            key = Some (record { before = w.blanks; key = cs; behind = ws });
            ok = (w.blank, bare_key cs hb (ap (list_all is_key_letter) (sym ht) ∙ letters), hw);
            key_is = ap Some ht;
            is = push_is p w.front (w.blanks ++ (cs ++ ws)) c 61 w.is e
                ∙ ap (λ t. t ++ ((w.blanks ++ (cs ++ ws)) ++ 61 ∷ []))
                (wk.is ∙ ap (λ t. wk.front ++ t) (no_key_print wk.key said wk.key_is none)
                ∙ append-nil wk.front)
                ∙ ap (λ t. wk.front ++ t) (simp append_assoc);
          };
          blanks = [];
          blank = tt;
          is = sym (append-nil (p ++ c ∷ []));
        }

-- ---- calls in calls

-- one more character behind a call in a call
called_push : (m : Machine) (tail p : List ℕ) (c d : ℕ) → CalledAt m tail p → c ≡ d
    → CalledAt m (tail ++ d ∷ []) (p ++ c ∷ [])
called_push m tail p c d k e = record {
  layout = k.layout;
  allowed = k.allowed;
  says = k.says;
  here = here_is m.outer m.name m.args m.key _ _ (p ++ c ∷ [])
      (here_push m.outer m.name m.args m.key (call_print k.layout ++ tail) p c d k.here e)
      (append_assoc (call_print k.layout) tail (d ∷ []));
}

-- a comma or a parenthesis behind it
call_stops : (m : Machine) (c : ℕ) (ws p : List ℕ) → AreBlank ws → CalledAt m ws p
    → Good (stop (end_call m) c) (p ++ c ∷ [])
call_stops m c ws p b k =
    subst (λ o. Good (stop (end_call_of o m) c) (p ++ c ∷ [])) (sym k.says)
    (stops (record m { inner = None }) (call_arg_tree m.key (call_says k.layout)) c p
    (ended_call m.outer m.name m.args m.key k.layout ws p k.allowed b k.here))

-- one more character right behind the call
from_after_call : (m : Machine) (c : ℕ) (p : List ℕ) → Front AfterCall m p
    → Good (step (record m { place = AfterCall }) c) (p ++ c ∷ [])
from_after_call m c p k = if_good (is_blank c) _ _ _
    (λ b. (c ∷ [], (b, tt), called_push m [] p c c k refl))
    (λ _. call_stops (record m { place = AfterCall }) c [] p tt k)

-- one or more blanks are blanks
gap_blank : (ws : List ℕ) → IsGap ws → AreBlank ws
gap_blank [] h = absurd h
gap_blank (w ∷ ws) h = h

-- there is no key
none_of : (key : Option (List ℕ)) → is_none key ≡ true → key ≡ None
none_of None h = refl
none_of (Some k) h = absurd (false≢true h)

-- one more character behind the call and a blank
from_call_gap : (m : Machine) (c : ℕ) (p : List ℕ) → Front CallGap m p
    → Good (step (record m { place = CallGap }) c) (p ++ c ∷ [])
from_call_gap m c p (gap, hg, k) = if_good (is_blank c) _ _ _
    (λ b. (gap ++ c ∷ [], gap_push gap c hg b, called_push m gap p c c k refl))
    (λ _. if_good (eqb c 97 && is_none m.key) _ _ _
    (λ e. let two = and_parts _ _ e in record {
      gap = gap;
      is_gap = hg;
      no_key = none_of m.key two.1;
      called = called_push m gap p c 97 k (eqb-true c 97 two.0);
    })
    (λ _. call_stops (record m { place = CallGap }) c gap p (gap_blank gap hg) k))

-- one more character behind the first of `as`
renames_push : (m : Machine) (tail other p : List ℕ) (c d : ℕ) → RenamesAt m tail p → c ≡ d
    → tail ++ d ∷ [] ≡ other → RenamesAt m other (p ++ c ∷ [])
renames_push m tail other p c d r e is = record {
  gap = r.gap;
  is_gap = r.is_gap;
  no_key = r.no_key;
  called = subst (λ t. CalledAt m t (p ++ c ∷ []))
      (append_assoc r.gap tail (d ∷ []) ∙ ap (λ t. r.gap ++ t) is)
      (called_push m (r.gap ++ tail) p c d r.called e);
}

-- one more character behind the first letter of `as`
from_as : (m : Machine) (c : ℕ) (p : List ℕ) → Front As m p
    → Good (step (record m { place = As }) c) (p ++ c ∷ [])
from_as m c p r = if_good (eqb c 115) _ _ _
    (λ e. renames_push m (97 ∷ []) (97 ∷ 115 ∷ []) p c 115 r (eqb-true c 115 e) refl)
    (λ _. tt)

-- one more character behind `as`
from_after_as : (m : Machine) (c : ℕ) (p : List ℕ) → Front AfterAs m p
    → Good (step (record m { place = AfterAs }) c) (p ++ c ∷ [])
from_after_as m c p r = if_good (is_blank c) _ _ _
    (λ b. (
      c ∷ [],
      (b, tt),
      renames_push m (97 ∷ 115 ∷ []) (97 ∷ 115 ∷ c ∷ []) p c c r refl refl,
    ))
    (λ _. tt)

-- one more character behind `as` and a blank
from_before_to : (m : Machine) (c : ℕ) (p : List ℕ) → Front BeforeTo m p
    → Good (step (record m { place = BeforeTo }) c) (p ++ c ∷ [])
from_before_to m c p (space, hs, r) = if_good (is_blank c) _ _ _
    (λ b. (
      space ++ c ∷ [],
      gap_push space c hs b,
      renames_push m (97 ∷ 115 ∷ space) (97 ∷ 115 ∷ (space ++ c ∷ [])) p c c r refl refl,
    ))
    (λ _. if_good (begins_name c) _ _ _
    (λ b. (
      refl,
      record {
        space = space;
        letters = c ∷ [];
        is_space = hs;
        is_name = (b, tt);
        blank = tt;
        text_is = sym (append-nil (encode_utf8 c));
        renames = renames_push m (97 ∷ 115 ∷ space) (97 ∷ 115 ∷ (space ++ c ∷ [])) p c c r refl
            refl;
      },
    ))
    (λ _. tt))

-- a comma or a parenthesis behind the new name
name_stops : (m : Machine) (c : ℕ) (behind p : List ℕ) → RenamedAt m behind p
    → Good (stop (end_renamed m) c) (p ++ c ∷ [])
name_stops m c behind p n =
    let r = n.renames in
    let k = r.called in
    subst (λ o. Good (stop (end_renamed_of o m) c) (p ++ c ∷ [])) (sym k.says)
    (stops (record m { inner = None }) (renamed (call_says k.layout) m.text) c p
    (subst (λ t. EndedIn m.outer m.name m.args (renamed (call_says k.layout) t) p) (sym n.text_is)
    (ended_renamed m.outer m.name m.args m.key k.layout r.gap n.space n.letters behind p k.allowed
    r.is_gap n.is_space n.is_name n.blank r.no_key k.here)))

-- one more blank behind it
name_blank : (m : Machine) (behind p : List ℕ) (c : ℕ) → RenamedAt m behind p → is_blank c ≡ true
    → RenamedAt m (behind ++ c ∷ []) (p ++ c ∷ [])
name_blank m behind p c n b = record {
  space = n.space;
  letters = n.letters;
  is_space = n.is_space;
  is_name = n.is_name;
  blank = blank_push behind c n.blank b;
  text_is = n.text_is;
  renames = renames_push m (97 ∷ 115 ∷ (n.space ++ (n.letters ++ behind)))
      (97 ∷ 115 ∷ (n.space ++ (n.letters ++ (behind ++ c ∷ [])))) p c c n.renames refl
      (ap (λ t. 97 ∷ 115 ∷ t) (simp append_assoc));
}

-- one more character in the new name
from_to : (m : Machine) (c : ℕ) (p : List ℕ) → Front To m p
    → Good (step (record m { place = To }) c) (p ++ c ∷ [])
from_to m c p (none, n) = if_good (is_name_letter c) _ _ _
    (λ b. (
      refl,
      record {
        space = n.space;
        letters = n.letters ++ c ∷ [];
        is_space = n.is_space;
        is_name = name_push n.letters c n.is_name b;
        blank = tt;
        text_is = grown m.text m.blanks (encode_utf8_all n.letters) (encode_utf8 c) n.text_is none
            ∙ sym (bytes_push n.letters c);
        renames = renames_push m (97 ∷ 115 ∷ (n.space ++ (n.letters ++ [])))
            (97 ∷ 115 ∷ (n.space ++ ((n.letters ++ c ∷ []) ++ []))) p c c n.renames refl
            (ap (λ t. 97 ∷ 115 ∷ t) (simp (append_assoc, append-nil)));
      },
    ))
    (λ _. if_good (is_blank c) _ _ _
    (λ b. (c ∷ [], name_blank m [] p c n b))
    (λ _. name_stops (record m { place = To }) c [] p n))

-- one more character behind the new name and a blank
from_after_to : (m : Machine) (c : ℕ) (p : List ℕ) → Front AfterTo m p
    → Good (step (record m { place = AfterTo }) c) (p ++ c ∷ [])
from_after_to m c p (behind, n) = if_good (is_blank c) _ _ _
    (λ b. (behind ++ c ∷ [], name_blank m behind p c n b))
    (λ _. name_stops (record m { place = AfterTo }) c behind p n)

-- one more character behind the outermost call
from_close : (m : Machine) (c : ℕ) (p : List ℕ) → Front Close m p
    → Good (step (record m { place = Close }) c) (p ++ c ∷ [])
from_close m c p (none, f) = if_good (is_blank c) _ _ _
    (λ b. (
      none,
      record {
        before = f.before;
        layout = f.layout;
        behind = f.behind ++ c ∷ [];
        blank = f.blank;
        allowed = f.allowed;
        blank_behind = blank_push f.behind c f.blank_behind b;
        says = f.says;
        is = ap (λ u. u ++ c ∷ []) f.is ∙ simp append_assoc;
      },
    ))
    (λ _. tt)

-- ---- whole runs

-- one more character at any place
forward : (q : Place) (m : Machine) (c : ℕ) (p : List ℕ) → Front q m p
    → Good (step (record m { place = q }) c) (p ++ c ∷ [])
forward Start m c p f = from_start m c p f
forward Name m c p f = from_name m c p f
forward AfterName m c p f = from_after_name m c p f
forward Open m c p f = from_open m c p f
forward Before m c p f = from_before m c p f
forward Bare m c p f = from_bare m c p f
forward Quote m c p f = from_quote m c p f
forward Escape m c p f = from_escape m c p f
forward AfterQuote m c p f = from_after_quote m c p f
forward AfterCall m c p f = from_after_call m c p f
forward CallGap m c p f = from_call_gap m c p f
forward As m c p f = from_as m c p f
forward AfterAs m c p f = from_after_as m c p f
forward BeforeTo m c p f = from_before_to m c p f
forward To m c p f = from_to m c p f
forward AfterTo m c p f = from_after_to m c p f
forward Close m c p f = from_close m c p f

-- many more characters
runs : (cs : List ℕ) (m : Machine) (p : List ℕ) → Front m.place m p → Good (go m cs) (p ++ cs)
runs [] m p f = subst (Front m.place m) (sym (append-nil p)) f
runs (c ∷ cs) m p f =
    elim (step m c) as (λ o. Good o (p ++ c ∷ [])
    → Good (option_and_then (λ n. go n cs) o) (p ++ c ∷ cs)) [
      | None ↦ λ _. tt
      | Some n ↦ λ g. subst (Good (go n cs)) (append_assoc p (c ∷ []) cs)
          (runs cs n (p ++ c ∷ []) g)
    ] (forward m.place m c p f)

-- what was read at a place
pub fronts : (cs : List ℕ) (m : Machine) → go start cs ≡ Some m → Front m.place m cs
fronts cs m h = subst (λ o. Good o cs) h (runs cs start [] ((refl, refl, refl), tt))

-- what was read to its end is laid out as an expression
pub sound : (cs : List ℕ) (m : Machine) → go start cs ≡ Some m → m.place ≡ Close
    → Whole m.inner cs
sound cs m h k =
    let front : Front Close m cs = subst (λ q. Front q m cs) k (fronts cs m h) in
    front.1
