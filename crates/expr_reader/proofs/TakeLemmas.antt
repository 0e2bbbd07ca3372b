-- Names, keys and words as they are laid out are taken.
use Rattle.std.proofs.Common.{◌≡◌, ℕ, List, [], ◌∷◌, ◌++◌, Bool, true, false, ◌||◌}
use Rattle.std.proofs.Common.{Option, Some, None, encode_utf8, encode_utf8_all, refl, ap, sym}
use Rattle.std.proofs.Common.{◌∙◌, subst, append_assoc, append-nil}
use Rattle.std.specs.Prelude.{◌==◌}
use Rattle.std.specs.Option.{option_and_then}
use Rattle.std.specs.List.{AllByRecursion}
use Rattle.std.proofs.lemmas.Bool.{false≢true}
use Rattle.expr_reader.specs.declared.machine.Place.{Place}
use Rattle.expr_reader.specs.Letters.{is_blank, is_name_letter}
use Rattle.expr_reader.specs.Letters.{is_special}
use Rattle.expr_reader.specs.Machine.{Machine, grow, close}
use Rattle.expr_reader.specs.Steps.{step, bare_step, stop}
use Rattle.expr_reader.specs.declared.open_calls.OpenCall.{OpenCall}
use Rattle.expr_reader.specs.declared.machine.Place.TheVariants.{Start}
use Rattle.expr_reader.specs.declared.machine.Place.TheVariants.{Before, Bare, Quote}
use Rattle.expr_reader.specs.declared.machine.Place.TheVariants.{AfterQuote}
use Rattle.expr_reader.specs.Word.{AreBlank, EndsPlain, IsBare, Inside}
use Rattle.expr_reader.specs.Word.{nothing_more, letter, escaped_quote, kept_backslash}
use Rattle.expr_reader.specs.Word.{inside_print, inside_text, IsInside, Writing, bare, quoted}
use Rattle.expr_reader.specs.Word.{writing_print, writing_text, is_quoted, IsWriting}
use Rattle.expr_reader.specs.Tree.{word_tree}

-- the machine after some characters
abbrev pub go : Machine → List ℕ → Option Machine
go m [] = Some m
go m (c ∷ cs) = option_and_then (λ n. go n cs) (step m c)

-- characters are taken one list after another
pub go_then : (m n : Machine) (xs ys : List ℕ) (r : Option Machine) → go m xs ≡ Some n → go n ys ≡ r
    → go m (xs ++ ys) ≡ r
go_then m n [] ys r h k = let e : m ≡ n = cc in subst (λ x. go x ys ≡ r) (sym e) k
go_then m n (x ∷ xs) ys r h k =
    elim (step m x) as (λ o. option_and_then (λ p. go p xs) o ≡ Some n
    → option_and_then (λ p. go p (xs ++ ys)) o ≡ r)
    [ None ↦ λ e. cc | Some p ↦ λ e. go_then p n xs ys r e k ] h

-- a place that stays as it is at one blank stays so at many
pub blanks_stay : (n : Machine) → ((c : ℕ) → is_blank c ≡ true → step n c ≡ Some n) → (ws : List ℕ)
    → AreBlank ws → go n ws ≡ Some n
blanks_stay n s [] h = refl
blanks_stay n s (w ∷ ws) h = rw (s w h.0) (blanks_stay n s ws h.1)

-- blanks before the name change nothing
pub at_start : (m : Machine) (ws : List ℕ) → AreBlank ws
    → go (record m { place = Start }) ws ≡ Some (record m { place = Start })
at_start m = blanks_stay (record m { place = Start }) (λ c e. rw e refl)

-- letters go on with a name where each of them goes on with the text
pub letters_grow : (q : Place)
    → ((n : Machine) (c : ℕ) → is_name_letter c ≡ true
    → step (record n { place = q }) c ≡ Some (grow (encode_utf8 c) (record n { place = q })))
    → (m : Machine) (cs : List ℕ) → AllByRecursion (λ c. is_name_letter c ≡ true) cs
    → go (record m { place = q; blanks = [] }) cs ≡ Some
    (record m { place = q; text = m.text ++ encode_utf8_all cs; blanks = [] })
letters_grow q s m [] h = rw (append-nil m.text) refl
letters_grow q s m (c ∷ cs) h =
    rw (s (record m { blanks = [] }) c h.0)
    (letters_grow q s (record m { text = (m.text ++ []) ++ encode_utf8 c }) cs h.1
    ∙ ap (λ t. Some (record m { place = q; text = t; blanks = [] }))
    (simp (append-nil, append_assoc)))

-- either part of an or that is false is false
pub or_false : (a b : Bool) → (a || b) ≡ false → (a ≡ false) × (b ≡ false)
or_false true b h = absurd (false≢true (sym h))
or_false false b h = (refl, h)

-- a character that isn't special is none of these
pub record Plain (c : ℕ) : Type 0 where
  pub comma : (c == 44) ≡ false
  pub bracket : (c == 40) ≡ false
  pub close : (c == 41) ≡ false
  pub equals : (c == 61) ≡ false
  pub quote : (c == 34) ≡ false

-- a character that is not special is none of the five
pub plain : (c : ℕ) → is_special c ≡ false → Plain c
plain c h =
    let a = or_false _ _ h in
    let b = or_false _ _ a.0 in
    let d = or_false _ _ b.0 in
    let e = or_false _ _ d.0 in
    record { comma = e.0; bracket = e.1; close = d.1; equals = b.1; quote = a.1 }

-- such a character goes on with bare text, with the blanks before it
pub bare_on : (m : Machine) (c : ℕ) → is_blank c ≡ false → is_special c ≡ false
    → bare_step m c ≡ Some (grow (encode_utf8 c) m)
bare_on m c nb ns = let p = plain c ns in
    rw (nb, p.comma, p.close, p.equals, p.bracket, p.quote) refl

-- a blank is kept aside
pub bare_blank : (m : Machine) (c : ℕ) → is_blank c ≡ true
    → bare_step m c ≡ Some (record m { blanks = m.blanks ++ encode_utf8 c })
bare_blank m c e = rw e refl

-- bare text that goes on to a character that is no blank
pub in_bare : (m : Machine) (cs : List ℕ) → AllByRecursion (λ c. is_special c ≡ false) cs
    → EndsPlain cs
    → go (record m { place = Bare }) cs ≡ Some
    (record m { place = Bare; text = (m.text ++ m.blanks) ++ encode_utf8_all cs; blanks = [] })
in_bare m [] h e = absurd e
in_bare m (c ∷ []) h e =
    rw (bare_on (record m { place = Bare }) c e h.0)
    (ap (λ t. Some (record m { place = Bare; text = (m.text ++ m.blanks) ++ t; blanks = [] }))
    (sym (append-nil (encode_utf8 c))))
in_bare m (c ∷ d ∷ cs) h e =
    elim (is_blank c) as (λ b. is_blank c ≡ b
    → go (record m { place = Bare }) (c ∷ d ∷ cs) ≡ Some
    (record m {
      place = Bare;
      text = (m.text ++ m.blanks) ++ encode_utf8_all
          (c ∷ d ∷ cs);
      blanks = [];
    })) [
      | true ↦ λ t. rw (bare_blank (record m { place = Bare }) c t)
          (in_bare (record m { blanks = m.blanks ++ encode_utf8 c }) (d ∷ cs) h.1 e
          ∙ ap (λ t. Some (record m { place = Bare; text = t; blanks = [] })) (simp append_assoc))
      | false ↦ λ f. rw (bare_on (record m { place = Bare }) c f h.0)
          (in_bare (record m { text = (m.text ++ m.blanks) ++ encode_utf8 c; blanks = [] })
          (d ∷ cs) h.1 e
          ∙ ap (λ t. Some (record m { place = Bare; text = t; blanks = [] }))
          (simp (append-nil, append_assoc)))
    ] refl

-- many blanks are kept aside
pub bare_blanks : (m : Machine) (ws : List ℕ) → AreBlank ws
    → go (record m { place = Bare }) ws ≡ Some
    (record m { place = Bare; blanks = m.blanks ++ encode_utf8_all ws })
bare_blanks m [] h = rw (append-nil m.blanks) refl
bare_blanks m (w ∷ ws) h = rw (bare_blank (record m { place = Bare }) w h.0)
    (bare_blanks (record m { blanks = m.blanks ++ encode_utf8 w }) ws h.1
    ∙ ap (λ t. Some (record m { place = Bare; blanks = t }))
    (append_assoc m.blanks (encode_utf8 w) (encode_utf8_all ws)))

-- what stands between quotes is read as its text
pub in_quote : (m : Machine) (i : Inside) → IsInside i
    → go (record m { place = Quote; blanks = [] }) (inside_print i)
    ≡ Some (record m { place = Quote; text = m.text ++ inside_text i; blanks = [] })
in_quote m nothing_more h = rw (append-nil m.text) refl
in_quote m (letter c more) h =
    rw (h.0, h.1) (in_quote (record m { text = (m.text ++ []) ++ encode_utf8 c }) more h.2
    ∙ ap (λ t. Some (record m { place = Quote; text = t; blanks = [] }))
    (simp (append-nil, append_assoc)))
in_quote m (escaped_quote more) h =
    in_quote (record m { text = (m.text ++ []) ++ 34 ∷ [] }) more h
    ∙ ap (λ t. Some (record m { place = Quote; text = t; blanks = [] }))
    (simp (append-nil, append_assoc))
in_quote m (kept_backslash c more) h =
    rw h.0 (in_quote (record m { text = (((m.text ++ []) ++ 92 ∷ []) ++ []) ++ encode_utf8 c })
    more h.1
    ∙ ap (λ t. Some (record m { place = Quote; text = t; blanks = [] }))
    (simp (append-nil, append_assoc)))

-- what ends an argument: a comma, or the closing parenthesis behind the last
abbrev pub stop_char : Bool → ℕ
stop_char true = 41
stop_char false = 44

-- where each of them leads
abbrev pub ends : Bool → Machine → Machine
ends true m = close m
ends false m = record m { place = Before }

-- they are taken
pub stop_taken : (last : Bool) (m : Machine) → stop m (stop_char last) ≡ Some (ends last m)
stop_taken true m = refl
stop_taken false m = refl

-- a character begins bare text
pub first_bare : (m : Machine) (c : ℕ) → is_blank c ≡ false → is_special c ≡ false
    → step (record m { place = Before }) c ≡ Some
    (record m { place = Bare; text = encode_utf8 c; blanks = [] })
first_bare m c nb ns = let p = plain c ns in
    rw (nb, p.quote, p.comma, p.bracket, p.close, p.equals) refl

-- bare text is read as its bytes
pub bare_text : (m : Machine) (cs : List ℕ) → IsBare cs
    → go (record m { place = Before }) cs ≡ Some
    (record m { place = Bare; text = encode_utf8_all cs; blanks = [] })
bare_text m [] h = absurd h.1
bare_text m (c ∷ []) h =
    rw (first_bare m c h.1 h.0.0)
    (ap (λ t. Some (record m { place = Bare; text = t; blanks = [] }))
    (sym (append-nil (encode_utf8 c))))
bare_text m (c ∷ d ∷ cs) h =
    rw (first_bare m c h.1 h.0.0)
    (in_bare (record m { text = encode_utf8 c; blanks = [] }) (d ∷ cs) h.0.1 h.2
    ∙ ap (λ t. Some (record m { place = Bare; text = t; blanks = [] })) (simp append-nil))

-- the machine takes characters, and then a comma or a parenthesis as behind an argument
pub record UpTo (m : Machine) (cs : List ℕ) (n : Machine) : Type 0 where
  pub at : Machine
  pub taken : go m cs ≡ Some at
  pub stops : (last : Bool) → step at (stop_char last) ≡ Some (ends last n)

-- more characters before
pub up_to_then : (m n r : Machine) (xs ys : List ℕ) → go m xs ≡ Some n → UpTo n ys r
    → UpTo m (xs ++ ys) r
up_to_then m n r xs ys h u = record {
  at = u.at;
  taken = go_then m n xs ys (Some u.at) h u.taken;
  stops = u.stops;
}

-- a word with blanks behind it is read up to its end
pub word_read : (o : OpenCall) (outer : List OpenCall) (m : Machine) (w : Writing) (ws : List ℕ)
    → IsWriting w → AreBlank ws
    → UpTo (record m { place = Before; outer = o ∷ outer }) (writing_print w ++ ws)
    (record m {
      place = Before;
      args = m.args ++ word_tree m.key (writing_text w) (is_quoted w) ∷ [];
      key = None;
      text = [];
      blanks = [];
      outer = o ∷ outer;
    })
word_read o outer m (bare cs) ws h k = record {
  at = record m {
    place = Bare;
    text = encode_utf8_all cs;
    blanks = encode_utf8_all ws;
    outer = o ∷ outer;
  };
  taken = go_then (record m { place = Before; outer = o ∷ outer }) _ cs ws _
      (bare_text (record m { outer = o ∷ outer }) cs h)
      (bare_blanks (record m { text = encode_utf8_all cs; blanks = []; outer = o ∷ outer }) ws k);
  stops = elim [ true ↦ refl | false ↦ refl ];
}
word_read o outer m (quoted i) ws h k = record {
  at = record m {
    place = AfterQuote;
    text = inside_text i;
    blanks = [];
    outer = o ∷ outer;
  };
  taken = subst (λ t. go (record m { place = Before; outer = o ∷ outer }) (34 ∷ t) ≡ Some
      (record m { place = AfterQuote; text = inside_text i; blanks = []; outer = o ∷ outer }))
      (sym (append_assoc (inside_print i) (34 ∷ []) ws))
      (go_then (record m { place = Quote; text = []; blanks = []; outer = o ∷ outer }) _
      (inside_print i) (34 ∷ ws) _ (in_quote (record m { text = []; outer = o ∷ outer }) i h)
      (blanks_stay (record m
      { place = AfterQuote; text = inside_text i; blanks = []; outer = o ∷ outer })
      (λ c e. rw e refl) ws k));
  stops = elim [ true ↦ refl | false ↦ refl ];
}
