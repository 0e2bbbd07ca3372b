-- What is laid out as an expression is read.
use Rattle.std.proofs.Common.{◌≡◌, ℕ, List, [], ◌∷◌, ◌++◌, Bool, true, false, ◌+◌, max, length}
use Rattle.std.proofs.Common.{Option, Some, None, encode_utf8, encode_utf8_all, refl, ap, sym}
use Rattle.std.proofs.Common.{◌∙◌, subst, append_assoc, append-nil, arith}
use Rattle.std.specs.Prelude.{◌==◌}
use Rattle.std.specs.List.{AllByRecursion, list_all}
use Rattle.std.proofs.lemmas.Str.{encode_ascii}
use Rattle.expr_reader.specs.Letters.{is_blank, is_name_letter, is_key_letter}
use Rattle.expr_reader.specs.Letters.{is_special, is_name}
use Rattle.expr_reader.specs.Machine.{Machine, start, close, open_call}
use Rattle.expr_reader.specs.Steps.{step}
use Rattle.expr_reader.specs.declared.machine.Place.TheVariants.{Name, AfterName, Open}
use Rattle.expr_reader.specs.declared.machine.Place.TheVariants.{Before, Bare, AfterCall, CallGap}
use Rattle.expr_reader.specs.declared.machine.Place.TheVariants.{AfterAs, BeforeTo, To}
use Rattle.expr_reader.specs.declared.machine.Place.TheVariants.{AfterTo, Close}
use Rattle.expr_reader.specs.declared.open_calls.OpenCall.{OpenCall}
use Rattle.expr_reader.specs.Layout.{KeyLayout, key_print, key_text, IsKeyLayout}
use Rattle.expr_reader.specs.Layout.{CallLayout, call_laid, ArgLayout, word_laid, sub_laid}
use Rattle.expr_reader.specs.Layout.{renamed_laid, ArgsLayout, none_laid, arg_laid}
use Rattle.expr_reader.specs.Layout.{call_print, arg_print, args_print, more_print}
use Rattle.expr_reader.specs.Layout.{call_says, arg_says, args_say, IsCall, IsArg, AreArgs}
use Rattle.expr_reader.specs.Word.{AreBlank, IsGap, IsName, IsKey, EndsPlain, IsBare}
use Rattle.expr_reader.specs.Word.{inside_print, Writing, bare, quoted}
use Rattle.expr_reader.specs.Word.{writing_print, writing_text, is_quoted, IsWriting}
use Rattle.expr_reader.specs.Tree.{CallTree, call, ArgTree, renamed, trees_of, word_tree}
use Rattle.expr_reader.specs.Tree.{call_arg_tree, levels, args_levels, calls, arg_calls, args_calls, ArgTrees}
use Rattle.expr_reader.proofs.CountLemmas.{arg_reach, args_reach, reach_levels, word_calls}
use Rattle.expr_reader.proofs.CountLemmas.{word_reach, call_calls, call_reach}
use Rattle.expr_reader.proofs.LettersLemmas.{key_letter, name_key, begins_letter}
use Rattle.expr_reader.proofs.LettersLemmas.{blank_not_name, name_not_blank}
use Rattle.expr_reader.proofs.TakeLemmas.{go, go_then, blanks_stay, at_start, letters_grow}
use Rattle.expr_reader.proofs.TakeLemmas.{plain, bare_blanks, bare_text, ends, stop_char}
use Rattle.expr_reader.proofs.TakeLemmas.{UpTo, up_to_then, word_read}

-- ---- keys

-- a key is ASCII
key_bytes : (cs : List ℕ) → AllByRecursion (λ c. is_key_letter c ≡ true) cs
    → (encode_utf8_all cs ≡ cs) × (list_all is_key_letter cs ≡ true)
key_bytes [] h = (refl, refl)
key_bytes (c ∷ cs) h = let r = key_bytes cs h.1 in
    (rw (encode_ascii c (key_letter c h.0).2) (ap (λ t. c ∷ t) r.0), rw (h.0, r.1) refl)

-- no letter of a key is special
key_plain : (cs : List ℕ) → AllByRecursion (λ c. is_key_letter c ≡ true) cs
    → AllByRecursion (λ c. is_special c ≡ false) cs
key_plain [] h = tt
key_plain (c ∷ cs) h = ((key_letter c h.0).0, key_plain cs h.1)

-- a key ends with no blank
key_ends : (c : ℕ) (cs : List ℕ) → AllByRecursion (λ d. is_key_letter d ≡ true) (c ∷ cs)
    → EndsPlain (c ∷ cs)
key_ends c [] h = (key_letter c h.0).1
key_ends c (d ∷ cs) h = key_ends d cs h.1

-- a key is bare text
key_bare : (cs : List ℕ) → IsKey cs → IsBare cs
key_bare [] h = absurd h
key_bare (c ∷ cs) h = (key_plain (c ∷ cs) h, (key_letter c h.0).1, key_ends c cs h)

-- an equals sign behind a key and blanks makes it the key
equals : (m : Machine) (ws : List ℕ) → AreBlank ws → list_all is_key_letter m.text ≡ true
    → go (record m { place = Bare; key = None }) (ws ++ 61 ∷ []) ≡ Some
    (record m { place = Before; key = Some m.text; text = []; blanks = [] })
equals m ws h k = go_then (record m { place = Bare; key = None }) _ ws (61 ∷ []) _
    (bare_blanks (record m { key = None }) ws h) (rw k refl)

-- all letters of a key are key letters
key_all : (cs : List ℕ) → IsKey cs → AllByRecursion (λ c. is_key_letter c ≡ true) cs
key_all [] h = absurd h
key_all (c ∷ cs) h = h

-- a key with its sign is read
key_read : (m : Machine) (k : KeyLayout) → IsKeyLayout (Some k)
    → go (record m { place = Before; key = None }) (key_print (Some k)) ≡ Some
    (record m { place = Before; key = Some (encode_utf8_all k.key); text = []; blanks = [] })
key_read m k h =
    let b = key_bytes k.key (key_all k.key h.1) in
    let is_key : list_all is_key_letter (encode_utf8_all k.key) ≡ true =
    ap (list_all is_key_letter) b.0 ∙ b.1 in
    go_then (record m { place = Before; key = None }) _ k.before (k.key ++ (k.behind ++ 61 ∷ [])) _
    (blanks_stay (record m { place = Before; key = None }) (λ c e. rw e refl) k.before h.0)
    (go_then (record m { place = Before; key = None }) _ k.key (k.behind ++ 61 ∷ []) _
    (bare_text (record m { key = None }) k.key (key_bare k.key h.1))
    (equals (record m { text = encode_utf8_all k.key; blanks = [] }) k.behind h.2 is_key))

-- blanks before a word or call change nothing
before_stays : (m : Machine) (ws : List ℕ) → AreBlank ws
    → go (record m { place = Before }) ws ≡ Some (record m { place = Before })
before_stays m = blanks_stay (record m { place = Before }) (λ c e. rw e refl)

-- ---- names

-- name letters are key letters
names_keys : (cs : List ℕ) → AllByRecursion (λ c. is_name_letter c ≡ true) cs
    → AllByRecursion (λ c. is_key_letter c ≡ true) cs
names_keys [] h = tt
names_keys (c ∷ cs) h = (name_key c h.0, names_keys cs h.1)

-- a name could be a key
name_is_key : (cs : List ℕ) → IsName cs → IsKey cs
name_is_key [] h = absurd h
name_is_key (c ∷ cs) h = (name_key c (begins_letter c h.0), names_keys cs h.1)

-- the test of all letters
all_letters : (cs : List ℕ) → AllByRecursion (λ c. is_name_letter c ≡ true) cs
    → list_all is_name_letter cs ≡ true
all_letters [] h = refl
all_letters (c ∷ cs) h = rw (h.0, all_letters cs h.1) refl

-- the test for a name
name_test : (cs : List ℕ) → IsName cs → is_name cs ≡ true
name_test [] h = absurd h
name_test (c ∷ cs) h = rw (h.0, all_letters cs h.1) refl

-- its bytes are a name
name_bytes : (cs : List ℕ) → IsName cs → is_name (encode_utf8_all cs) ≡ true
name_bytes cs h =
    ap is_name (key_bytes cs (key_all cs (name_is_key cs h))).0 ∙ name_test cs h

-- a parenthesis behind a name and blanks opens a call
opens : (m : Machine) (ws : List ℕ) → AreBlank ws → is_name m.text ≡ true
    → go (record m { place = Bare }) (ws ++ 40 ∷ []) ≡ Some (open_call m)
opens m ws h k = go_then (record m { place = Bare }) _ ws (40 ∷ []) _
    (bare_blanks m ws h) (rw k refl)

-- ---- from an opening parenthesis

-- Right behind the opening parenthesis a word begins as before any other.
record BeginsWord (cs : List ℕ) : Type 0 where
  blanks : List ℕ
  first : ℕ
  rest : List ℕ
  are : AreBlank blanks
  no_blank : is_blank first ≡ false
  no_close : (first == 41) ≡ false
  is : cs ≡ blanks ++ first ∷ rest

-- so the machine goes on alike from both places
open_as_before : (m : Machine) (ws : List ℕ) (c : ℕ) (rest : List ℕ) → AreBlank ws
    → is_blank c ≡ false → (c == 41) ≡ false
    → go (record m { place = Open }) (ws ++ c ∷ rest) ≡ go (record m { place = Before })
    (ws ++ c ∷ rest)
open_as_before m [] c rest h nb nc = rw (nb, nc) refl
open_as_before m (w ∷ ws) c rest h nb nc = rw h.0 (open_as_before m ws c rest h.1 nb nc)

-- what begins with a word is taken alike from both places
begins_go : (m : Machine) (cs : List ℕ) → BeginsWord cs
    → go (record m { place = Open }) cs ≡ go (record m { place = Before }) cs
begins_go m cs b = subst
    (λ t. go (record m { place = Open }) t ≡ go (record m { place = Before }) t) (sym b.is)
    (open_as_before m b.blanks b.first b.rest b.are b.no_blank b.no_close)

-- bare text begins with no blank and no parenthesis
bare_begins : (before cs rest : List ℕ) → AreBlank before → IsBare cs
    → BeginsWord (before ++ (cs ++ rest))
bare_begins before [] rest b h = absurd h.1
bare_begins before (c ∷ cs) rest b h = record {
  blanks = before;
  first = c;
  rest = cs ++ rest;
  are = b;
  no_blank = h.1;
  no_close = (plain c h.0.0).close;
  is = refl;
}

-- so does a word
word_begins : (before : List ℕ) (w : Writing) (rest : List ℕ) → AreBlank before → IsWriting w
    → BeginsWord (before ++ (writing_print w ++ rest))
word_begins before (bare cs) rest b h = bare_begins before cs rest b h
word_begins before (quoted i) rest b h = record {
  blanks = before;
  first = 34;
  rest = (inside_print i ++ 34 ∷ []) ++ rest;
  are = b;
  no_blank = refl;
  no_close = refl;
  is = refl;
}

-- so does a call
call_begins : (before : List ℕ) (c : CallLayout) (rest : List ℕ) → AreBlank before → IsCall c
    → BeginsWord (before ++ (call_print c ++ rest))
call_begins before (call_laid name gap space args) rest b h =
    subst (λ t. BeginsWord (before ++ t))
    (sym (append_assoc name (gap ++ 40 ∷ (space ++ args_print args)) rest))
    (bare_begins before name ((gap ++ 40 ∷ (space ++ args_print args)) ++ rest) b
    (key_bare name (name_is_key name h.0)))

-- so does what stands behind a key, or the key
key_begins : (key : Option KeyLayout) (rest : List ℕ) → IsKeyLayout key → BeginsWord rest
    → BeginsWord (key_print key ++ rest)
key_begins None rest h b = b
key_begins (Some k) rest h b =
    subst BeginsWord (sym (append_assoc k.before (k.key ++ (k.behind ++ 61 ∷ [])) rest
    ∙ ap (λ t. k.before ++ t) (append_assoc k.key (k.behind ++ 61 ∷ []) rest)))
    (bare_begins k.before k.key ((k.behind ++ 61 ∷ []) ++ rest) h.0 (key_bare k.key h.1))

-- so does an argument
arg_begins : (a : ArgLayout) (rest : List ℕ) → IsArg a → BeginsWord (arg_print a ++ rest)
arg_begins (word_laid key before w behind) rest h =
    let e : key_print key ++ (before ++ (writing_print w ++ (behind ++ rest))) ≡ arg_print
    (word_laid key before w behind) ++ rest = simp append_assoc in
    subst BeginsWord e
    (key_begins key _ h.0 (word_begins before w (behind ++ rest) h.1 h.2))
arg_begins (sub_laid key before c behind) rest h =
    let e : key_print key ++ (before ++ (call_print c ++ (behind ++ rest))) ≡ arg_print
    (sub_laid key before c behind) ++ rest = simp append_assoc in
    subst BeginsWord e
    (key_begins key _ h.0 (call_begins before c (behind ++ rest) h.1 h.2))
arg_begins (renamed_laid before c gap space to behind) rest h =
    let tail = gap ++ 97 ∷ 115 ∷ (space ++ (to ++ behind)) in
    let e : before ++ (call_print c ++ (tail ++ rest)) ≡ arg_print
    (renamed_laid before c gap space to behind) ++ rest = simp append_assoc in
    subst BeginsWord e (call_begins before c (tail ++ rest) h.0 h.1)

-- ---- calls and arguments

-- two machines that differ in their counts alone
counted : (m : Machine) (b c d e : ℕ) → b ≡ c → d ≡ e
    → record m { begun = b; deepest = d } ≡ record m { begun = c; deepest = e }
counted m b c d e p q = λ i. record m { begun = p i; deepest = q i }

-- the machine that has read a call in the calls that are open
abbrev pub with_call : OpenCall → List OpenCall → CallTree → Machine → Machine
with_call o outer c m = record m {
  place = AfterCall;
  text = [];
  blanks = [];
  inner = Some c;
  outer = o ∷ outer;
  begun = m.begun + calls c;
  deepest = max m.deepest (length (o ∷ outer) + levels c);
}

-- the machine that has read an argument
abbrev pub with_arg : OpenCall → List OpenCall → ArgTree → Machine → Machine
with_arg o outer a m = record m {
  place = Before;
  args = m.args ++ a ∷ [];
  key = None;
  text = [];
  blanks = [];
  inner = None;
  outer = o ∷ outer;
  begun = m.begun + arg_calls a;
  deepest = max m.deepest (arg_reach (length (o ∷ outer)) a);
}

-- the machine that has read some
abbrev pub with_args : OpenCall → List OpenCall → List ArgTree → Machine → Machine
with_args o outer args m = record m {
  place = Before;
  args = m.args ++ args;
  key = None;
  text = [];
  blanks = [];
  inner = None;
  outer = o ∷ outer;
  begun = m.begun + args_calls (trees_of args);
  deepest = max m.deepest (args_reach (length (o ∷ outer)) (trees_of args));
}

-- the machine before an argument
abbrev ready : OpenCall → List OpenCall → Machine → Machine
ready o outer m =
    record m { place = Before; key = None; inner = None; outer = o ∷ outer }

-- what has read one argument and then some has read them all
with_more : (o : OpenCall) (outer : List OpenCall) (a : ArgTree) (args : List ArgTree) (m : Machine)
    → with_args o outer args (with_arg o outer a m) ≡ with_args o outer (a ∷ args) m
with_more o outer a args m =
    let k = length (o ∷ outer) in
    ap (λ x. record (with_args o outer args (with_arg o outer a m)) { args = x })
    (append_assoc m.args (a ∷ []) args)
    ∙ counted (with_args o outer (a ∷ args) m) _ _ _ _
    (omega arith) (omega arith)

-- a word is read up to its end
word_up_to : (o : OpenCall) (outer : List OpenCall) (m : Machine) (key : Option KeyLayout)
    (before : List ℕ) (w : Writing) (behind : List ℕ) → IsKeyLayout key → AreBlank before
    → IsWriting w → AreBlank behind
    → UpTo (ready o outer m) (key_print key ++ (before ++ (writing_print w ++ behind)))
    (with_arg o outer (word_tree (key_text key) (writing_text w) (is_quoted w)) m)
word_up_to o outer m key before w behind hk hb hw hh =
    subst (UpTo (ready o outer m) (key_print key ++ (before ++ (writing_print w ++ behind))))
    (counted (with_arg o outer (word_tree (key_text key) (writing_text w) (is_quoted w)) m)
    m.begun _ m.deepest _
    (omega (arith, word_calls (key_text key) (writing_text w) (is_quoted w)))
    (omega (
      arith,
      word_reach (length (o ∷ outer)) (key_text key) (writing_text w)
          (is_quoted w),
    ))) (by key hk)
  where
    by : (key : Option KeyLayout) → IsKeyLayout key
        → UpTo (ready o outer m) (key_print key ++ (before ++ (writing_print w ++ behind)))
        (record m {
          place = Before;
          args = m.args ++ word_tree (key_text key) (writing_text w) (is_quoted w) ∷ [];
          key = None;
          text = [];
          blanks = [];
          inner = None;
          outer = o ∷ outer;
        })
    by None hk = up_to_then (ready o outer m) _ _ before (writing_print w ++ behind)
        (before_stays (record m { key = None; inner = None; outer = o ∷ outer }) before hb)
        (word_read o outer (record m { key = None; inner = None }) w behind hw hh)
    by (Some k) hk =
        let n = record m { key = Some (encode_utf8_all k.key); text = []; blanks = []; inner = None } in
        up_to_then (ready o outer m) _ _ (key_print (Some k))
        (before ++ (writing_print w ++ behind))
        (key_read (record m { inner = None; outer = o ∷ outer }) k hk)
        (up_to_then (record n { place = Before; outer = o ∷ outer }) _ _ before
        (writing_print w ++ behind) (before_stays (record n { outer = o ∷ outer }) before hb)
        (word_read o outer n w behind hw hh))

-- blanks behind a call
call_gap : (m : Machine) (ws : List ℕ) → IsGap ws
    → go (record m { place = AfterCall }) ws ≡ Some (record m { place = CallGap })
call_gap m [] h = absurd h
call_gap m (w ∷ ws) h =
    rw h.0 (blanks_stay (record m { place = CallGap }) (λ c e. rw e refl) ws h.1)

-- a call that has been read is an argument behind blanks
call_up_to : (o : OpenCall) (outer : List OpenCall) (m : Machine) (said : Option (List ℕ))
    (c : CallTree) (ws : List ℕ) → AreBlank ws
    → UpTo (with_call o outer c (record m { key = said })) ws
    (with_arg o outer (call_arg_tree said c) m)
call_up_to o outer m said c ws h =
    subst (UpTo (with_call o outer c (record m { key = said })) ws)
    (counted (with_arg o outer (call_arg_tree said c) m)
    (m.begun + calls c) _ (max m.deepest (length (o ∷ outer) + levels c)) _
    (omega (arith, call_calls said c))
    (omega (arith, call_reach (length (o ∷ outer)) said c))) (by ws h)
  where
    by : (ws : List ℕ) → AreBlank ws
        → UpTo (with_call o outer c (record m { key = said })) ws
        (record (with_arg o outer (call_arg_tree said c) m) {
          begun = m.begun + calls c;
          deepest = max m.deepest (length (o ∷ outer) + levels c);
        })
    by [] h = record {
      at = with_call o outer c (record m { key = said });
      taken = refl;
      stops = elim [ true ↦ refl | false ↦ refl ];
    }
    by (w ∷ ws) h = record {
      at = record (with_call o outer c (record m { key = said })) { place = CallGap };
      taken = call_gap (with_call o outer c (record m { key = said })) (w ∷ ws) h;
      stops = elim [ true ↦ refl | false ↦ refl ];
    }

-- blanks behind `as`
as_gap : (m : Machine) (ws : List ℕ) → IsGap ws
    → go (record m { place = AfterAs }) ws ≡ Some (record m { place = BeforeTo })
as_gap m [] h = absurd h
as_gap m (w ∷ ws) h =
    rw h.0 (blanks_stay (record m { place = BeforeTo }) (λ c e. rw e refl) ws h.1)

-- a new name
to_read : (m : Machine) (cs : List ℕ) → IsName cs
    → go (record m { place = BeforeTo }) cs ≡ Some
    (record m { place = To; text = encode_utf8_all cs; blanks = [] })
to_read m [] h = absurd h
to_read m (c ∷ cs) h =
    rw (name_not_blank c h.0, h.0)
    (letters_grow To (λ n d e. rw e refl) (record m { text = encode_utf8 c }) cs h.1)

-- a call that has been read is an argument behind its new name
renamed_up_to : (o : OpenCall) (outer : List OpenCall) (m : Machine) (c : CallTree)
    (gap space to behind : List ℕ) → IsGap gap → IsGap space → IsName to → AreBlank behind
    → UpTo (with_call o outer c (record m { key = None }))
    (gap ++ 97 ∷ 115 ∷ (space ++ (to ++ behind)))
    (with_arg o outer (renamed c (encode_utf8_all to)) m)
renamed_up_to o outer m c gap space to behind hg hs ht hb =
    let n = with_call o outer c (record m { key = None }) in
    up_to_then n (record n { place = CallGap }) _ gap (97 ∷ 115 ∷ (space ++ (to ++ behind)))
    (call_gap n gap hg)
    (up_to_then (record n { place = CallGap }) (record n { place = AfterAs }) _
    (97 ∷ 115 ∷ []) (space ++ (to ++ behind)) refl
    (up_to_then (record n { place = AfterAs }) (record n { place = BeforeTo }) _ space
    (to ++ behind) (as_gap n space hs)
    (up_to_then (record n { place = BeforeTo })
    (record n { place = To; text = encode_utf8_all to; blanks = [] }) _ to behind
    (to_read n to ht) (by behind hb))))
  where
    by : (ws : List ℕ) → AreBlank ws
        → UpTo (record (with_call o outer c (record m { key = None })) {
          place = To;
          text = encode_utf8_all to;
          blanks = [];
        }) ws (with_arg o outer (renamed c (encode_utf8_all to)) m)
    by [] h = record {
      at = record (with_call o outer c (record m { key = None }))
          { place = To; text = encode_utf8_all to; blanks = [] };
      taken = refl;
      stops = elim [ true ↦ refl | false ↦ refl ];
    }
    by (w ∷ ws) h = record {
      at = record (with_call o outer c (record m { key = None }))
          { place = AfterTo; text = encode_utf8_all to; blanks = [] };
      taken = rw (blank_not_name w h.0, h.0)
          (blanks_stay (record (with_call o outer c (record m { key = None }))
          { place = AfterTo; text = encode_utf8_all to; blanks = [] }) (λ d e. rw e refl) ws h.1);
      stops = elim [ true ↦ refl | false ↦ refl ];
    }

-- a call opens
opened : (o : OpenCall) (outer : List OpenCall) (m : Machine) (name gap space : List ℕ)
    → IsName name → AreBlank gap → AreBlank space
    → go (record m { place = Before; inner = None; outer = o ∷ outer })
    (name ++ ((gap ++ 40 ∷ []) ++ space)) ≡ Some
    (open_call (record m
    { text = encode_utf8_all name; blanks = []; inner = None; outer = o ∷ outer }))
opened o outer m name gap space hn hg hs =
    let n = record m { inner = None; outer = o ∷ outer } in
    let t = record n { text = encode_utf8_all name; blanks = [] } in
    go_then (record n { place = Before }) (record t { place = Bare }) name
    ((gap ++ 40 ∷ []) ++ space) _ (bare_text n name (key_bare name (name_is_key name hn)))
    (go_then (record t { place = Bare }) (open_call t) (gap ++ 40 ∷ []) space _
    (opens t gap hg (name_bytes name hn))
    (blanks_stay (open_call t) (λ c e. rw e refl) space hs))

-- the machine in a call that has just opened
abbrev fresh : OpenCall → List OpenCall → Machine → Machine
fresh o outer m = record m {
  place = Open;
  args = [];
  key = None;
  text = [];
  blanks = [];
  inner = None;
  outer = o ∷ outer;
}

-- it has read all arguments of a call, which closes
abbrev closes_with : OpenCall → List OpenCall → List ArgTree → Machine → Machine
closes_with o outer args m = close (with_args o outer args (record m { args = [] }))

-- the machine behind an argument
abbrev after : OpenCall → List OpenCall → Machine → Machine
after o outer m = record m {
  place = Before;
  key = None;
  text = [];
  blanks = [];
  inner = None;
  outer = o ∷ outer;
}

-- no argument more
none_read : (o : OpenCall) (outer : List OpenCall) (m : Machine)
    → after o outer m ≡ with_args o outer [] m
none_read o outer m =
    ap (λ x. record (after o outer m) { args = x }) (sym (append-nil m.args))
    ∙ counted (record (after o outer m) { args = m.args ++ [] }) m.begun (m.begun + 0)
    m.deepest (max m.deepest 0) (omega arith) (omega arith)

-- a call is an argument, under a key or by itself, where the call is read
sub_up_to : (o : OpenCall) (outer : List OpenCall) (m : Machine) (key : Option KeyLayout)
    (before : List ℕ) (c : CallLayout) (behind : List ℕ) → IsKeyLayout key → AreBlank before
    → AreBlank behind
    → ((n : Machine) → go (record n { place = Before; inner = None; outer = o ∷ outer })
    (call_print c) ≡ Some (with_call o outer (call_says c) n))
    → UpTo (ready o outer m) (key_print key ++ (before ++ (call_print c ++ behind)))
    (with_arg o outer (call_arg_tree (key_text key) (call_says c)) m)
sub_up_to o outer m None before c behind hk hb hh reads =
    let n = record m { key = None } in
    up_to_then (ready o outer m) (ready o outer m) _ before (call_print c ++ behind)
    (before_stays (record n { inner = None; outer = o ∷ outer }) before hb)
    (up_to_then (ready o outer m) (with_call o outer (call_says c) n) _ (call_print c) behind
    (reads n) (call_up_to o outer m None (call_says c) behind hh))
sub_up_to o outer m (Some k) before c behind hk hb hh reads =
    let said : Option (List ℕ) = Some (encode_utf8_all k.key) in
    let n = record m { key = said; text = []; blanks = []; inner = None; outer = o ∷ outer } in
    up_to_then (ready o outer m) (record n { place = Before }) _ (key_print (Some k))
    (before ++ (call_print c ++ behind))
    (key_read (record m { inner = None; outer = o ∷ outer }) k hk)
    (up_to_then (record n { place = Before }) (record n { place = Before }) _ before
    (call_print c ++ behind) (before_stays n before hb)
    (up_to_then (record n { place = Before }) (with_call o outer (call_says c) n) _ (call_print c)
    behind (reads n) (call_up_to o outer m said (call_says c) behind hh)))

-- a call is an argument under a new name, where the call is read
renames_up_to : (o : OpenCall) (outer : List OpenCall) (m : Machine) (before : List ℕ)
    (c : CallLayout) (gap space to behind : List ℕ) → AreBlank before → IsGap gap → IsGap space
    → IsName to → AreBlank behind
    → ((n : Machine) → go (record n { place = Before; inner = None; outer = o ∷ outer })
    (call_print c) ≡ Some (with_call o outer (call_says c) n))
    → UpTo (ready o outer m)
    (before ++ (call_print c ++ (gap ++ 97 ∷ 115 ∷ (space ++ (to ++ behind)))))
    (with_arg o outer (renamed (call_says c) (encode_utf8_all to)) m)
renames_up_to o outer m before c gap space to behind hb hg hs ht hh reads =
    let n = record m { key = None } in
    let tail = gap ++ 97 ∷ 115 ∷ (space ++ (to ++ behind)) in
    up_to_then (ready o outer m) (ready o outer m) _ before (call_print c ++ tail)
    (before_stays (record n { inner = None; outer = o ∷ outer }) before hb)
    (up_to_then (ready o outer m) (with_call o outer (call_says c) n) _ (call_print c) tail
    (reads n) (renamed_up_to o outer m (call_says c) gap space to behind hg hs ht hh))

-- an argument with those behind it, where each is read
first_read : (o : OpenCall) (outer : List OpenCall) (n m : Machine) (a : ArgLayout)
    (more : ArgsLayout) → UpTo n (arg_print a) (with_arg o outer (arg_says a) m)
    → ((r : Machine) → ((last : Bool) → step r (stop_char last) ≡ Some
    (ends last (after o outer (with_arg o outer (arg_says a) m))))
    → go r (more_print more) ≡ Some
    (close (with_args o outer (args_say more) (with_arg o outer (arg_says a) m))))
    → go n (arg_print a ++ more_print more) ≡ Some
    (close (with_args o outer (arg_says a ∷ args_say more) m))
first_read o outer n m a more u reads =
    go_then n u.at (arg_print a) (more_print more) _ u.taken (reads u.at u.stops)
    ∙ ap (λ x. Some (close x)) (with_more o outer (arg_says a) (args_say more) m)

-- the level that a call reaches is that of its arguments, or its own
whole_reach : (d k j : ℕ) (args : ArgTrees) → j ≡ k + 1
    → max (max d (k + 1)) (args_reach j args) ≡ max d (k + (args_levels args + 1))
whole_reach d k j args e = omega (arith, e, reach_levels j args)

-- a call that opens in calls and has read its arguments is read
call_whole : (o : OpenCall) (outer : List OpenCall) (m : Machine) (name : List ℕ)
    (args : List ArgTree)
    → close (with_args (record { name = m.name; args = m.args; key = m.key }) (o ∷ outer) args
    (record m {
      name = name;
      args = [];
      begun = m.begun + 1;
      deepest = max m.deepest (length (o ∷ outer) + 1);
    })) ≡ with_call o outer (call name (trees_of args)) m
call_whole o outer m name args =
    let p : OpenCall = record { name = m.name; args = m.args; key = m.key } in
    counted (with_call o outer (call name (trees_of args)) m) _ _ _ _
    (omega arith)
    (whole_reach m.deepest (length (o ∷ outer)) (length (p ∷ o ∷ outer)) (trees_of args)
    (omega arith))

mutual
  -- a call in a call is read
  call_read : (o : OpenCall) (outer : List OpenCall) (m : Machine) (c : CallLayout) → IsCall c
      → go (record m { place = Before; inner = None; outer = o ∷ outer }) (call_print c) ≡ Some
      (with_call o outer (call_says c) m)
  call_read o outer m (call_laid name gap space args) h =
      let p : OpenCall = record { name = m.name; args = m.args; key = m.key } in
      let n = record m {
        name = encode_utf8_all name;
        begun = m.begun + 1;
        deepest = max m.deepest (length (o ∷ outer) + 1);
      } in
      let e : (name ++ ((gap ++ 40 ∷ []) ++ space)) ++ args_print args ≡ name ++
      (gap ++ 40 ∷ (space ++ args_print args)) = simp append_assoc in
      subst (λ t. go (record m { place = Before; inner = None; outer = o ∷ outer }) t ≡ Some
      (with_call o outer (call (encode_utf8_all name) (trees_of (args_say args))) m)) e
      (go_then (record m { place = Before; inner = None; outer = o ∷ outer })
      (fresh p (o ∷ outer) n) (name ++ ((gap ++ 40 ∷ []) ++ space)) (args_print args) _
      (opened o outer m name gap space h.0 h.1 h.2) (args_read p (o ∷ outer) n args h.3)
      ∙ ap (λ x. Some x) (call_whole o outer m (encode_utf8_all name) (args_say args)))

  -- an argument is read up to its end
  arg_read : (o : OpenCall) (outer : List OpenCall) (m : Machine) (a : ArgLayout) → IsArg a
      → UpTo (ready o outer m) (arg_print a) (with_arg o outer (arg_says a) m)
  arg_read o outer m (word_laid key before w behind) h =
      word_up_to o outer m key before w behind h.0 h.1 h.2 h.3
  arg_read o outer m (sub_laid key before c behind) h =
      sub_up_to o outer m key before c behind h.0 h.1 h.3 (λ n. call_read o outer n c h.2)
  arg_read o outer m (renamed_laid before c gap space to behind) h =
      renames_up_to o outer m before c gap space to behind h.0 h.2 h.3 h.4 h.5
      (λ n. call_read o outer n c h.1)

  -- all arguments are read
  args_read : (o : OpenCall) (outer : List OpenCall) (m : Machine) (args : ArgsLayout)
      → AreArgs args
      → go (fresh o outer m) (args_print args) ≡ Some (closes_with o outer (args_say args) m)
  args_read o outer m none_laid h =
      ap (λ (n : Machine). Some (close n)) (none_read o outer (record m { args = [] }))
  args_read o outer m (arg_laid a more) h =
      let n = record m { args = []; text = []; blanks = [] } in
      begins_go (fresh o outer m) (arg_print a ++ more_print more)
      (arg_begins a (more_print more) h.0)
      ∙ first_read o outer (ready o outer n) n a more (arg_read o outer n a h.0)
      (λ r s. more_read o outer r (with_arg o outer (arg_says a) n) more h.1 s)

  -- the arguments behind one are
  more_read : (o : OpenCall) (outer : List OpenCall) (n m : Machine) (more : ArgsLayout)
      → AreArgs more
      → ((last : Bool) → step n (stop_char last) ≡ Some (ends last (after o outer m)))
      → go n (more_print more) ≡ Some (close (with_args o outer (args_say more) m))
  more_read o outer n m none_laid h s =
      let closes : step n 41 ≡ Some (close (after o outer m)) = s true in
      rw closes (ap (λ (x : Machine). Some (close x)) (none_read o outer m))
  more_read o outer n m (arg_laid a more) h s =
      let r = record m { text = []; blanks = [] } in
      let goes : step n 44 ≡ Some (ready o outer r) = s false in
      rw goes (first_read o outer (ready o outer r) r a more (arg_read o outer r a h.0)
      (λ x y. more_read o outer x (with_arg o outer (arg_says a) r) more h.1 y))

-- ---- the whole

-- blanks and the parenthesis behind the outermost name
name_gap : (m : Machine) (ws : List ℕ) → AreBlank ws
    → go (record m { place = Name }) (ws ++ 40 ∷ []) ≡ Some (open_call m)
name_gap m [] h = refl
name_gap m (w ∷ ws) h =
    rw (blank_not_name w h.0, h.0)
    (go_then (record m { place = AfterName }) _ ws (40 ∷ []) _
    (blanks_stay (record m { place = AfterName }) (λ c e. rw e refl) ws h.1) refl)

-- the outermost name is read
name_read : (cs : List ℕ) → IsName cs
    → go start cs ≡ Some (record start { place = Name; text = encode_utf8_all cs })
name_read [] h = absurd h
name_read (c ∷ cs) h =
    rw (name_not_blank c h.0, h.0)
    (letters_grow Name (λ n d e. rw e refl) (record start { text = encode_utf8 c }) cs h.1)

-- the machine that has read an expression
abbrev pub closed : CallTree → Machine
closed c = record start { place = Close; inner = Some c; begun = calls c; deepest = levels c }

-- the outermost call that has read its arguments is read
closed_whole : (name : List ℕ) (args : List ArgTree)
    → close (with_args (record { name = []; args = []; key = None }) [] args
    (record start { name = name; begun = 1; deepest = max 0 1 }))
    ≡ closed (call name (trees_of args))
closed_whole name args =
    let reach = reach_levels 1 (trees_of args) in
    counted (closed (call name (trees_of args))) _ _ _ _
    (omega arith) (omega (arith, reach))

-- a call with blanks round it is read to its end
pub complete : (before : List ℕ) (c : CallLayout) (behind : List ℕ) → AreBlank before → IsCall c
    → AreBlank behind
    → go start (before ++ (call_print c ++ behind)) ≡ Some (closed (call_says c))
complete before (call_laid name gap space args) behind hb h hh =
    let t = record start { text = encode_utf8_all name } in
    let p : OpenCall = record { name = []; args = []; key = None } in
    let n = record start { name = encode_utf8_all name; begun = 1; deepest = max 0 1 } in
    let tree = call (encode_utf8_all name) (trees_of (args_say args)) in
    let e : before ++ (name ++ ((gap ++ 40 ∷ []) ++ (space ++ (args_print args ++ behind))))
    ≡ before ++ ((name ++ (gap ++ 40 ∷ (space ++ args_print args))) ++ behind) =
    simp append_assoc in
    subst (λ u. go start u ≡ Some (closed tree)) e
    (go_then start start before _ _ (at_start start before hb)
    (go_then start (record t { place = Name }) name _ _ (name_read name h.0)
    (go_then (record t { place = Name }) (fresh p [] n) (gap ++ 40 ∷ []) _ _ (name_gap t gap h.1)
    (go_then (fresh p [] n) (fresh p [] n) space _ _
    (blanks_stay (fresh p [] n) (λ c q. rw q refl) space h.2)
    (go_then (fresh p [] n) (closed tree) (args_print args) behind _
    (args_read p [] n args h.3
    ∙ ap (λ x. Some x) (closed_whole (encode_utf8_all name) (args_say args)))
    (blanks_stay (closed tree) (λ c q. rw q refl) behind hh))))))
