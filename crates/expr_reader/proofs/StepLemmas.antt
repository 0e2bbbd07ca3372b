-- What stands at a place of the machine, with one more character.
use Rattle.std.proofs.Common.{◌≡◌, ℕ, List, [], ◌∷◌, ◌++◌, Bool, true, false}
use Rattle.std.proofs.Common.{eqb, cond, Option, Some, None, is_none}
use Rattle.std.proofs.Common.{encode_utf8_all, refl, ap, sym, ◌∙◌, subst, append_assoc}
use Rattle.std.proofs.Common.{append-nil}
use Rattle.std.specs.List.{AllByRecursion}
use Rattle.std.proofs.lemmas.Bool.{false≢true, eqb-true}
use Rattle.expr_reader.specs.Tree.{ArgTree, CallTree, call, renamed, trees_of, word_tree}
use Rattle.expr_reader.specs.Tree.{call_arg_tree}
use Rattle.expr_reader.specs.Letters.{is_blank, is_name_letter}
use Rattle.expr_reader.specs.Machine.{Machine, close_in, add_arg}
use Rattle.expr_reader.specs.Steps.{stop}
use Rattle.expr_reader.specs.declared.open_calls.OpenCall.{OpenCall}
use Rattle.expr_reader.specs.Layout.{ArgLayout, CallLayout, KeyLayout, call_laid, word_laid}
use Rattle.expr_reader.specs.Layout.{none_laid, sub_laid, renamed_laid, key_print, key_text, call_print}
use Rattle.expr_reader.specs.Layout.{arg_print, arg_says, IsArg, AreArgs, args_print, more_print}
use Rattle.expr_reader.specs.Layout.{args_say, call_says, IsCall}
use Rattle.expr_reader.specs.Word.{AreBlank, IsGap, IsName, Writing, writing_print, writing_text}
use Rattle.expr_reader.specs.Word.{is_quoted, IsWriting}
use Rattle.expr_reader.proofs.FrontLemmas.{all_push, Head, AtOpen, Within, Context}
use Rattle.expr_reader.proofs.FrontLemmas.{InCall, Opened, laid_of, done_print}
use Rattle.expr_reader.proofs.FrontLemmas.{Good}

-- ---- one more character

-- by either value of a test
pub if_good : (b : Bool) (x y : Option Machine) (p : List ℕ) → (b ≡ true → Good x p)
    → (b ≡ false → Good y p) → Good (cond b x y) p
if_good true x y p t f = t refl
if_good false x y p t f = f refl

-- one more character stands at the end of the tail
pub push_tail : (p front tail : List ℕ) (c : ℕ) → p ≡ front ++ tail
    → p ++ c ∷ [] ≡ front ++ (tail ++ c ∷ [])
push_tail p front tail c h = ap (λ t. t ++ c ∷ []) h ∙ append_assoc front tail (c ∷ [])

-- the same by the character that it is
pub push_is : (p front tail : List ℕ) (c d : ℕ) → p ≡ front ++ tail → c ≡ d
    → p ++ c ∷ [] ≡ front ++ (tail ++ d ∷ [])
push_is p front tail c d h e = push_tail p front tail c h ∙ ap (λ x. front ++ (tail ++ x ∷ [])) e

-- a name with one more letter
pub name_push : (cs : List ℕ) (c : ℕ) → IsName cs → is_name_letter c ≡ true → IsName (cs ++ c ∷ [])
name_push [] c h k = absurd h
name_push (x ∷ cs) c h k = (h.0, all_push (λ d. is_name_letter d ≡ true) cs c h.1 k)

-- one more blank
pub blank_push : (cs : List ℕ) (c : ℕ) → AreBlank cs → is_blank c ≡ true → AreBlank (cs ++ c ∷ [])
blank_push cs c h k = all_push (λ d. is_blank d ≡ true) cs c h k

-- the same where there is one already
pub gap_push : (cs : List ℕ) (c : ℕ) → IsGap cs → is_blank c ≡ true → IsGap (cs ++ c ∷ [])
gap_push [] c h k = absurd h
gap_push (x ∷ cs) c h k = blank_push (x ∷ cs) c h k

-- ---- within a call

-- one more character of a word or call
within_push : (P : List ℕ → Type 0) (name args said tail p : _) (c d : ℕ)
    → Within P name args said tail p → c ≡ d → Within P name args said (tail ++ d ∷ []) (p ++ c ∷ [])
within_push P name args said tail p c d w e = record {
  front = w.front;
  with_key = w.with_key;
  blanks = w.blanks;
  blank = w.blank;
  is = push_is p w.front (w.blanks ++ tail) c d w.is e
      ∙ ap (λ t. w.front ++ t) (append_assoc w.blanks tail (d ∷ []));
}

-- one more character of a word or call, in the calls that are open
pub here_push : (outer : List OpenCall) (name args said tail p : _) (c d : ℕ)
    → InCall outer name args said tail p → c ≡ d
    → InCall outer name args said (tail ++ d ∷ []) (p ++ c ∷ [])
here_push [] name args said tail p c d w e = absurd w
here_push (o ∷ outer) name args said tail p c d w e =
    within_push (Context outer o.name o.args o.key) name args said tail p c d w e

-- the tail may be written otherwise
pub here_is : (outer : List OpenCall) (name args said tail other p : _)
    → InCall outer name args said tail p → tail ≡ other → InCall outer name args said other p
here_is outer name args said tail other p w e =
    subst (λ t. InCall outer name args said t p) e w

-- one more blank before a word
within_blank : (P : List ℕ → Type 0) (name args said p : _) (c : ℕ)
    → Within P name args said [] p → is_blank c ≡ true → Within P name args said [] (p ++ c ∷ [])
within_blank P name args said p c w b = record {
  front = w.front;
  with_key = w.with_key;
  blanks = w.blanks ++ c ∷ [];
  blank = blank_push w.blanks c w.blank b;
  is = ap (λ t. t ++ c ∷ []) w.is ∙ simp (append-nil, append_assoc);
}

-- the same in the calls that are open
pub here_blank : (outer : List OpenCall) (name args said p : _) (c : ℕ)
    → InCall outer name args said [] p → is_blank c ≡ true
    → InCall outer name args said [] (p ++ c ∷ [])
here_blank [] name args said p c w b = absurd w
here_blank (o ∷ outer) name args said p c w b =
    within_blank (Context outer o.name o.args o.key) name args said p c w b

-- what stands before a word or call
pub record Preceded (P : List ℕ → Type 0) (tail p : List ℕ) : Type 0 where
  pub front : List ℕ
  pub context : P front
  pub is : p ≡ front ++ tail

-- it is found in what stands within a call
pub before_here : (outer : List OpenCall) (name args said tail p : _)
    → InCall outer name args said tail p → Preceded (Context outer name args said) tail p
before_here [] name args said tail p w = absurd w
before_here (o ∷ outer) name args said tail p w = record {
  front = w.front ++ w.blanks;
  context = record {
    front = w.front;
    with_key = w.with_key;
    blanks = w.blanks;
    blank = w.blank;
    is = ap (λ t. w.front ++ t) (sym (append-nil w.blanks));
  };
  is = w.is ∙ sym (append_assoc w.front w.blanks tail);
}

-- and what stands behind it is within the call
pub here_before : (o : OpenCall) (outer : List OpenCall) (name args said front tail p : _)
    → Context (o ∷ outer) name args said front → p ≡ front ++ tail
    → InCall (o ∷ outer) name args said tail p
here_before o outer name args said front tail p w e = record {
  front = w.front;
  with_key = w.with_key;
  blanks = w.blanks;
  blank = w.blank;
  is = e ∙ ap (λ t. t ++ tail) w.is ∙ simp (append-nil, append_assoc);
}

-- no key stands before the next word
within_no_key : (P : List ℕ → Type 0) (name args : _) (said : Option (List ℕ)) (p : List ℕ)
    → Head P name args p → said ≡ None → Within P name args said [] p
within_no_key P name args said p h k = record {
  front = p;
  with_key = record {
    front = p;
    head = h;
    key = None;
    ok = tt;
    key_is = k;
    is = sym
        (append-nil p);
  };
  blanks = [];
  blank = tt;
  is = sym (append-nil p);
}

-- an open call is one with no argument yet
head_of : (P : List ℕ → Type 0) (name args : _) (p : List ℕ) → AtOpen P name p → args ≡ []
    → Head P name args p
head_of P name args p o a = record {
  before = o.before;
  letters = o.letters;
  gap = o.gap;
  space = o.space;
  done = [];
  context = o.context;
  is_name = o.is_name;
  blank_gap = o.blank_gap;
  blank_space = o.blank_space;
  all = tt;
  says = o.says;
  args_are = a;
  is = o.is ∙ ap (λ t. o.before ++ (o.letters ++ (o.gap ++ 40 ∷ t))) (sym (append-nil o.space));
}

-- so an argument may begin in it
pub here_opened : (outer : List OpenCall) (name args said p : _) → Opened outer name p → args ≡ []
    → said ≡ None → InCall outer name args said [] p
here_opened [] name args said p o a k = absurd o
here_opened (c ∷ outer) name args said p o a k =
    let P = Context outer c.name c.args c.key in
    within_no_key P name args said p (head_of P name args p o a) k

-- ---- a call opens

-- a parenthesis behind a name opens the call
pub opens : (outer : List OpenCall) (name args said text front letters gap p : _) (c : ℕ)
    → Context outer name args said front → IsName letters → AreBlank gap
    → text ≡ encode_utf8_all letters → p ≡ front ++ (letters ++ gap) → c ≡ 40
    → Opened (record { name = name; args = args; key = said } ∷ outer) text (p ++ c ∷ [])
opens outer name args said text front letters gap p c x n g t e is = record {
  before = front;
  letters = letters;
  gap = gap;
  space = [];
  context = x;
  is_name = n;
  blank_gap = g;
  blank_space = tt;
  says = t;
  is = push_is p front (letters ++ gap) c 40 e is
      ∙ ap (λ u. front ++ u) (append_assoc letters gap (40 ∷ []));
}

-- a blank behind the parenthesis
pub opened_blank : (outer : List OpenCall) (name p : _) (c : ℕ) → Opened outer name p
    → is_blank c ≡ true → Opened outer name (p ++ c ∷ [])
opened_blank [] name p c o b = absurd o
opened_blank (x ∷ outer) name p c o b = record {
  before = o.before;
  letters = o.letters;
  gap = o.gap;
  space = o.space ++ c ∷ [];
  context = o.context;
  is_name = o.is_name;
  blank_gap = o.blank_gap;
  blank_space = blank_push o.space c o.blank_space b;
  says = o.says;
  is = ap (λ t. t ++ c ∷ []) o.is ∙ simp append_assoc;
}

-- ---- a call closes

-- a call that is closed, behind what stood before it
pub record Closed (P : List ℕ → Type 0) (tree : CallTree) (p : List ℕ) : Type 0 where
  pub before : List ℕ
  pub layout : CallLayout
  pub context : P before
  pub allowed : IsCall layout
  pub says : tree ≡ call_says layout
  pub is : p ≡ before ++ call_print layout

-- the same in the calls that are open
abbrev pub ClosedIn : List OpenCall → CallTree → List ℕ → Type 0
ClosedIn [] tree p = ⊥
ClosedIn (o ∷ outer) tree p = Closed (Context outer o.name o.args o.key) tree p

-- the machine that has closed it stands behind it
pub closed_good : (outer : List OpenCall) (m : Machine) (p : List ℕ)
    → ClosedIn outer (call m.name (trees_of m.args)) p → Good (Some (close_in outer m)) p
closed_good [] m p k = absurd k
closed_good (o ∷ []) m p k = (
  refl,
  record {
    before = k.before;
    layout = k.layout;
    behind = [];
    blank = k.context;
    allowed = k.allowed;
    blank_behind = tt;
    says = ap Some k.says;
    is = k.is ∙ ap (λ t. k.before ++ t) (sym (append-nil (call_print k.layout)));
  },
)
closed_good (o ∷ q ∷ outer) m p k = record {
  layout = k.layout;
  allowed = k.allowed;
  says = ap Some k.says;
  here = here_before q outer o.name o.args o.key k.before (call_print k.layout ++ []) p k.context
      (k.is ∙ ap (λ t. k.before ++ t) (sym (append-nil (call_print k.layout))));
}

-- a parenthesis closes a call with no argument
pub closes_none : (outer : List OpenCall) (name args p : _) (c : ℕ) → Opened outer name p
    → args ≡ [] → c ≡ 41 → ClosedIn outer (call name (trees_of args)) (p ++ c ∷ [])
closes_none [] name args p c o a e = absurd o
closes_none (x ∷ outer) name args p c o a e =
    let layout : CallLayout = call_laid o.letters o.gap o.space none_laid in
    record {
      before = o.before;
      layout = layout;
      context = o.context;
      allowed = (o.is_name, o.blank_gap, o.blank_space, tt);
      says = (λ i. call (o.says i) (trees_of (a i)));
      is = ap (λ y. p ++ y ∷ []) e ∙ ap (λ t. t ++ 41 ∷ []) o.is ∙ simp append_assoc;
    }

-- ---- an argument ends

-- whole arguments with one more and its comma
done_push : (done : List ArgLayout) (a : ArgLayout)
    → done_print (done ++ a ∷ []) ≡ done_print done ++ (arg_print a ++ 44 ∷ [])
done_push [] a = refl
done_push (d ∷ done) a =
    ap (λ t. arg_print d ++ 44 ∷ t) (done_push done a)
    ∙ sym (append_assoc (arg_print d) (44 ∷ done_print done) (arg_print a ++ 44 ∷ []))

-- whole arguments behind a comma with one more and the parenthesis
more_close : (done : List ArgLayout) (a : ArgLayout)
    → more_print (laid_of (done ++ a ∷ [])) ≡ 44 ∷ (done_print done ++ (arg_print a ++ 41 ∷ []))
more_close [] a = refl
more_close (d ∷ done) a =
    ap (λ t. 44 ∷ (arg_print d ++ t)) (more_close done a)
    ∙ ap (λ t. 44 ∷ t)
    (sym (append_assoc (arg_print d) (44 ∷ done_print done) (arg_print a ++ 41 ∷ [])))

-- whole arguments with one more and the parenthesis
done_close : (done : List ArgLayout) (a : ArgLayout)
    → args_print (laid_of (done ++ a ∷ [])) ≡ done_print done ++ (arg_print a ++ 41 ∷ [])
done_close [] a = refl
done_close (d ∷ done) a =
    ap (λ t. arg_print d ++ t) (more_close done a)
    ∙ sym (append_assoc (arg_print d) (44 ∷ done_print done) (arg_print a ++ 41 ∷ []))

-- what they say
say_push : (done : List ArgLayout) (a : ArgLayout)
    → args_say (laid_of (done ++ a ∷ [])) ≡ args_say (laid_of done) ++ arg_says a ∷ []
say_push [] a = refl
say_push (d ∷ done) a = ap (λ t. arg_says d ∷ t) (say_push done a)

-- they are allowed, with one more
are_push : (done : List ArgLayout) (a : ArgLayout) → AllByRecursion IsArg done → IsArg a
    → AllByRecursion IsArg (done ++ a ∷ [])
are_push [] a h k = (k, tt)
are_push (d ∷ done) a h k = (h.0, are_push done a h.1 k)

-- so is their layout
are_laid : (done : List ArgLayout) → AllByRecursion IsArg done → AreArgs (laid_of done)
are_laid [] h = tt
are_laid (d ∷ done) h = (h.0, are_laid done h.1)

-- a call up to the end of an argument
pub record Ended (P : List ℕ → Type 0) (name : List ℕ) (args : List ArgTree) (arg : ArgTree)
    (p : List ℕ) : Type 0 where
  pub front : List ℕ
  pub head : Head P name args front
  pub layout : ArgLayout
  pub ok : IsArg layout
  pub says : arg ≡ arg_says layout
  pub is : p ≡ front ++ arg_print layout

-- the same in the calls that are open
abbrev pub EndedIn : List OpenCall → List ℕ → List ArgTree → ArgTree → List ℕ → Type 0
EndedIn [] name args arg p = ⊥
EndedIn (o ∷ outer) name args arg p = Ended (Context outer o.name o.args o.key) name args arg p

-- the end of a word ends its argument
pub ended_word : (outer : List OpenCall) (name args said text : _) (w : Writing) (ws p : List ℕ)
    → IsWriting w → AreBlank ws → text ≡ writing_text w
    → InCall outer name args said (writing_print w ++ ws) p
    → EndedIn outer name args (word_tree said text (is_quoted w)) p
ended_word [] name args said text w ws p hw hs ht h = absurd h
ended_word (o ∷ outer) name args said text w ws p hw hs ht h =
    let k = h.with_key in record {
      front = k.front;
      head = k.head;
      layout = word_laid k.key h.blanks w ws;
      ok = (k.ok, h.blank, hw, hs);
      says = ap (λ s. word_tree s text (is_quoted w)) k.key_is
          ∙ ap (λ t. word_tree (key_text k.key) t (is_quoted w)) ht;
      is = h.is ∙ ap (λ t. t ++ (h.blanks ++ (writing_print w ++ ws))) k.is
          ∙ append_assoc k.front (key_print k.key) (h.blanks ++ (writing_print w ++ ws));
    }

-- the end of a call in a call ends its argument
pub ended_call : (outer : List OpenCall) (name args said : _) (l : CallLayout) (ws p : List ℕ)
    → IsCall l → AreBlank ws → InCall outer name args said (call_print l ++ ws) p
    → EndedIn outer name args (call_arg_tree said (call_says l)) p
ended_call [] name args said l ws p hl hs h = absurd h
ended_call (o ∷ outer) name args said l ws p hl hs h =
    let k = h.with_key in record {
      front = k.front;
      head = k.head;
      layout = sub_laid k.key h.blanks l ws;
      ok = (k.ok, h.blank, hl, hs);
      says = ap (λ s. call_arg_tree s (call_says l)) k.key_is;
      is = h.is ∙ ap (λ t. t ++ (h.blanks ++ (call_print l ++ ws))) k.is
          ∙ append_assoc k.front (key_print k.key) (h.blanks ++ (call_print l ++ ws));
    }

-- where there is no key none is printed
pub no_key_print : (key : Option KeyLayout) (said : Option (List ℕ)) → said ≡ key_text key
    → is_none said ≡ true → key_print key ≡ []
no_key_print None said e n = refl
no_key_print (Some k) said e n = absurd (false≢true (ap is_none (sym e) ∙ n))

-- the end of a new name ends its argument
pub ended_renamed : (outer : List OpenCall) (name args said : _) (l : CallLayout)
    (gap space to behind p : List ℕ) → IsCall l → IsGap gap → IsGap space → IsName to
    → AreBlank behind → said ≡ None
    → InCall outer name args said
    (call_print l ++ (gap ++ 97 ∷ 115 ∷ (space ++ (to ++ behind)))) p
    → EndedIn outer name args (renamed (call_says l) (encode_utf8_all to)) p
ended_renamed [] name args said l gap space to behind p hl hg hs ht hb n h = absurd h
ended_renamed (o ∷ outer) name args said l gap space to behind p hl hg hs ht hb n h =
    let k = h.with_key in
    let tail = call_print l ++ (gap ++ 97 ∷ 115 ∷ (space ++ (to ++ behind))) in
    let none : key_print k.key ≡ [] = no_key_print k.key said k.key_is (ap is_none n) in
    record {
      front = k.front;
      head = k.head;
      layout = renamed_laid h.blanks l gap space to behind;
      ok = (h.blank, hl, hg, hs, ht, hb);
      says = refl;
      is = h.is ∙ ap (λ t. t ++ (h.blanks ++ tail))
          (k.is ∙ ap (λ t. k.front ++ t) none ∙ append-nil k.front);
    }

-- a comma behind an argument
comma : (outer : List OpenCall) (name args arg p : _) (c : ℕ) → EndedIn outer name args arg p
    → c ≡ 44 → InCall outer name (args ++ arg ∷ []) None [] (p ++ c ∷ [])
comma [] name args arg p c n e = absurd n
comma (o ∷ outer) name args arg p c n e = let h = n.head in
    within_no_key (Context outer o.name o.args o.key) _ _ _ _ (record {
      before = h.before;
      letters = h.letters;
      gap = h.gap;
      space = h.space;
      done = h.done ++ n.layout ∷ [];
      context = h.context;
      is_name = h.is_name;
      blank_gap = h.blank_gap;
      blank_space = h.blank_space;
      all = are_push h.done n.layout h.all n.ok;
      says = h.says;
      args_are = ap (λ x. args ++ x ∷ []) n.says ∙ ap (λ x. x ++ arg_says n.layout ∷ []) h.args_are
          ∙ sym (say_push h.done n.layout);
      is = ap (λ x. p ++ x ∷ []) e ∙ ap (λ t. t ++ 44 ∷ []) n.is
          ∙ ap (λ t. (t ++ arg_print n.layout) ++ 44 ∷ []) h.is ∙ simp (done_push, append_assoc);
    }) refl

-- a parenthesis behind an argument closes the call
closes : (outer : List OpenCall) (name args arg p : _) (c : ℕ) → EndedIn outer name args arg p
    → c ≡ 41 → ClosedIn outer (call name (trees_of (args ++ arg ∷ []))) (p ++ c ∷ [])
closes [] name args arg p c n e = absurd n
closes (o ∷ outer) name args arg p c n e = let h = n.head in
    let args_are : args ++ arg ∷ [] ≡ args_say (laid_of (h.done ++ n.layout ∷ [])) =
    ap (λ x. args ++ x ∷ []) n.says ∙ ap (λ x. x ++ arg_says n.layout ∷ []) h.args_are
    ∙ sym (say_push h.done n.layout) in
    record {
      before = h.before;
      layout = call_laid h.letters h.gap h.space (laid_of (h.done ++ n.layout ∷ []));
      context = h.context;
      allowed = (
        h.is_name,
        h.blank_gap,
        h.blank_space,
        are_laid _ (are_push h.done n.layout h.all n.ok),
      );
      says = (λ i. call (h.says i) (trees_of (args_are i)));
      is = ap (λ x. p ++ x ∷ []) e ∙ ap (λ t. t ++ 41 ∷ []) n.is
          ∙ ap (λ t. (t ++ arg_print n.layout) ++ 41 ∷ []) h.is
          ∙ simp (done_close, append_assoc);
    }

-- a comma or a parenthesis behind an argument
pub stops : (m : Machine) (arg : ArgTree) (c : ℕ) (p : List ℕ)
    → EndedIn m.outer m.name m.args arg p → Good (stop (add_arg arg m) c) (p ++ c ∷ [])
stops m arg c p n = if_good (eqb c 44) _ _ _
    (λ e. comma m.outer m.name m.args arg p c n (eqb-true c 44 e))
    (λ _. if_good (eqb c 41) _ _ _
    (λ e. closed_good m.outer (add_arg arg m) (p ++ c ∷ [])
    (closes m.outer m.name m.args arg p c n (eqb-true c 41 e)))
    (λ _. tt))
