-- What the machine takes is the front of an expression, and what it refuses isn't.
use Rattle.std.proofs.Common.{◌≡◌, ℕ, ◌≤◌, max, List, [], ◌∷◌, ◌++◌}
use Rattle.std.proofs.Common.{true, false, Option, Some, None}
use Rattle.std.proofs.Common.{encode_utf8, encode_utf8_all, refl, ap, sym, ◌∙◌, subst, append_assoc}
use Rattle.std.proofs.Common.{arith}
use Rattle.std.proofs.lemmas.Bool.Decides.{nat_tests}
use Rattle.std.proofs.lemmas.Str.{encodes-append, chars-encodes}
use Rattle.std.specs.Str.{chars}
use lib.Utf8.{scalar, scalars}
use Rattle.expr_reader.specs.Tree.{CallTree, call, trees_of, call_arg_tree, KeepsLimits}
use Rattle.expr_reader.specs.Tree.{levels, calls, level_limit, call_limit}
use Rattle.expr_reader.specs.Machine.{Machine, start, is_over, behind_call}
use Rattle.expr_reader.specs.Steps.{step}
use Rattle.expr_reader.specs.declared.machine.Place.{Place}
use Rattle.expr_reader.specs.declared.machine.Place.TheVariants.{Start, Name, AfterName, Open}
use Rattle.expr_reader.specs.declared.machine.Place.TheVariants.{Before, Bare, Quote, Escape}
use Rattle.expr_reader.specs.declared.machine.Place.TheVariants.{AfterQuote, AfterCall, CallGap}
use Rattle.expr_reader.specs.declared.machine.Place.TheVariants.{As, AfterAs, BeforeTo, To}
use Rattle.expr_reader.specs.declared.machine.Place.TheVariants.{AfterTo, Close}
use Rattle.expr_reader.specs.declared.open_calls.OpenCall.{OpenCall}
use Rattle.expr_reader.specs.Grammar.{IsExpression, GoesOn}
use Rattle.expr_reader.specs.Layout.{call_print, call_says}
use Rattle.expr_reader.proofs.TakeLemmas.{go, go_then}
use Rattle.expr_reader.proofs.CompleteLemmas.{complete, closed}
use Rattle.expr_reader.proofs.FrontLemmas.{InCall, Opened, AtBase, CalledAt, Whole, Front}
use Rattle.expr_reader.proofs.SoundLemmas.{sound, fronts}
use Rattle.expr_reader.proofs.TextLemmas.{scalar_in, scalars_append, encodes_front}

-- ---- readings and expressions

-- the characters of an expression, and that they are read to its end
pub record Read (bytes : List ℕ) (tree : CallTree) : Type 0 where
  pub characters : List ℕ
  pub are : scalars characters ≡ true
  pub printed : bytes ≡ encode_utf8_all characters
  pub taken : go start characters ≡ Some (closed tree)

-- an expression is read to its end
pub expression_read : (bytes : List ℕ) (tree : CallTree) → IsExpression bytes tree → Read bytes tree
expression_read bytes tree x = record {
  characters = x.before ++ (call_print x.layout ++ x.behind);
  are = x.characters;
  printed = x.printed;
  taken = complete x.before x.layout x.behind x.blank_before x.allowed x.blank_behind
      ∙ ap (λ t. Some (closed t)) (sym x.says);
}

-- its characters are those of the bytes
read_chars : (bytes : List ℕ) (tree : CallTree) (r : Read bytes tree) → r.characters ≡ chars bytes
read_chars bytes tree r = sym (ap chars r.printed ∙ chars-encodes r.characters r.are)

-- an expression says one thing
pub says_one : (bytes : List ℕ) (a b : CallTree) → IsExpression bytes a → IsExpression bytes b
    → a ≡ b
says_one bytes a b x y =
    let r = expression_read bytes a x in
    let s = expression_read bytes b y in
    let same : r.characters ≡ s.characters =
    read_chars bytes a r ∙ sym (read_chars bytes b s) in
    let machines : Some (closed a) ≡ Some (closed b) =
    sym r.taken ∙ ap (go start) same ∙ s.taken in
    let trees : closed a ≡ closed b = cc in
    let inner : Some a ≡ Some b = ap (λ (m : Machine). m.inner) trees in
    cc

-- what is laid out as a call is an expression
expression_of : (cs : List ℕ) (inner : Option CallTree) (w : Whole inner cs) → scalars cs ≡ true
    → IsExpression (encode_utf8_all cs) (call_says w.layout)
expression_of cs inner w h = record {
  before = w.before;
  layout = w.layout;
  behind = w.behind;
  blank_before = w.blank;
  allowed = w.allowed;
  blank_behind = w.blank_behind;
  characters = subst (λ t. scalars t ≡ true) w.is h;
  printed = ap encode_utf8_all w.is;
  says = refl;
}

-- a machine that has read to the end has read an expression, and is as its call says
pub record Says (cs : List ℕ) (m : Machine) : Type 0 where
  pub tree : CallTree
  pub expression : IsExpression (encode_utf8_all cs) tree
  pub is : m ≡ closed tree

-- what was read to its end is an expression
pub read_expression : (cs : List ℕ) (m : Machine) → scalars cs ≡ true → go start cs ≡ Some m
    → m.place ≡ Close → Says cs m
read_expression cs m h g k =
    let w = sound cs m g k in
    let x = expression_of cs m.inner w h in
    let r = expression_read (encode_utf8_all cs) (call_says w.layout) x in
    let same : r.characters ≡ cs =
    read_chars (encode_utf8_all cs) (call_says w.layout) r ∙ chars-encodes cs h in
    let machines : Some m ≡ Some (closed (call_says w.layout)) =
    sym g ∙ ap (go start) (sym same) ∙ r.taken in
    let is : m ≡ closed (call_says w.layout) = cc in
    record { tree = call_says w.layout; expression = x; is = is }

-- ---- fronts that go on

-- some expression within the limits begins so
abbrev pub FitsOn : List ℕ → Type 0
FitsOn front = (more : List ℕ) × (tree : CallTree) × IsExpression (front ++ more) tree ×
    KeepsLimits tree

-- some expression begins so, and one within the limits if the machine has passed none
abbrev pub Viable : List ℕ → Machine → Type 0
Viable front m = GoesOn front × (is_over m ≡ false → FitsOn front)

-- characters with which a place goes on to the end of the innermost call
completion : Place → List ℕ
completion Start = 97 ∷ 40 ∷ 41 ∷ []
completion Name = 40 ∷ 41 ∷ []
completion AfterName = 40 ∷ 41 ∷ []
completion Open = 41 ∷ []
completion Before = 97 ∷ 41 ∷ []
completion Bare = 41 ∷ []
completion Quote = 34 ∷ 41 ∷ []
completion Escape = 97 ∷ 34 ∷ 41 ∷ []
completion AfterQuote = 41 ∷ []
completion AfterCall = 41 ∷ []
completion CallGap = 41 ∷ []
completion As = 115 ∷ 32 ∷ 97 ∷ 41 ∷ []
completion AfterAs = 32 ∷ 97 ∷ 41 ∷ []
completion BeforeTo = 97 ∷ 41 ∷ []
completion To = 41 ∷ []
completion AfterTo = 41 ∷ []
completion Close = []

-- they are characters
completion_scalars : (q : Place) → scalars (completion q) ≡ true
unfolding completion
completion_scalars Start = refl
completion_scalars Name = refl
completion_scalars AfterName = refl
completion_scalars Open = refl
completion_scalars Before = refl
completion_scalars Bare = refl
completion_scalars Quote = refl
completion_scalars Escape = refl
completion_scalars AfterQuote = refl
completion_scalars AfterCall = refl
completion_scalars CallGap = refl
completion_scalars As = refl
completion_scalars AfterAs = refl
completion_scalars BeforeTo = refl
completion_scalars To = refl
completion_scalars AfterTo = refl
completion_scalars Close = refl

-- parentheses that close the calls that are open
closing : List OpenCall → List ℕ
closing [] = []
closing (o ∷ outer) = 41 ∷ closing outer

-- they are characters
closing_scalars : (outer : List OpenCall) → scalars (closing outer) ≡ true
unfolding closing
closing_scalars [] = refl
closing_scalars (o ∷ outer) = closing_scalars outer

-- the machine goes on to the end of an expression, with no more calls than one
record Done (m : Machine) : Type 0 where
  more : List ℕ
  are : scalars more ≡ true
  end : Machine
  taken : go m more ≡ Some end
  place : end.place ≡ Close
  begun : end.begun ≤ max m.begun 1
  deepest : end.deepest ≤ max m.deepest 1

-- the machine goes on so to the end of the innermost call
abbrev Leads : Machine → List ℕ → List OpenCall → Type 0
Leads m cs outer = (n : Machine) × (go m cs ≡ Some n) × (n.place ≡ behind_call outer) ×
    (n.outer ≡ outer) × (n.begun ≡ m.begun) × (n.deepest ≡ m.deepest)

-- behind a call, it goes on to the end
closing_go : (outer : List OpenCall) (inner : Option CallTree) (m : Machine)
    → Leads (record m { place = behind_call outer; inner = inner; outer = outer }) (closing outer) []
unfolding closing
closing_go [] inner m =
    (record m { place = Close; inner = inner; outer = [] }, refl, refl, refl, refl, refl)
closing_go (o ∷ outer) None m =
    closing_go outer (Some (call m.name (trees_of m.args)))
    (record m { name = o.name; args = o.args; key = o.key })
closing_go (o ∷ outer) (Some c) m =
    closing_go outer (Some (call m.name (trees_of (m.args ++ call_arg_tree m.key c ∷ []))))
    (record m { name = o.name; args = o.args; key = o.key; text = []; blanks = [] })

-- so it does from within a call
leads_done : (m : Machine) (cs : List ℕ) (outer : List OpenCall) → scalars cs ≡ true
    → Leads m cs outer → Done m
leads_done m cs outer s (n, taken, place, open_calls, begun, deepest) =
    let r = record n { place = behind_call outer; inner = n.inner; outer = outer } in
    let e = closing_go outer n.inner n in
    let same : n ≡ r = λ i. record n { place = place i; inner = n.inner; outer = open_calls i } in
    record {
      more = cs ++ closing outer;
      are = scalars_append cs (closing outer) s (closing_scalars outer);
      end = e.0;
      taken = go_then m n cs (closing outer) (Some e.0) taken
          (ap (λ x. go x (closing outer)) same ∙ e.1);
      place = e.2;
      begun = omega (arith, e.4, begun);
      deepest = omega (arith, e.5, deepest);
    }

-- from each place where an argument may stand
word_leads : (o : OpenCall) (outer : List OpenCall) (m : Machine)
    → Leads (record m { place = Open; outer = o ∷ outer }) (completion Open) outer
    × Leads (record m { place = Before; outer = o ∷ outer }) (completion Before) outer
    × Leads (record m { place = Bare; outer = o ∷ outer }) (completion Bare) outer
    × Leads (record m { place = Quote; outer = o ∷ outer }) (completion Quote) outer
    × Leads (record m { place = Escape; outer = o ∷ outer }) (completion Escape) outer
    × Leads (record m { place = AfterQuote; outer = o ∷ outer }) (completion AfterQuote) outer
unfolding completion
word_leads o outer m = (
  (_, refl, refl, refl, refl, refl),
  (_, refl, refl, refl, refl, refl),
  (_, refl, refl, refl, refl, refl),
  (_, refl, refl, refl, refl, refl),
  (_, refl, refl, refl, refl, refl),
  (_, refl, refl, refl, refl, refl),
)

-- from each place behind a call in a call
call_leads : (o : OpenCall) (outer : List OpenCall) (c : CallTree) (m : Machine)
    → Leads (record m { place = AfterCall; inner = Some c; outer = o ∷ outer })
    (completion AfterCall) outer
    × Leads (record m { place = CallGap; inner = Some c; outer = o ∷ outer })
    (completion CallGap) outer
    × Leads (record m { place = As; inner = Some c; outer = o ∷ outer }) (completion As) outer
    × Leads (record m { place = AfterAs; inner = Some c; outer = o ∷ outer })
    (completion AfterAs) outer
    × Leads (record m { place = BeforeTo; inner = Some c; outer = o ∷ outer })
    (completion BeforeTo) outer
    × Leads (record m { place = To; inner = Some c; outer = o ∷ outer }) (completion To) outer
    × Leads (record m { place = AfterTo; inner = Some c; outer = o ∷ outer })
    (completion AfterTo) outer
unfolding completion
call_leads o outer c m = (
  (_, refl, refl, refl, refl, refl),
  (_, refl, refl, refl, refl, refl),
  (_, refl, refl, refl, refl, refl),
  (_, refl, refl, refl, refl, refl),
  (_, refl, refl, refl, refl, refl),
  (_, refl, refl, refl, refl, refl),
  (_, refl, refl, refl, refl, refl),
)

-- some call is open
abbrev IsIn : List OpenCall → Type 0
IsIn outer = (o : OpenCall) × (rest : List OpenCall) × (outer ≡ o ∷ rest)

-- within a call one is
in_call : (outer : List OpenCall) (name args said tail p : _)
    → InCall outer name args said tail p → IsIn outer
in_call [] name args said tail p h = absurd h
in_call (o ∷ outer) name args said tail p h = (o, outer, refl)

-- in a call that has just opened one is
in_opened : (outer : List OpenCall) (name p : _) → Opened outer name p → IsIn outer
in_opened [] name p h = absurd h
in_opened (o ∷ outer) name p h = (o, outer, refl)

-- so a place within a call goes on to the end
word_done : (q : Place) (m : Machine) → IsIn m.outer
    → ((o : OpenCall) (outer : List OpenCall)
    → Leads (record m { place = q; outer = o ∷ outer }) (completion q) outer)
    → Done (record m { place = q })
word_done q m (o, outer, is) leads =
    subst Done (λ i. record m { place = q; outer = sym is i })
    (leads_done (record m { place = q; outer = o ∷ outer }) (completion q) outer
    (completion_scalars q) (leads o outer))

-- so does a place behind a call
call_done : (q : Place) (m : Machine) (tail p : List ℕ) → CalledAt m tail p
    → ((o : OpenCall) (outer : List OpenCall) (c : CallTree)
    → Leads (record m { place = q; inner = Some c; outer = o ∷ outer }) (completion q) outer)
    → Done (record m { place = q })
call_done q m tail p k leads =
    let (o, outer, is) = in_call m.outer m.name m.args m.key (call_print k.layout ++ tail) p k.here
    in
    subst Done (λ i. record m { place = q; inner = sym k.says i; outer = sym is i })
    (leads_done (record m
    { place = q; inner = Some (call_says k.layout); outer = o ∷ outer }) (completion q) outer
    (completion_scalars q) (leads o outer (call_says k.layout)))

-- a place before the outermost call goes on to the end of an empty one
base_done : (q : Place) (m : Machine) → AtBase m
    → ((n : Machine) × (go (record m { place = q; outer = []; begun = 0; deepest = 0 })
    (completion q) ≡ Some n) × (n.place ≡ Close) × (n.begun ≡ 1) × (n.deepest ≡ 1))
    → Done (record m { place = q })
base_done q m (is, begun, deepest) (n, taken, place, one, deep) =
    subst Done
    (λ i. record m { place = q; outer = sym is i; begun = sym begun i; deepest = sym deepest i })
    (record {
      more = completion q;
      are = completion_scalars q;
      end = n;
      taken = taken;
      place = place;
      begun = omega (arith, one);
      deepest = omega (arith, deep);
    })

-- each place goes on to the end of an expression
done : (q : Place) (m : Machine) (p : List ℕ) → Front q m p → Done (record m { place = q })
unfolding completion
done Start m p f = base_done Start m f.0 (_, refl, refl, refl, refl)
done Name m p f = base_done Name m f.0 (_, refl, refl, refl, refl)
done AfterName m p f = base_done AfterName m f.0 (_, refl, refl, refl, refl)
done Open m p f =
    word_done Open m (in_opened m.outer m.name p f.0) (λ o outer. (word_leads o outer m).0)
done Before m p f =
    word_done Before m (in_call m.outer m.name m.args m.key [] p f)
    (λ o outer. (word_leads o outer m).1)
done Bare m p (cs, ws, hb, hw, ht, hbl, w) =
    word_done Bare m (in_call m.outer m.name m.args m.key _ p w)
    (λ o outer. (word_leads o outer m).2)
done Quote m p (i, hi, ht, hb, w) =
    word_done Quote m (in_call m.outer m.name m.args m.key _ p w)
    (λ o outer. (word_leads o outer m).3)
done Escape m p (i, hi, ht, hb, w) =
    word_done Escape m (in_call m.outer m.name m.args m.key _ p w)
    (λ o outer. (word_leads o outer m).4)
done AfterQuote m p (i, ws, hi, hw, ht, w) =
    word_done AfterQuote m (in_call m.outer m.name m.args m.key _ p w)
    (λ o outer. (word_leads o outer m).5)
done AfterCall m p f =
    call_done AfterCall m [] p f (λ o outer c. (call_leads o outer c m).0)
done CallGap m p (gap, hg, k) =
    call_done CallGap m gap p k (λ o outer c. (call_leads o outer c m).1)
done As m p f = call_done As m _ p f.called (λ o outer c. (call_leads o outer c m).2)
done AfterAs m p f = call_done AfterAs m _ p f.called (λ o outer c. (call_leads o outer c m).3)
done BeforeTo m p (space, hs, r) =
    call_done BeforeTo m _ p r.called (λ o outer c. (call_leads o outer c m).4)
done To m p (none, n) =
    call_done To m _ p n.renames.called (λ o outer c. (call_leads o outer c m).5)
done AfterTo m p (behind, n) =
    call_done AfterTo m _ p n.renames.called (λ o outer c. (call_leads o outer c m).6)
done Close m p f = record {
  more = [];
  are = refl;
  end = record m { place = Close };
  taken = refl;
  place = refl;
  begun = omega arith;
  deepest = omega arith;
}

-- a machine that has passed no limit counts no more than they say
pub not_over : (m : Machine) → is_over m ≡ false
    → (m.deepest ≤ level_limit) × (m.begun ≤ call_limit)
not_over m h = (grind (arith, nat_tests), grind (arith, nat_tests))

-- what the machine takes is the front of some expression, within the limits if it is itself
pub viable : (front : List ℕ) (m : Machine) → scalars front ≡ true → go start front ≡ Some m
    → Viable (encode_utf8_all front) m
viable front m s h =
    let e = done m.place m front (fronts front m h) in
    let x = read_expression (front ++ e.more) e.end (scalars_append front e.more s e.are)
    (go_then start m front e.more _ h e.taken) e.place in
    let there = subst (λ t. IsExpression t x.tree) (encodes-append front e.more) x.expression in
    let deep : e.end.deepest ≡ levels x.tree = ap (λ (n : Machine). n.deepest) x.is in
    let many : e.end.begun ≡ calls x.tree = ap (λ (n : Machine). n.begun) x.is in (
      (encode_utf8_all e.more, x.tree, there),
      λ small. let k = not_over m small in (
        encode_utf8_all e.more,
        x.tree,
        there,
        (omega (arith, k.0, e.deepest, deep), omega (arith, k.1, e.begun, many)),
      ),
    )

-- a front of what goes on goes on
pub shorter : (front rest : List ℕ) → GoesOn (front ++ rest) → GoesOn front
shorter front rest (more, tree, x) =
    (rest ++ more, tree, subst (λ t. IsExpression t tree) (append_assoc front rest more) x)

-- within the limits too
pub shorter_fits : (front rest : List ℕ) → FitsOn (front ++ rest) → FitsOn front
shorter_fits front rest (more, tree, x, k) =
    (rest ++ more, tree, subst (λ t. IsExpression t tree) (append_assoc front rest more) x, k)

-- ---- fronts that don't

-- the characters of an expression that begins with those of a front
pub record GoesBehind (front : List ℕ) (m : Machine) (rest : List ℕ) (tree : CallTree) : Type 0 where
  pub others : List ℕ
  pub are : scalars (front ++ others) ≡ true
  pub printed : encode_utf8_all others ≡ rest
  pub taken : go m others ≡ Some (closed tree)

-- the machine that has taken the front takes the others
pub goes_behind : (front : List ℕ) (m : Machine) (rest : List ℕ) (tree : CallTree)
    → go start front ≡ Some m → IsExpression (encode_utf8_all front ++ rest) tree
    → GoesBehind front m rest tree
goes_behind front m rest tree h x =
    let r = expression_read _ tree x in
    let split = encodes_front front r.characters rest (sym r.printed) in
    record {
      others = split.0;
      are = subst (λ t. scalars t ≡ true) split.1 r.are;
      printed = split.2;
      taken = sym (go_then start m front split.0 (go m split.0) h refl)
          ∙ ap (go start) (sym split.1) ∙ r.taken;
    }

-- bytes behind which the machine refuses each character that they may begin
pub dead : (front : List ℕ) (m : Machine) (first : ℕ) (tail : List ℕ) → go start front ≡ Some m
    → ((d : ℕ) (rest more : List ℕ) → scalar d ≡ true
    → encode_utf8 d ++ rest ≡ (first ∷ tail) ++ more → step m d ≡ None)
    → ¬ (GoesOn (encode_utf8_all front ++ first ∷ tail))
dead front m first tail h refuses (more, tree, x) =
    let g = goes_behind front m ((first ∷ tail) ++ more) tree h
    (subst (λ t. IsExpression t tree)
    (append_assoc (encode_utf8_all front) (first ∷ tail) more) x) in
    by g.others g.are g.printed g.taken
  where
    by : (es : List ℕ) → scalars (front ++ es) ≡ true → encode_utf8_all es ≡ (first ∷ tail) ++ more
        → go m es ≡ Some (closed tree) → ⊥
    by [] are is taken = cc
    by (d ∷ es) are is taken =
        let stops : step m d ≡ None = refuses d (encode_utf8_all es) more
        (scalar_in front d es are) is in
        let none : go m (d ∷ es) ≡ None = rw stops refl in
        cc
