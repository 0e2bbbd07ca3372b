-- What stands next in a list, as it was laid out.
use Rattle.std.proofs.Common.{◌≡◌, ℕ, ◌<◌, List, [], ◌∷◌, ◌++◌, length, Bool, true, false}
use Rattle.std.proofs.Common.{Option, Some, None, refl, ap, sym, subst, ◌∙◌, append_assoc}
use Rattle.std.proofs.Common.{⊎_elim}
use Rattle.std.specs.Prelude.{◌==◌, if◌then◌else◌, nat_lt, ◌||◌, not, codes, bytes_eq}
use Rattle.std.proofs.lemmas.Bool.{eqb-true, or_from, or_cases, or_parts, and_parts, ltb-true}
use Rattle.std.proofs.lemmas.Bool.{not-true}
use Rattle.std.proofs.lemmas.Slice.Eq.{bytes_eq-Decides}
use Rattle.tuple_values.specs.Document.{ByteList}
use Rattle.query_syntax.specs.Letters.{is_blank, AreBlank, Letter, plain, escaped, letters_print}
use Rattle.query_syntax.specs.Letters.{letters_text, has_escape, is_sign, is_just, is_operator}
use Rattle.query_syntax.specs.Words.{IsWord, NoLetter}
use Rattle.query_syntax.specs.Tests.{star, test_print}
use Rattle.query_syntax.specs.Joints.{Modifier, plus, minus, bang, not_word, modifier_print}
use Rattle.query_syntax.specs.Joints.{modifier_role, ModifierEnds, plain_role, Conjunction}
use Rattle.query_syntax.specs.Joints.{and_word, and_signs, or_word, or_signs, conjunction_print}
use Rattle.query_syntax.specs.Joints.{is_and}
use Rattle.query_syntax.specs.Layout.{ClauseLayout, all_laid, field_laid, test_laid, clause_print}
use Rattle.query_syntax.specs.Layout.{clause_says, clause_levels, ClauseEnds, IsClause}
use Rattle.query_syntax.specs.Grammar.{level_limit}
use Rattle.query_syntax.specs.Machine.{Machine, ready, begin}
use Rattle.query_syntax.specs.Items.{end_name, close_in, join}
use Rattle.query_syntax.specs.Items.{open_plain}
use Rattle.query_syntax.specs.ItemSteps.{test_step, item_step, begin_item_step, begin_test}
use Rattle.query_syntax.specs.ItemSteps.{modify, close_step, star_step, bare_step}
use Rattle.query_syntax.specs.ItemSteps.{not_step, join_step, is_and_text, operator_step}
use Rattle.query_syntax.specs.ItemSteps.{negate}
use Rattle.query_syntax.specs.Reading.{whole}
use Rattle.query_syntax.specs.Tree.{WhatTree, everything, on_field, ClauseTree}
use Rattle.query_syntax.specs.declared.query.Role.{Role}
use Rattle.query_syntax.specs.declared.query.Role.TheVariants.{Required, Prohibited, Optional}
use Rattle.query_syntax.specs.declared.query.Test.TheVariants as test
use Rattle.query_syntax.specs.declared.open_lists.Outside.{Outside}
use Rattle.query_syntax.specs.declared.open_lists.Outside.TheVariants.{Same, Other}
use Rattle.query_syntax.specs.declared.open_lists.OpenList.{OpenList}
use Rattle.query_syntax.specs.declared.place.Stage.{Stage}
use Rattle.query_syntax.specs.declared.place.Stage.TheVariants.{First, Behind, Joined, Modified}
use Rattle.query_syntax.specs.declared.place.Kind.TheVariants.{Name, Word}
use Rattle.query_syntax.specs.declared.place.Place.TheVariants.{Star, Colon, Letters}
use Rattle.query_syntax.proofs.LetterLemmas.{at, fresh, after_letters}
use Rattle.query_syntax.proofs.SpanLemmas.{Asks, nowhere, either, only_true, span_begun}
use Rattle.query_syntax.proofs.SpanLemmas.{Stops, first_is}
use Rattle.query_syntax.proofs.CompleteLemmas.{MayModify, beside_last}
use Rattle.query_syntax.proofs.TestLemmas.{After, letters_after, step_after, after_step, after_none}
use Rattle.query_syntax.proofs.TestLemmas.{after_either, after_byte, begins_word, stops_letter}
use Rattle.query_syntax.proofs.TestLemmas.{word_part, quote_part, range_part, BarePart}
use Rattle.query_syntax.proofs.TestLemmas.{FieldPart, a_test, a_group, tested_sound}

-- ---- what may stand next

-- a list as far as it is read, and the role of its next item
pub record State : Type 0 where
  pub role : Role
  pub field : Option ByteList
  pub clauses : List ClauseTree
  pub outer : List OpenList

-- the machine there
abbrev pub ready_at : Stage → State → Machine
ready_at stage s = ready stage s.role s.field s.clauses s.outer

-- the machine behind a clause more
abbrev pub done_at : State → WhatTree → Machine
done_at s what =
    ready Behind Optional s.field (s.clauses ++ record { role = s.role; what = what } ∷ []) s.outer

-- the machine in a list that opens there
abbrev pub opened_at : State → Outside → Option ByteList → Machine
opened_at s outside field =
    ready First Optional field []
    (record { role = s.role; clauses = s.clauses; outside = outside } ∷ s.outer)

-- it stands behind an item
abbrev pub IsBehind : Stage → Type 0
IsBehind First = ⊥
IsBehind Behind = Unit {0}
IsBehind Joined = ⊥
IsBehind Modified = ⊥

-- a clause begins: one without parentheses, or a list opens
pub data Starts (s : State) (bytes : ByteList) (end : List ClauseTree) : Type 0 where
  leaf : (c : ClauseLayout) (rest : ByteList) → IsClause s.field c → clause_levels c ≡ 0
      → ClauseEnds c rest → bytes ≡ clause_print c ++ rest
      → Asks (Some (done_at s (clause_says s.field c))) rest end → Starts s bytes end
  opens : (rest : ByteList) → length s.outer < level_limit → bytes ≡ 40 ∷ rest
      → Asks (Some (opened_at s Same s.field)) rest end → Starts s bytes end
  opens_group : (name : List Letter) (gap rest : ByteList) → IsWord name → AreBlank gap
      → length s.outer < level_limit → bytes ≡ letters_print name ++ 58 ∷ (gap ++ 40 ∷ rest)
      → Asks (Some (opened_at s (Other s.field) (Some (letters_text name)))) rest end
      → Starts s bytes end

-- a clause, a modifier, a conjunction, a closing parenthesis or the end
pub data Token (stage : Stage) (s : State) (bytes : ByteList) (end : List ClauseTree)
    : Type 0 where
  clause : Starts s bytes end → Token stage s bytes end
  modifies : (m : Modifier) (rest : ByteList) → MayModify stage → ModifierEnds m rest
      → bytes ≡ modifier_print m ++ rest
      → Asks (Some (ready Modified (modifier_role m) s.field s.clauses s.outer)) rest end
      → Token stage s bytes end
  joins : (c : Conjunction) (rest : ByteList) → IsBehind stage → NoLetter rest
      → bytes ≡ conjunction_print c ++ rest
      → Asks (Some (ready Joined (plain_role (is_and c)) s.field
      (beside_last (is_and c) s.clauses) s.outer)) rest end
      → Token stage s bytes end
  closes : (rest : ByteList) → IsBehind stage → bytes ≡ 41 ∷ rest
      → Asks (close_in s.outer (ready_at Behind s)) rest end → Token stage s bytes end
  ends : IsBehind stage → bytes ≡ [] → whole s.outer s.clauses ≡ Some end
      → Token stage s bytes end

-- it stands behind blanks
pub record Next (stage : Stage) (s : State) (bytes : ByteList) (end : List ClauseTree)
    : Type 0 where
  pub gap : ByteList
  pub rest : ByteList
  pub blank : AreBlank gap
  pub is : bytes ≡ gap ++ rest
  pub token : Token stage s rest end

-- ---- operators

-- an operator is `NOT` or a conjunction
data OperatorText (text : ByteList) : Type 0 where
  negates : text ≡ codes "NOT" → OperatorText text
  conjoins : (c : Conjunction) → text ≡ conjunction_print c → OperatorText text

-- a text that is just another is that, without escapes
just_parts : (wanted : ByteList) (escapes : Bool) (text : ByteList)
    → is_just wanted escapes text ≡ true → (escapes ≡ false) × (text ≡ wanted)
just_parts wanted escapes text is =
    let two = and_parts (not escapes) (bytes_eq text wanted) is in
    (not-true escapes two.0, (bytes_eq-Decides text wanted).0 two.1)

-- so an operator has no escapes
operator_parts : (escapes : Bool) (text : ByteList) → is_operator escapes text ≡ true
    → (escapes ≡ false) × OperatorText text
unfolding is_operator
operator_parts escapes text is =
    let just = λ (wanted : ByteList) (h : is_just wanted escapes text ≡ true).
    just_parts wanted escapes text h in
    ⊎_elim
    (λ a. ⊎_elim
    (λ b. ⊎_elim
    (λ d. ⊎_elim
    (λ e. let p = just (codes "AND") e in (p.0, conjoins and_word p.1))
    (λ e. let p = just (codes "OR") e in (p.0, conjoins or_word p.1))
    (or_cases _ _ d))
    (λ d. let p = just (codes "NOT") d in (p.0, negates p.1))
    (or_cases _ _ b))
    (λ b. let p = just (codes "&&") b in (p.0, conjoins and_signs p.1))
    (or_cases _ _ a))
    (λ a. let p = just (codes "||") a in (p.0, conjoins or_signs p.1))
    (or_cases _ _ is)

-- letters without escapes are their text
plain_print : (letters : List Letter) → has_escape letters ≡ false
    → letters_print letters ≡ letters_text letters
plain_print [] none = refl
plain_print (plain b ∷ letters) none =
    ap (λ (t : ByteList). b ∷ t) (plain_print letters none)
plain_print (escaped b ∷ letters) none = cc

-- behind `NOT` the item is prohibited, if it has no other modifier
not_token : (stage : Stage) (s : State) (n : Machine) (bytes rest : ByteList)
    (end : List ClauseTree) → bytes ≡ codes "NOT" ++ rest → NoLetter rest
    → n ≡ ready Modified Prohibited s.field s.clauses s.outer
    → After (λ b. not_step stage n b (b ∷ [])) rest end → Token stage s bytes end
not_token First s n bytes rest end is l same h =
    modifies not_word rest tt l is
    (after_step (ready Modified Prohibited s.field s.clauses s.outer) rest end
    (subst (λ (m : Machine). After (λ b. item_step Modified m b (b ∷ [])) rest end) same h))
not_token Behind s n bytes rest end is l same h =
    modifies not_word rest tt l is
    (after_step (ready Modified Prohibited s.field s.clauses s.outer) rest end
    (subst (λ (m : Machine). After (λ b. item_step Modified m b (b ∷ [])) rest end) same h))
not_token Joined s n bytes rest end is l same h =
    modifies not_word rest tt l is
    (after_step (ready Modified Prohibited s.field s.clauses s.outer) rest end
    (subst (λ (m : Machine). After (λ b. item_step Modified m b (b ∷ [])) rest end) same h))
not_token Modified s n bytes rest end is l same h = after_none rest end h

-- the text of a conjunction is that of an `AND` exactly where it is one
and_text : (c : Conjunction) → is_and_text (conjunction_print c) ≡ is_and c
and_text and_word = refl
and_text and_signs = refl
and_text or_word = refl
and_text or_signs = refl

-- none is `NOT`
no_not : (c : Conjunction) → bytes_eq (conjunction_print c) (codes "NOT") ≡ false
no_not and_word = refl
no_not and_signs = refl
no_not or_word = refl
no_not or_signs = refl

-- a conjunction that is read leaves the last clause beside it
join_is : (and : Bool) (s : State) (letters : List Letter)
    → join and (after_letters (Name Behind) (fresh (ready_at Behind s)) letters)
    ≡ ready Joined (plain_role and) s.field (beside_last and s.clauses) s.outer
join_is true s letters = refl
join_is false s letters = refl

-- behind a conjunction the next item begins
join_token : (stage : Stage) (s : State) (letters : List Letter) (c : Conjunction)
    (bytes rest : ByteList) (end : List ClauseTree) → bytes ≡ conjunction_print c ++ rest
    → NoLetter rest
    → After (λ b. join_step stage (is_and c)
    (after_letters (Name stage) (fresh (ready_at stage s)) letters) b (b ∷ [])) rest end
    → Token stage s bytes end
join_token First s letters c bytes rest end is l h = after_none rest end h
join_token Behind s letters c bytes rest end is l h =
    let next = ready Joined (plain_role (is_and c)) s.field (beside_last (is_and c) s.clauses)
    s.outer in
    joins c rest tt l is
    (after_step next rest end
    (subst (λ (m : Machine). After (λ b. item_step Joined m b (b ∷ [])) rest end)
    (join_is (is_and c) s letters) h))
join_token Joined s letters c bytes rest end is l h = after_none rest end h
join_token Modified s letters c bytes rest end is l h = after_none rest end h

-- an operator, whose letters are read
operator_by : (stage : Stage) (s : State) (letters : List Letter) (bytes rest : ByteList)
    (end : List ClauseTree) → bytes ≡ letters_text letters ++ rest → NoLetter rest
    → OperatorText (letters_text letters)
    → After (λ b. operator_step stage
    (after_letters (Name stage) (fresh (ready_at stage s)) letters) b (b ∷ [])) rest end
    → Token stage s bytes end
operator_by stage s letters bytes rest end is l (negates text) h =
    let last = after_letters (Name stage) (fresh (ready_at stage s)) letters in
    after_either (bytes_eq (letters_text letters) (codes "NOT"))
    (λ b. not_step stage (negate last) b (b ∷ []))
    (λ b. join_step stage (is_and_text (letters_text letters)) last b (b ∷ [])) rest end
    (λ _ g. not_token stage s (negate last) bytes rest end (is ∙ ap (λ t. t ++ rest) text) l refl g)
    (λ other g. let none : bytes_eq (codes "NOT") (codes "NOT") ≡ false =
    subst (λ t. bytes_eq t (codes "NOT") ≡ false) text other in cc) h
operator_by stage s letters bytes rest end is l (conjoins c text) h =
    let last = after_letters (Name stage) (fresh (ready_at stage s)) letters in
    let and : is_and_text (letters_text letters) ≡ is_and c = ap is_and_text text ∙ and_text c in
    after_either (bytes_eq (letters_text letters) (codes "NOT"))
    (λ b. not_step stage (negate last) b (b ∷ []))
    (λ b. join_step stage (is_and_text (letters_text letters)) last b (b ∷ [])) rest end
    (λ same g. let none = ap (λ t. bytes_eq t (codes "NOT")) text ∙ no_not c in cc)
    (λ _ g. join_token stage s letters c bytes rest end (is ∙ ap (λ t. t ++ rest) text) l
    (subst (λ (x : Bool). After (λ b. join_step stage x last b (b ∷ [])) rest end) and g)) h

-- ---- tests without a field

-- one, whose parts are read
bare_leaf : (s : State) (field bytes : ByteList) (end : List ClauseTree)
    → BarePart (record (ready_at First (record s { field = Some field })) { name = field }) bytes
    end → Starts (record s { field = Some field }) bytes end
bare_leaf s field bytes end p =
    leaf (test_laid p.part.test) p.part.rest (tt, p.part.allowed, p.unsigned) refl p.part.ends
    p.part.is p.part.reads

-- a word
bare_word : (field : Option ByteList) (stage : Stage) (s : State) (letters : List Letter)
    (bytes rest : ByteList) (end : List ClauseTree) → IsWord letters
    → bytes ≡ letters_print letters ++ rest → Stops Word rest
    → After (λ b. bare_step field (after_letters (Name stage)
    (fresh (ready_at stage (record s { field = field }))) letters) b (b ∷ [])) rest end
    → Starts (record s { field = field }) bytes end
bare_word None stage s letters bytes rest end allowed is stops h = after_none rest end h
bare_word (Some field) stage s letters bytes rest end allowed is stops h =
    bare_leaf s field bytes end
    (word_part (record (ready_at First (record s { field = Some field })) { name = field })
    (Letters (Name stage)) (has_escape letters) letters bytes rest end allowed is stops h)

-- a star
bare_star : (field : Option ByteList) (s : State) (rest : ByteList) (end : List ClauseTree)
    → After (λ b. star_step field (at Star (ready_at First (record s { field = field }))) b
    (b ∷ [])) rest end → Starts (record s { field = field }) (42 ∷ rest) end
bare_star None s rest end h = after_none rest end h
bare_star (Some field) s rest end h =
    leaf (test_laid star) rest (tt, tt, tt) refl tt refl
    (after_step (done_at (record s { field = Some field }) (on_field field test.Present)) rest end
    h)

-- a quoted text
bare_quote : (field : Option ByteList) (stage : Stage) (s : State) (bytes : ByteList)
    (end : List ClauseTree)
    → Asks (begin_test field (ready_at stage (record s { field = field })) 34 (34 ∷ [])) bytes end
    → Starts (record s { field = field }) (34 ∷ bytes) end
unfolding test_step
bare_quote None stage s bytes end h = nowhere bytes end h
bare_quote (Some field) stage s bytes end h =
    bare_leaf s field (34 ∷ bytes) end
    (quote_part (record (ready_at First (record s { field = Some field })) { name = field }) bytes
    end h)

-- a range that includes its lower bound
bare_bracket : (field : Option ByteList) (stage : Stage) (s : State) (bytes : ByteList)
    (end : List ClauseTree)
    → Asks (begin_test field (ready_at stage (record s { field = field })) 91 (91 ∷ [])) bytes end
    → Starts (record s { field = field }) (91 ∷ bytes) end
unfolding test_step
bare_bracket None stage s bytes end h = nowhere bytes end h
bare_bracket (Some field) stage s bytes end h =
    bare_leaf s field (91 ∷ bytes) end
    (range_part (record (ready_at First (record s { field = Some field })) { name = field }) true 91
    bytes end refl h)

-- one that doesn't
bare_brace : (field : Option ByteList) (stage : Stage) (s : State) (bytes : ByteList)
    (end : List ClauseTree)
    → Asks (begin_test field (ready_at stage (record s { field = field })) 123 (123 ∷ [])) bytes
    end → Starts (record s { field = field }) (123 ∷ bytes) end
unfolding test_step
bare_brace None stage s bytes end h = nowhere bytes end h
bare_brace (Some field) stage s bytes end h =
    bare_leaf s field (123 ∷ bytes) end
    (range_part (record (ready_at First (record s { field = Some field })) { name = field }) false
    123 bytes end refl h)

-- a quote or a bracket
bare_mark : (stage : Stage) (s : State) (b : ℕ) (bytes : ByteList) (end : List ClauseTree)
    → (b == 34 || b == 91 || b == 123) ≡ true
    → Asks (begin_test s.field (ready_at stage s) b (b ∷ [])) bytes end
    → Starts s (b ∷ bytes) end
bare_mark stage s b bytes end is h =
    let at_byte = λ (n : ℕ) (same : b ≡ n).
    subst (λ (x : ℕ). Asks (begin_test s.field (ready_at stage s) x (x ∷ [])) bytes end) same h in
    let back = λ (n : ℕ) (same : b ≡ n) (t : Starts s (n ∷ bytes) end).
    subst (λ (x : ℕ). Starts s (x ∷ bytes) end) (sym same) t in
    ⊎_elim
    (λ a. ⊎_elim
    (λ d. let same = eqb-true b 34 d in
    back 34 same (bare_quote s.field stage s bytes end (at_byte 34 same)))
    (λ d. let same = eqb-true b 91 d in
    back 91 same (bare_bracket s.field stage s bytes end (at_byte 91 same)))
    (or_cases (b == 34) (b == 91) a))
    (λ a. let same = eqb-true b 123 a in
    back 123 same (bare_brace s.field stage s bytes end (at_byte 123 same)))
    (or_cases (b == 34 || b == 91) (b == 123) is)

-- ---- words and stars before an item

-- a name with its colon
name_by : (s : State) (letters : List Letter) (stage : Stage) (bytes more : ByteList)
    (end : List ClauseTree) → IsWord letters → bytes ≡ letters_print letters ++ 58 ∷ more
    → Asks (Some (end_name (after_letters (Name stage) (fresh (ready_at stage s)) letters))) more
    end → Starts s bytes end
name_by s letters stage bytes more end allowed is h =
    let named = end_name (after_letters (Name stage) (fresh (ready_at stage s)) letters) in
    let p = tested_sound named more end h in
    let whole = is ∙ ap (λ t. letters_print letters ++ 58 ∷ t) p.is in
    by p.gap p.rest p.blank whole p.part
  where
    by : (gap rest : ByteList) → AreBlank gap
        → bytes ≡ letters_print letters ++ 58 ∷ (gap ++ rest)
        → FieldPart (end_name (after_letters (Name stage) (fresh (ready_at stage s)) letters)) rest
        end → Starts s bytes end
    by gap rest blank whole (a_test t) =
        leaf (field_laid letters gap t.test) t.rest (allowed, blank, t.allowed) refl t.ends
        (whole ∙ ap (λ x. letters_print letters ++ 58 ∷ (gap ++ x)) t.is
        ∙ ap (λ x. letters_print letters ++ 58 ∷ x)
        (sym (append_assoc gap (test_print t.test) t.rest))
        ∙ sym (append_assoc (letters_print letters) (58 ∷ (gap ++ test_print t.test)) t.rest))
        t.reads
    by gap rest blank whole (a_group g) =
        opens_group letters gap g.rest allowed blank g.room
        (whole ∙ ap (λ x. letters_print letters ++ 58 ∷ (gap ++ x)) g.is) g.reads

-- letters before an item
letters_by : (stage : Stage) (s : State) (b : ℕ) (bytes : ByteList) (end : List ClauseTree)
    → is_sign b ≡ false → Asks (begin (Name stage) (ready_at stage s) b (b ∷ [])) bytes end
    → Token stage s (b ∷ bytes) end
letters_by stage s b bytes end sign h =
    let g = span_begun (Name stage) (ready_at stage s) b bytes end h in
    let p = g.letters in
    let last = after_letters (Name stage) (fresh (ready_at stage s)) p.letters in
    let begins = begins_word b p.letters
    (first_is (Name stage) b bytes p.letters p.rest g.taken p.is p.stops) sign in
    let stops = name_stops p.rest p.stops in
    after_either (is_operator (has_escape p.letters) (letters_text p.letters))
    (λ d. operator_step stage last d (d ∷ []))
    (λ d. if d == 58 then Some (end_name last) else bare_step s.field last d (d ∷ [])) p.rest end
    (λ is k. let parts = operator_parts (has_escape p.letters) (letters_text p.letters) is in
    operator_by stage s p.letters (b ∷ bytes) p.rest end
    (p.is ∙ ap (λ t. t ++ p.rest) (plain_print p.letters parts.0)) (stops_letter p.rest stops)
    parts.1 k)
    (λ whole k.
    let allowed : IsWord p.letters =
    record { are_letters = p.are; begins = begins; no_operator = whole } in
    after_byte 58 (λ d. Some (end_name last)) (λ d. bare_step s.field last d (d ∷ [])) p.rest end
    refl
    (λ more first l. clause (name_by s p.letters stage (b ∷ bytes) more end allowed
    (p.is ∙ ap (λ t. letters_print p.letters ++ t) first) l))
    (λ _ l. clause
    (bare_word s.field stage s p.letters (b ∷ bytes) p.rest end allowed p.is stops l)) k)
    (letters_after (Name stage) last p.rest end refl p.stops p.reads)
  where
    name_stops : (rest : ByteList) → Stops (Name stage) rest → Stops Word rest
    name_stops [] stops = tt
    name_stops (d ∷ rest) stops = stops

-- the last star of `*:*`
colon_by : (s : State) (bytes : ByteList) (end : List ClauseTree)
    → Asks (Some (at Colon (ready_at First s))) bytes end → Starts s (42 ∷ 58 ∷ bytes) end
colon_by s [] end h = absurd cc
colon_by s (b ∷ bytes) end h =
    only_true (b == 42) (Some (done_at s everything)) bytes end
    (λ is g. leaf all_laid bytes tt refl tt (ap (λ x. 42 ∷ 58 ∷ x ∷ bytes) (eqb-true b 42 is)) g) h

-- a star before an item
star_by : (s : State) (bytes : ByteList) (end : List ClauseTree)
    → Asks (Some (at Star (ready_at First s))) bytes end → Starts s (42 ∷ bytes) end
star_by s bytes end h =
    let m = at Star (ready_at First s) in
    after_byte 58 (λ d. Some (at Colon (ready_at First s))) (λ d. star_step s.field m d (d ∷ []))
    bytes end refl
    (λ more first k. subst (λ t. Starts s (42 ∷ t) end) (sym first) (colon_by s more end k))
    (λ _ k. bare_star s.field s bytes end k)
    (step_after m bytes end h)

-- ---- the byte before an item, or behind it

-- a modifier
modify_by : (stage : Stage) (s : State) (m : Modifier) (rest : ByteList) (end : List ClauseTree)
    → ModifierEnds m rest
    → Asks (modify stage (modifier_role m) (ready_at stage s)) rest end
    → Token stage s (modifier_print m ++ rest) end
modify_by First s m rest end apart h = modifies m rest tt apart refl h
modify_by Behind s m rest end apart h = modifies m rest tt apart refl h
modify_by Joined s m rest end apart h = modifies m rest tt apart refl h
modify_by Modified s m rest end apart h = nowhere rest end h

-- a closing parenthesis
close_by : (stage : Stage) (s : State) (rest : ByteList) (end : List ClauseTree)
    → Asks (close_step stage (ready_at stage s)) rest end → Token stage s (41 ∷ rest) end
close_by First s rest end h = nowhere rest end h
close_by Behind s rest end h = closes rest tt refl h
close_by Joined s rest end h = nowhere rest end h
close_by Modified s rest end h = nowhere rest end h

-- the end
end_by : (stage : Stage) (s : State) (end : List ClauseTree)
    → Asks (Some (ready_at stage s)) [] end → Token stage s [] end
unfolding item_step
end_by First s end h = absurd cc
end_by Behind s end h = ends tt refl h
end_by Joined s end h = absurd cc
end_by Modified s end h = absurd cc

-- an opening parenthesis
open_by : (s : State) (stage : Stage) (rest : ByteList) (end : List ClauseTree)
    → Asks (open_plain (ready_at stage s)) rest end → Starts s (40 ∷ rest) end
open_by s stage rest end h =
    only_true (nat_lt (length s.outer) level_limit) (Some (opened_at s Same s.field)) rest end
    (λ room g. opens rest (ltb-true (length s.outer) level_limit room) refl g) h

-- a byte at which no list opens or closes
begin_by : (stage : Stage) (s : State) (b : ℕ) (bytes : ByteList) (end : List ClauseTree)
    → Asks (begin_item_step stage (ready_at stage s) b (b ∷ [])) bytes end
    → Token stage s (b ∷ bytes) end
unfolding begin_item_step
begin_by stage s b bytes end h =
    let m = ready_at stage s in
    let letters = begin (Name stage) m b (b ∷ []) in
    let tests =
    if b == 34 || b == 91 || b == 123 then begin_test s.field m b (b ∷ []) else letters in
    let stars = if b == 42 then Some (at Star m) else tests in
    let pluses = if b == 43 then modify stage Required m else stars in
    either (b == 33 || b == 45) (modify stage Prohibited m) pluses bytes end
    (λ is g. ⊎_elim
    (λ bangs. subst (λ (x : ℕ). Token stage s (x ∷ bytes) end) (sym (eqb-true b 33 bangs))
    (modify_by stage s bang bytes end tt g))
    (λ minuses. subst (λ (x : ℕ). Token stage s (x ∷ bytes) end) (sym (eqb-true b 45 minuses))
    (modify_by stage s minus bytes end tt g))
    (or_cases (b == 33) (b == 45) is))
    (λ other g. let minuses = (or_parts (b == 33) (b == 45) other).1 in
    either (b == 43) (modify stage Required m) stars bytes end
    (λ is k. subst (λ (x : ℕ). Token stage s (x ∷ bytes) end) (sym (eqb-true b 43 is))
    (modify_by stage s plus bytes end tt k))
    (λ pluses k. either (b == 42) (Some (at Star m)) tests bytes end
    (λ is l. subst (λ (x : ℕ). Token stage s (x ∷ bytes) end) (sym (eqb-true b 42 is))
    (clause (star_by s bytes end l)))
    (λ _ l. either (b == 34 || b == 91 || b == 123) (begin_test s.field m b (b ∷ [])) letters bytes
    end
    (λ is n. clause (bare_mark stage s b bytes end is n))
    (λ _ n. letters_by stage s b bytes end (or_from (b == 43) (b == 45) pluses minuses) n) l) k)
    g) h

-- what stands next is read as it was laid out
pub next_sound : (stage : Stage) (s : State) (bytes : ByteList) (end : List ClauseTree)
    → Asks (Some (ready_at stage s)) bytes end → Next stage s bytes end
unfolding item_step
next_sound stage s [] end h = record {
  gap = [];
  rest = [];
  blank = tt;
  is = refl;
  token = end_by stage s end h;
}
next_sound stage s (b ∷ bytes) end h =
    let m = ready_at stage s in
    let begins = begin_item_step stage m b (b ∷ []) in
    let closing = if b == 41 then close_step stage m else begins in
    let here = λ (t : Token stage s (b ∷ bytes) end). next_here stage s (b ∷ bytes) end t in
    either (is_blank b) (Some m) (if b == 40 then open_plain m else closing) bytes end
    (λ blank g. let p = next_sound stage s bytes end g in record {
      gap = b ∷ p.gap;
      rest = p.rest;
      blank = (blank, p.blank);
      is = ap (λ t. b ∷ t) p.is;
      token = p.token;
    })
    (λ _ g. either (b == 40) (open_plain m) closing bytes end
    (λ is k. here (subst (λ (x : ℕ). Token stage s (x ∷ bytes) end) (sym (eqb-true b 40 is))
    (clause (open_by s stage bytes end k))))
    (λ _ k. either (b == 41) (close_step stage m) begins bytes end
    (λ is l. here (subst (λ (x : ℕ). Token stage s (x ∷ bytes) end) (sym (eqb-true b 41 is))
    (close_by stage s bytes end l)))
    (λ _ l. here (begin_by stage s b bytes end l)) k) g) h
  where
    next_here : (stage : Stage) (s : State) (bytes : ByteList) (end : List ClauseTree)
        → Token stage s bytes end → Next stage s bytes end
    next_here stage s bytes end t = record {
      gap = [];
      rest = bytes;
      blank = tt;
      is = refl;
      token = t;
    }
