-- What is laid out as a list is read as what it says.
use Rattle.std.proofs.Common.{◌≡◌, ℕ, ◌+◌, ◌<◌, ◌≤◌, length, List, [], ◌∷◌, ◌++◌, Bool}
use Rattle.std.proofs.Common.{true, false, Option, Some, None, refl, ap, sym, ◌∙◌, append_assoc}
use Rattle.std.proofs.Common.{subst, arith, length-append, append-nil}
use Rattle.std.specs.Prelude.{◌==◌, ◌||◌}
use Rattle.std.proofs.lemmas.Bool.{or_parts, eqb-true, lt-ltb}
use Rattle.tuple_values.specs.Document.{ByteList}
use Rattle.query_syntax.specs.Letters.{is_blank, AreBlank, is_word_byte, is_special}
use Rattle.query_syntax.specs.Letters.{Letter, plain, escaped, AreLetters, letters_print}
use Rattle.query_syntax.specs.Letters.{letters_text, is_operator}
use Rattle.query_syntax.specs.Words.{IsWord, BeginsWord, quoted_print, goes_on_word, NoLetter}
use Rattle.query_syntax.specs.Ranges.{opening}
use Rattle.query_syntax.specs.Tests.{TestLayout, word, prefix, number, quote, star, range}
use Rattle.query_syntax.specs.Tests.{test_print, IsTest, test_says, IsUnsigned, NoStar, TestEnds}
use Rattle.query_syntax.specs.Joints.{Modifier, plus, minus, bang, not_word, modifier_print}
use Rattle.query_syntax.specs.Joints.{modifier_role, ModifierEnds, plain_role, Conjunction}
use Rattle.query_syntax.specs.Joints.{and_word, and_signs, or_word, or_signs, conjunction_print}
use Rattle.query_syntax.specs.Joints.{is_and, JointLayout, apart, joined, joint_print}
use Rattle.query_syntax.specs.Joints.{IsJoint}
use Rattle.query_syntax.specs.Layout.{ClauseLayout, all_laid, field_laid, test_laid, group_laid}
use Rattle.query_syntax.specs.Layout.{field_group_laid, ItemLayout, plain_laid, modified_laid}
use Rattle.query_syntax.specs.Layout.{ListLayout, last_laid, more_laid, clause_print, item_print}
use Rattle.query_syntax.specs.Layout.{list_print, item_role, clause_says, item_says, list_says}
use Rattle.query_syntax.specs.Layout.{clause_levels, item_levels, list_levels, ClauseEnds}
use Rattle.query_syntax.specs.Layout.{ItemEnds, IsClause, IsItem, AreItems}
use Rattle.query_syntax.specs.Grammar.{IsQuery, level_limit}
use Rattle.query_syntax.specs.Machine.{Machine, ready, start, begin}
use Rattle.query_syntax.specs.Items.{end_name, end_test}
use Rattle.query_syntax.specs.Items.{role_beside, require_last, outer_field}
use Rattle.query_syntax.specs.Steps.{step}
use Rattle.query_syntax.specs.ItemSteps.{test_step, item_step, begin_item_step}
use Rattle.query_syntax.specs.Reading.{run, asks, query_of}
use Rattle.query_syntax.specs.Tree.{everything, on_field, nested, ClauseTree, trees_of}
use Rattle.query_syntax.specs.declared.query.Role.{Role}
use Rattle.query_syntax.specs.declared.query.Role.TheVariants.{Prohibited, Optional}
use Rattle.query_syntax.specs.declared.query.Test.{Test}
use Rattle.query_syntax.specs.declared.query.Test.TheVariants as test
use Rattle.query_syntax.specs.declared.open_lists.Outside.{Outside}
use Rattle.query_syntax.specs.declared.open_lists.Outside.TheVariants.{Same, Other}
use Rattle.query_syntax.specs.declared.open_lists.OpenList.{OpenList}
use Rattle.query_syntax.specs.declared.place.Stage.{Stage}
use Rattle.query_syntax.specs.declared.place.Stage.TheVariants.{First, Behind, Joined, Modified}
use Rattle.query_syntax.specs.declared.place.Kind.TheVariants.{Name}
use Rattle.query_syntax.specs.declared.place.Place.TheVariants.{Item, Star, Letters, Tested}
use Rattle.query_syntax.proofs.ClassLemmas.{other, star_no_word, colon_no_word, star_none}
use Rattle.query_syntax.proofs.ClauseLemmas.{require_last-append}
use Rattle.query_syntax.proofs.ClassLemmas.{open_none, close_none, bang_none}
use Rattle.query_syntax.proofs.ClassLemmas.{quote_none, bracket_none, brace_none, word_no_blank}
use Rattle.query_syntax.proofs.LetterLemmas.{at, fresh, after_letters, first_byte, run-blanks}
use Rattle.query_syntax.proofs.LetterLemmas.{run-begun}
use Rattle.query_syntax.proofs.SpanLemmas.{Asks, nowhere}
use Rattle.query_syntax.proofs.LaidTestLemmas.{ends_alike, asks-test}
use Rattle.query_syntax.proofs.EndsLemmas.{Closes, no_letter_more, no_letter_some, blanks_letter}
use Rattle.query_syntax.proofs.EndsLemmas.{blanks_star, no_star_more, closes_letter, closes_star}
use Rattle.query_syntax.proofs.EndsLemmas.{item_ends_more}
use Rattle.query_syntax.proofs.EndsLemmas.{item_ends_by, clause_some}

-- the bytes lead from one machine to another and what is left, whatever the end
abbrev pub Leads : Machine → ByteList → Machine → ByteList → Type 0
Leads m bytes n more =
    (clauses : List ClauseTree) → Asks (Some n) more clauses → Asks (Some m) bytes clauses

-- by a run
leads_by : (m n : Machine) (bytes more : ByteList) → run (Some m) bytes ≡ run (Some n) more
    → Leads m bytes n more
leads_by m n bytes more is = λ clauses h. ap asks is ∙ h

-- by what is asked for
leads_alike : (m n : Machine) (bytes more : ByteList)
    → asks (run (Some m) bytes) ≡ asks (run (Some n) more) → Leads m bytes n more
leads_alike m n bytes more is = λ clauses h. is ∙ h

-- ---- items

-- blanks before an item and behind one
pub item_blank : (stage : Stage) (role : Role) (field : Option ByteList)
    (cs : List ClauseTree) (outer : List OpenList) (b : ℕ) → is_blank b ≡ true
    → step (ready stage role field cs outer) b (b ∷ []) ≡ Some (ready stage role field cs outer)
unfolding item_step
item_blank stage role field cs outer b is = rw is refl

-- they are passed over
run-gap : (stage : Stage) (role : Role) (field : Option ByteList) (cs : List ClauseTree)
    (outer : List OpenList) (gap more : ByteList) → AreBlank gap
    → run (Some (ready stage role field cs outer)) (gap ++ more)
    ≡ run (Some (ready stage role field cs outer)) more
run-gap stage role field cs outer gap more blank =
    run-blanks (ready stage role field cs outer) gap more (item_blank stage role field cs outer)
    blank

-- letters of a word begin where an item may
name_begins : (stage : Stage) (m : Machine) (letter : Letter) (letters : List Letter)
    → AreLetters is_word_byte (letter ∷ letters) → BeginsWord (letter ∷ letters)
    → step (at (Item stage) m) (first_byte letter) (first_byte letter ∷ [])
    ≡ begin (Name stage) (at (Item stage) m) (first_byte letter) (first_byte letter ∷ [])
unfolding item_step begin_item_step
name_begins stage m (plain b) letters are begins =
    let signs = or_parts (b == 43) (b == 45) begins in
    rw (
      word_no_blank b are.0,
      other is_word_byte 40 b open_none are.0,
      other is_word_byte 41 b close_none are.0,
      other is_word_byte 33 b bang_none are.0,
      signs.1,
      signs.0,
      other is_word_byte 42 b star_none are.0,
      other is_word_byte 34 b quote_none are.0,
      other is_word_byte 91 b bracket_none are.0,
      other is_word_byte 123 b brace_none are.0,
    ) refl
name_begins stage m (escaped b) letters are begins = refl

-- they are read
run-letters-begun : (stage : Stage) (m : Machine) (letters : List Letter) (more : ByteList)
    → IsWord letters
    → run (Some (at (Item stage) m)) (letters_print letters ++ more)
    ≡ run (Some (after_letters (Name stage) (fresh m) letters)) more
run-letters-begun stage m [] more allowed = absurd allowed.begins
run-letters-begun stage m (letter ∷ letters) more allowed =
    run-begun (Name stage) (at (Item stage) m) letter letters more
    (name_begins stage m letter letters allowed.are_letters allowed.begins) allowed.are_letters

-- a colon behind a name
name_colon : (stage : Stage) (m : Machine) → is_operator m.escapes m.text ≡ false
    → step (at (Letters (Name stage)) m) 58 (58 ∷ []) ≡ Some (end_name m)
name_colon stage m whole = rw (colon_no_word, whole) refl

-- a name with its colon is read
run-name : (stage : Stage) (m : Machine) (letters : List Letter) (more : ByteList)
    → IsWord letters
    → run (Some (at (Item stage) m)) (letters_print letters ++ 58 ∷ more)
    ≡ run (Some (end_name (after_letters (Name stage) (fresh m) letters))) more
run-name stage m letters more allowed =
    run-letters-begun stage m letters (58 ∷ more) allowed
    ∙ ap (λ o. run o more)
    (name_colon stage (after_letters (Name stage) (fresh m) letters) allowed.no_operator)

-- blanks behind the colon
tested_blank : (m : Machine) (b : ℕ) → is_blank b ≡ true
    → step (at Tested m) b (b ∷ []) ≡ Some (at Tested m)
unfolding test_step
tested_blank m b is = rw is refl

-- ---- tests without a field

-- a colon stands behind no item
no_colon : (role : Role) (field : Option ByteList) (cs : List ClauseTree) (outer : List OpenList)
    → step (ready Behind role field cs outer) 58 (58 ∷ []) ≡ None
unfolding item_step begin_item_step is_special
no_colon role field cs outer = refl

-- where each other byte leads on alike, all bytes do
ends_colon : (m : Machine) (role : Role) (field : Option ByteList) (cs : List ClauseTree)
    (outer : List OpenList) (b : ℕ) (more : ByteList)
    → ((b == 58) ≡ false
    → step m b (b ∷ []) ≡ step (ready Behind role field cs outer) b (b ∷ []))
    → Leads m (b ∷ more) (ready Behind role field cs outer) (b ∷ more)
ends_colon m role field cs outer b more same = λ clauses h. by clauses h (b == 58) refl
  where
    by : (clauses : List ClauseTree)
        → Asks (Some (ready Behind role field cs outer)) (b ∷ more) clauses → (t : Bool)
        → (b == 58) ≡ t → Asks (Some m) (b ∷ more) clauses
    by clauses h true is =
        let colon = subst
        (λ (x : ℕ). Asks (step (ready Behind role field cs outer) x (x ∷ [])) more clauses)
        (eqb-true b 58 is) h in
        nowhere more clauses
        (subst (λ o. Asks o more clauses) (no_colon role field cs outer) colon)
    by clauses h false is = ap (λ o. asks (run o more)) (same is) ∙ h

-- what is read behind a test without a field
abbrev bare_read : Role → ByteList → List ClauseTree → List OpenList → Test → Machine
bare_read role field cs outer t =
    ready Behind Optional (Some field) (cs ++ record { role = role; what = on_field field t } ∷ [])
    outer

-- a word
word_ends : (stage : Stage) (role : Role) (field : ByteList) (cs : List ClauseTree)
    (outer : List OpenList) (letters : List Letter) (more : ByteList) → IsWord letters
    → NoLetter more → NoStar more
    → Leads (after_letters (Name stage) (ready stage role (Some field) cs outer) letters) more
    (bare_read role field cs outer (test.Word (letters_text letters))) more
word_ends stage role field cs outer letters [] allowed l s =
    leads_alike (after_letters (Name stage) (ready stage role (Some field) cs outer) letters)
    (bare_read role field cs outer (test.Word (letters_text letters))) [] []
    (rw allowed.no_operator refl)
word_ends stage role field cs outer letters (b ∷ more) allowed l s =
    ends_colon (after_letters (Name stage) (ready stage role (Some field) cs outer) letters)
    Optional (Some field)
    (cs ++ record { role = role; what = on_field field (test.Word (letters_text letters)) } ∷ [])
    outer b more (λ no. rw (l, allowed.no_operator, no, s) refl)

-- a star behind a word
word_star : (stage : Stage) (role : Role) (field : ByteList) (cs : List ClauseTree)
    (outer : List OpenList) (letters : List Letter) → IsWord letters
    → step (after_letters (Name stage) (ready stage role (Some field) cs outer) letters) 42
    (42 ∷ []) ≡ Some (bare_read role field cs outer (test.Prefix (letters_text letters)))
word_star stage role field cs outer letters allowed =
    rw (star_no_word, allowed.no_operator) refl

-- a star alone
star_ends : (role : Role) (field : ByteList) (cs : List ClauseTree) (outer : List OpenList)
    (more : ByteList)
    → Leads (at Star (ready First role (Some field) cs outer)) more
    (bare_read role field cs outer test.Present) more
star_ends role field cs outer [] =
    leads_alike (at Star (ready First role (Some field) cs outer))
    (bare_read role field cs outer test.Present) [] [] refl
star_ends role field cs outer (b ∷ more) =
    ends_colon (at Star (ready First role (Some field) cs outer)) Optional (Some field)
    (cs ++ record { role = role; what = on_field field test.Present } ∷ []) outer b more
    (λ no. rw no refl)

-- a star is read
run-star : (stage : Stage) (role : Role) (field : Option ByteList) (cs : List ClauseTree)
    (outer : List OpenList) (more : ByteList)
    → run (Some (ready stage role field cs outer)) (42 ∷ more)
    ≡ run (Some (at Star (ready First role field cs outer))) more
unfolding item_step begin_item_step
run-star stage role field cs outer more = refl

-- a quote begins a test as behind a field
run-quote : (stage : Stage) (role : Role) (field : ByteList) (cs : List ClauseTree)
    (outer : List OpenList) (more : ByteList)
    → run (Some (ready stage role (Some field) cs outer)) (34 ∷ more)
    ≡ run (Some (at Tested (record (ready stage role (Some field) cs outer) { name = field })))
    (34 ∷ more)
unfolding item_step begin_item_step test_step
run-quote stage role field cs outer more = refl

-- so does a bracket
run-bracket : (stage : Stage) (role : Role) (field : ByteList) (cs : List ClauseTree)
    (outer : List OpenList) (low_in : Bool) (more : ByteList)
    → run (Some (ready stage role (Some field) cs outer)) (opening low_in ∷ more)
    ≡ run (Some (at Tested (record (ready stage role (Some field) cs outer) { name = field })))
    (opening low_in ∷ more)
unfolding item_step begin_item_step test_step
run-bracket stage role field cs outer true more = refl
run-bracket stage role field cs outer false more = refl

-- a test without a field is read as what it says
bare_test : (stage : Stage) (role : Role) (field : ByteList) (cs : List ClauseTree)
    (outer : List OpenList) (t : TestLayout) (more : ByteList) → IsTest t → IsUnsigned t
    → TestEnds t more
    → Leads (ready stage role (Some field) cs outer) (test_print t ++ more)
    (bare_read role field cs outer (test_says t)) more
bare_test stage role field cs outer (word letters) more allowed unsigned ends =
    λ clauses h.
    ap asks (run-letters-begun stage (ready stage role (Some field) cs outer) letters more allowed)
    ∙ word_ends stage role field cs outer letters more allowed ends.0 ends.1 clauses h
bare_test stage role field cs outer (prefix letters) more allowed unsigned ends =
    leads_by (ready stage role (Some field) cs outer)
    (bare_read role field cs outer (test.Prefix (letters_text letters)))
    ((letters_print letters ++ 42 ∷ []) ++ more) more
    (ap (run (Some (ready stage role (Some field) cs outer)))
    (append_assoc (letters_print letters) (42 ∷ []) more)
    ∙ run-letters-begun stage (ready stage role (Some field) cs outer) letters (42 ∷ more) allowed
    ∙ ap (λ o. run o more) (word_star stage role field cs outer letters allowed))
bare_test stage role field cs outer (number letters) more allowed unsigned ends = absurd unsigned
bare_test stage role field cs outer (quote letters) more allowed unsigned ends =
    let m = record (ready stage role (Some field) cs outer) { name = field } in
    leads_alike (ready stage role (Some field) cs outer)
    (bare_read role field cs outer (test.Word (letters_text letters)))
    (quoted_print letters ++ more) more
    (ap asks (run-quote stage role field cs outer ((letters_print letters ++ 34 ∷ []) ++ more))
    ∙ asks-test m (quote letters) more allowed tt)
bare_test stage role field cs outer star more allowed unsigned ends =
    λ clauses h. ap asks (run-star stage role (Some field) cs outer more)
    ∙ star_ends role field cs outer more clauses h
bare_test stage role field cs outer (range r) more allowed unsigned ends =
    let m = record (ready stage role (Some field) cs outer) { name = field } in
    leads_alike (ready stage role (Some field) cs outer)
    (bare_read role field cs outer (test_says (range r))) (test_print (range r) ++ more) more
    (ap asks (run-bracket stage role field cs outer r.low_in _)
    ∙ asks-test m (range r) more allowed tt)

-- a test with a field is
field_test : (stage : Stage) (role : Role) (field : Option ByteList) (cs : List ClauseTree)
    (outer : List OpenList) (name : List Letter) (gap : ByteList) (t : TestLayout)
    (more : ByteList) → IsWord name → AreBlank gap → IsTest t → TestEnds t more
    → Leads (ready stage role field cs outer)
    ((letters_print name ++ 58 ∷ (gap ++ test_print t)) ++ more)
    (ready Behind Optional field
    (cs ++ record { role = role; what = on_field (letters_text name) (test_says t) } ∷ []) outer)
    more
field_test stage role field cs outer name gap t more is_name blank allowed ends =
    let m = ready stage role field cs outer in
    let named = end_name (after_letters (Name stage) (fresh m) name) in
    leads_alike m (end_test (test_says t) named)
    ((letters_print name ++ 58 ∷ (gap ++ test_print t)) ++ more) more
    (ap (λ x. asks (run (Some m) x))
    (append_assoc (letters_print name) (58 ∷ (gap ++ test_print t)) more
    ∙ ap (λ x. letters_print name ++ 58 ∷ x) (append_assoc gap (test_print t) more))
    ∙ ap asks (run-name stage m name (gap ++ (test_print t ++ more)) is_name
    ∙ run-blanks named gap (test_print t ++ more) (tested_blank named) blank)
    ∙ asks-test named t more allowed ends)

-- `*:*` is
run-all : (stage : Stage) (role : Role) (field : Option ByteList) (cs : List ClauseTree)
    (outer : List OpenList) (more : ByteList)
    → run (Some (ready stage role field cs outer)) (42 ∷ 58 ∷ 42 ∷ more)
    ≡ run (Some (ready Behind Optional field
    (cs ++ record { role = role; what = everything } ∷ []) outer)) more
unfolding item_step begin_item_step
run-all stage role field cs outer more = refl

-- ---- modifiers

-- an item has one modifier at most
abbrev pub MayModify : Stage → Type 0
MayModify First = Unit {0}
MayModify Behind = Unit {0}
MayModify Joined = Unit {0}
MayModify Modified = ⊥

-- a modifier that isn't `NOT`
abbrev IsSign : Modifier → Type 0
IsSign plus = Unit {0}
IsSign minus = Unit {0}
IsSign bang = Unit {0}
IsSign not_word = ⊥

-- some bytes that don't go on with a modifier, before others
modifier_ends_more : (m : Modifier) (front more : ByteList) → 0 < length front
    → ModifierEnds m front → ModifierEnds m (front ++ more)
modifier_ends_more plus front more some ends = tt
modifier_ends_more minus front more some ends = tt
modifier_ends_more bang front more some ends = tt
modifier_ends_more not_word front more some ends = no_letter_some front more some ends

-- a letter before an item leads on with the letters of `NOT`
run-not : (stage : Stage) (role : Role) (field : Option ByteList) (cs : List ClauseTree)
    (outer : List OpenList) (more : ByteList)
    → run (Some (ready stage role field cs outer)) (78 ∷ 79 ∷ 84 ∷ more)
    ≡ run (Some (record (ready stage role field cs outer)
    { place = Letters (Name stage); text = 78 ∷ 79 ∷ 84 ∷ [] })) more
unfolding item_step begin_item_step is_special
run-not stage role field cs outer more = refl

-- behind `NOT` the item is prohibited
not_ends : (stage : Stage) (role : Role) (field : Option ByteList) (cs : List ClauseTree)
    (outer : List OpenList) (b : ℕ) → MayModify stage → goes_on_word b ≡ false
    → step (record (ready stage role field cs outer)
    { place = Letters (Name stage); text = 78 ∷ 79 ∷ 84 ∷ [] }) b (b ∷ [])
    ≡ step (ready Modified Prohibited field cs outer) b (b ∷ [])
unfolding is_operator
not_ends First role field cs outer b may l = rw l refl
not_ends Behind role field cs outer b may l = rw l refl
not_ends Joined role field cs outer b may l = rw l refl
not_ends Modified role field cs outer b may l = absurd may

-- a sign is read
run-sign : (stage : Stage) (role : Role) (field : Option ByteList) (cs : List ClauseTree)
    (outer : List OpenList) (m : Modifier) (more : ByteList) → MayModify stage → IsSign m
    → run (Some (ready stage role field cs outer)) (modifier_print m ++ more)
    ≡ run (Some (ready Modified (modifier_role m) field cs outer)) more
unfolding item_step begin_item_step
run-sign First role field cs outer plus more may sign = refl
run-sign First role field cs outer minus more may sign = refl
run-sign First role field cs outer bang more may sign = refl
run-sign First role field cs outer not_word more may sign = absurd sign
run-sign Behind role field cs outer plus more may sign = refl
run-sign Behind role field cs outer minus more may sign = refl
run-sign Behind role field cs outer bang more may sign = refl
run-sign Behind role field cs outer not_word more may sign = absurd sign
run-sign Joined role field cs outer plus more may sign = refl
run-sign Joined role field cs outer minus more may sign = refl
run-sign Joined role field cs outer bang more may sign = refl
run-sign Joined role field cs outer not_word more may sign = absurd sign
run-sign Modified role field cs outer m more may sign = absurd may

-- so is a modifier
modifier_leads : (stage : Stage) (role : Role) (field : Option ByteList) (cs : List ClauseTree)
    (outer : List OpenList) (m : Modifier) (more : ByteList) → MayModify stage
    → ModifierEnds m more
    → Leads (ready stage role field cs outer) (modifier_print m ++ more)
    (ready Modified (modifier_role m) field cs outer) more
modifier_leads stage role field cs outer plus more may ends =
    leads_by (ready stage role field cs outer) (ready Modified (modifier_role plus) field cs outer)
    (43 ∷ more) more (run-sign stage role field cs outer plus more may tt)
modifier_leads stage role field cs outer minus more may ends =
    leads_by (ready stage role field cs outer) (ready Modified (modifier_role minus) field cs outer)
    (45 ∷ more) more (run-sign stage role field cs outer minus more may tt)
modifier_leads stage role field cs outer bang more may ends =
    leads_by (ready stage role field cs outer) (ready Modified (modifier_role bang) field cs outer)
    (33 ∷ more) more (run-sign stage role field cs outer bang more may tt)
modifier_leads stage role field cs outer not_word more may ends =
    leads_alike (ready stage role field cs outer) (ready Modified Prohibited field cs outer)
    (78 ∷ 79 ∷ 84 ∷ more) more
    (ap asks (run-not stage role field cs outer more)
    ∙ ends_alike (record (ready stage role field cs outer)
    { place = Letters (Name stage); text = 78 ∷ 79 ∷ 84 ∷ [] })
    (ready Modified Prohibited field cs outer) more ends
    (λ b l. not_ends stage role field cs outer b may l))

-- ---- conjunctions

-- the last clause, if it has an `AND` beside it
abbrev pub beside_last : Bool → List ClauseTree → List ClauseTree
beside_last true cs = require_last cs
beside_last false cs = cs

-- the letters of a conjunction are read behind an item
run-conjunction : (field : Option ByteList) (cs : List ClauseTree) (outer : List OpenList)
    (c : Conjunction) (more : ByteList)
    → run (Some (ready Behind Optional field cs outer)) (conjunction_print c ++ more)
    ≡ run (Some (record (ready Behind Optional field cs outer)
    { place = Letters (Name Behind); text = conjunction_print c })) more
unfolding item_step begin_item_step is_special
run-conjunction field cs outer and_word more = refl
run-conjunction field cs outer and_signs more = refl
run-conjunction field cs outer or_word more = refl
run-conjunction field cs outer or_signs more = refl

-- behind it the next item begins
conjunction_ends : (field : Option ByteList) (cs : List ClauseTree) (outer : List OpenList)
    (c : Conjunction) (b : ℕ) → goes_on_word b ≡ false
    → step (record (ready Behind Optional field cs outer)
    { place = Letters (Name Behind); text = conjunction_print c }) b (b ∷ [])
    ≡ step (ready Joined (plain_role (is_and c)) field (beside_last (is_and c) cs) outer) b (b ∷ [])
unfolding is_operator
conjunction_ends field cs outer and_word b l = rw l refl
conjunction_ends field cs outer and_signs b l = rw l refl
conjunction_ends field cs outer or_word b l = rw l refl
conjunction_ends field cs outer or_signs b l = rw l refl

-- so it leads on
conjunction_leads : (field : Option ByteList) (cs : List ClauseTree) (outer : List OpenList)
    (c : Conjunction) (more : ByteList) → NoLetter more
    → Leads (ready Behind Optional field cs outer) (conjunction_print c ++ more)
    (ready Joined (plain_role (is_and c)) field (beside_last (is_and c) cs) outer) more
conjunction_leads field cs outer c more ends =
    leads_alike (ready Behind Optional field cs outer)
    (ready Joined (plain_role (is_and c)) field (beside_last (is_and c) cs) outer)
    (conjunction_print c ++ more) more
    (ap asks (run-conjunction field cs outer c more)
    ∙ ends_alike (record (ready Behind Optional field cs outer)
    { place = Letters (Name Behind); text = conjunction_print c })
    (ready Joined (plain_role (is_and c)) field (beside_last (is_and c) cs) outer) more ends
    (λ b l. conjunction_ends field cs outer c b l))

-- ---- roles

-- false or something is that
or_false : (b : Bool) → (b || false) ≡ b
or_false true = refl
or_false false = refl

-- an item with an `AND` beside it
role_beside-item : (before : Bool) (i : ItemLayout)
    → role_beside (item_role before i) ≡ item_role (before || true) i
role_beside-item true (plain_laid c) = refl
role_beside-item false (plain_laid c) = refl
role_beside-item before (modified_laid plus gap c) = refl
role_beside-item before (modified_laid minus gap c) = refl
role_beside-item before (modified_laid bang gap c) = refl
role_beside-item before (modified_laid not_word gap c) = refl

-- the clauses behind an item and what joins it to the next
pub beside_last-item : (and before : Bool) (field : Option ByteList) (cs : List ClauseTree)
    (i : ItemLayout)
    → beside_last and
    (cs ++ record { role = item_role before i; what = item_says field i } ∷ [])
    ≡ cs ++ record { role = item_role (before || and) i; what = item_says field i } ∷ []
beside_last-item true before field cs i =
    require_last-append cs (record { role = item_role before i; what = item_says field i })
    ∙ ap (λ (r : Role). cs ++ record { role = r; what = item_says field i } ∷ [])
    (role_beside-item before i)
beside_last-item false before field cs i =
    ap (λ (x : Bool). cs ++ record { role = item_role x i; what = item_says field i } ∷ [])
    (sym (or_false before))

-- ---- parentheses

-- a list opens
open_step : (stage : Stage) (role : Role) (field : Option ByteList) (cs : List ClauseTree)
    (outer : List OpenList) → length outer < level_limit
    → step (ready stage role field cs outer) 40 (40 ∷ [])
    ≡ Some (ready First Optional field []
    (record { role = role; clauses = cs; outside = Same } ∷ outer))
unfolding item_step
open_step stage role field cs outer room = rw (lt-ltb _ _ room) refl

-- a field's list opens
open_group_step : (stage : Stage) (role : Role) (field : Option ByteList) (cs : List ClauseTree)
    (outer : List OpenList) (name : List Letter) → length outer < level_limit
    → step (end_name (after_letters (Name stage) (fresh (ready stage role field cs outer)) name))
    40 (40 ∷ [])
    ≡ Some (ready First Optional (Some (letters_text name)) []
    (record { role = role; clauses = cs; outside = Other field } ∷ outer))
unfolding test_step
open_group_step stage role field cs outer name room = rw (lt-ltb _ _ room) refl

-- a list closes
close_step : (field : Option ByteList) (cs : List ClauseTree) (o : OpenList)
    (outer : List OpenList)
    → step (ready Behind Optional field cs (o ∷ outer)) 41 (41 ∷ [])
    ≡ Some (ready Behind Optional (outer_field o.outside field)
    (o.clauses ++ record { role = o.role; what = nested (trees_of cs) } ∷ []) outer)
unfolding item_step
close_step field cs o outer = refl

-- a list in parentheses is read where the list is, which opens in this one
group_leads : (m : Machine) (outside : Outside) (role : Role) (field : Option ByteList)
    (cs inner : List ClauseTree) (outer : List OpenList) (before list more : ByteList)
    → AreBlank before
    → step m 40 (40 ∷ []) ≡ Some (ready First Optional field []
    (record { role = role; clauses = cs; outside = outside } ∷ outer))
    → Leads (ready First Optional field []
    (record { role = role; clauses = cs; outside = outside } ∷ outer)) (list ++ 41 ∷ more)
    (ready Behind Optional field inner
    (record { role = role; clauses = cs; outside = outside } ∷ outer)) (41 ∷ more)
    → Leads m ((40 ∷ (before ++ (list ++ 41 ∷ []))) ++ more)
    (ready Behind Optional (outer_field outside field)
    (cs ++ record { role = role; what = nested (trees_of inner) } ∷ []) outer) more
group_leads m outside role field cs inner outer before list more blank opens reads =
    λ clauses h.
    let o : OpenList = record { role = role; clauses = cs; outside = outside } in
    ap (λ t. asks (run (Some m) (40 ∷ t)))
    (append_assoc before (list ++ 41 ∷ []) more
    ∙ ap (λ t. before ++ t) (append_assoc list (41 ∷ []) more))
    ∙ ap (λ x. asks (run x (before ++ (list ++ 41 ∷ more)))) opens
    ∙ ap asks (run-gap First Optional field [] (o ∷ outer) before (list ++ 41 ∷ more) blank)
    ∙ reads clauses (ap (λ x. asks (run x more)) (close_step field inner o outer) ∙ h)

-- ---- lists

-- a list is read in these lists, behind whatever may stand before it
abbrev ListLeads : Option ByteList → List OpenList → ListLayout → ByteList → Type 0
ListLeads field outer list more =
    (stage : Stage) (before : Bool) (cs : List ClauseTree) → MayModify stage
    → Leads (ready stage (plain_role before) field cs outer) (list_print list ++ more)
    (ready Behind Optional field (cs ++ list_says field before list) outer) more

-- what joins an item to the next is read, and the items behind it where they are
joint_leads : (before : Bool) (field : Option ByteList) (cs : List ClauseTree)
    (outer : List OpenList) (i : ItemLayout) (j : JointLayout) (list : ListLayout)
    (more : ByteList) → IsJoint j (list_print list) → Closes more
    → ListLeads field outer list more
    → Leads (ready Behind Optional field
    (cs ++ record { role = item_role before i; what = item_says field i } ∷ []) outer)
    (joint_print j ++ (list_print list ++ more))
    (ready Behind Optional field (cs ++ list_says field before (more_laid i j list)) outer) more
joint_leads before field cs outer i (apart gap) list more joint closes reads =
    λ clauses h.
    let cs' = cs ++ record { role = item_role before i; what = item_says field i } ∷ [] in
    ap asks (run-gap Behind Optional field cs' outer gap (list_print list ++ more) joint)
    ∙ reads Behind false cs' tt clauses
    (ap (λ (x : List ClauseTree). asks (run (Some (ready Behind Optional field x outer)) more))
    (ap (λ (x : List ClauseTree). x ++ list_says field false list)
    (beside_last-item false before field cs i)
    ∙ append_assoc cs
    (record { role = item_role (before || false) i; what = item_says field i } ∷ [])
    (list_says field false list))
    ∙ h)
joint_leads before field cs outer i (joined gap c behind) list more joint closes reads =
    λ clauses h.
    let cs' = cs ++ record { role = item_role before i; what = item_says field i } ∷ [] in
    let next = beside_last (is_and c) cs' in
    let letter : NoLetter (behind ++ (list_print list ++ more)) =
    subst NoLetter (append_assoc behind (list_print list) more)
    (no_letter_more (behind ++ list_print list) more joint.2 (closes_letter more closes)) in
    ap (λ x. asks (run (Some (ready Behind Optional field cs' outer)) x))
    (append_assoc gap (conjunction_print c ++ behind) (list_print list ++ more)
    ∙ ap (λ x. gap ++ x)
    (append_assoc (conjunction_print c) behind (list_print list ++ more)))
    ∙ ap asks (run-gap Behind Optional field cs' outer gap
    (conjunction_print c ++ (behind ++ (list_print list ++ more))) joint.0)
    ∙ conjunction_leads field cs' outer c (behind ++ (list_print list ++ more)) letter clauses
    (ap asks (run-gap Joined (plain_role (is_and c)) field next outer behind
    (list_print list ++ more) joint.1)
    ∙ reads Joined (is_and c) next tt clauses
    (ap (λ (x : List ClauseTree). asks (run (Some (ready Behind Optional field x outer)) more))
    (ap (λ (x : List ClauseTree). x ++ list_says field (is_and c) list)
    (beside_last-item (is_and c) before field cs i)
    ∙ append_assoc cs
    (record { role = item_role (before || is_and c) i; what = item_says field i } ∷ [])
    (list_says field (is_and c) list))
    ∙ h))

mutual
  -- a clause is read
  clause_leads : (stage : Stage) (role : Role) (field : Option ByteList) (cs : List ClauseTree)
      (outer : List OpenList) (c : ClauseLayout) (more : ByteList) → IsClause field c
      → clause_levels c + length outer ≤ level_limit → ClauseEnds c more
      → Leads (ready stage role field cs outer) (clause_print c ++ more)
      (ready Behind Optional field
      (cs ++ record { role = role; what = clause_says field c } ∷ []) outer) more
  clause_leads stage role field cs outer all_laid more allowed levels ends =
      leads_by (ready stage role field cs outer)
      (ready Behind Optional field (cs ++ record { role = role; what = everything } ∷ []) outer)
      (42 ∷ 58 ∷ 42 ∷ more) more (run-all stage role field cs outer more)
  clause_leads stage role field cs outer (field_laid name gap t) more allowed levels ends =
      field_test stage role field cs outer name gap t more allowed.0 allowed.1 allowed.2 ends
  clause_leads stage role None cs outer (test_laid t) more allowed levels ends =
      absurd allowed.0
  clause_leads stage role (Some field) cs outer (test_laid t) more allowed levels ends =
      bare_test stage role field cs outer t more allowed.1 allowed.2 ends
  clause_leads stage role field cs outer (group_laid before list) more allowed levels ends =
      let o : OpenList = record { role = role; clauses = cs; outside = Same } in
      group_leads (ready stage role field cs outer) Same role field cs (list_says field false list)
      outer before (list_print list) more allowed.0
      (open_step stage role field cs outer (omega (arith, levels)))
      (list_leads First false field [] (o ∷ outer) list (41 ∷ more) tt allowed.1
      (omega (arith, levels)) refl)
  clause_leads stage role field cs outer (field_group_laid name gap before list) more allowed
      levels ends =
      λ clauses h.
      let o : OpenList = record { role = role; clauses = cs; outside = Other field } in
      let m = ready stage role field cs outer in
      let named = end_name (after_letters (Name stage) (fresh m) name) in
      let inside = 40 ∷ (before ++ (list_print list ++ 41 ∷ [])) in
      ap (λ x. asks (run (Some m) x))
      (append_assoc (letters_print name) (58 ∷ (gap ++ inside)) more
      ∙ ap (λ x. letters_print name ++ 58 ∷ x) (append_assoc gap inside more))
      ∙ ap asks (run-name stage m name (gap ++ (inside ++ more)) allowed.0
      ∙ run-blanks named gap (inside ++ more) (tested_blank named) allowed.1)
      ∙ group_leads named (Other field) role (Some (letters_text name)) cs
      (list_says (Some (letters_text name)) false list) outer before (list_print list) more
      allowed.2 (open_group_step stage role field cs outer name (omega (arith, levels)))
      (list_leads First false (Some (letters_text name)) [] (o ∷ outer) list (41 ∷ more) tt
      allowed.3 (omega (arith, levels)) refl) clauses h

  -- an item is read
  item_leads : (stage : Stage) (before : Bool) (field : Option ByteList) (cs : List ClauseTree)
      (outer : List OpenList) (i : ItemLayout) (more : ByteList) → MayModify stage
      → IsItem field i → item_levels i + length outer ≤ level_limit → ItemEnds i more
      → Leads (ready stage (plain_role before) field cs outer) (item_print i ++ more)
      (ready Behind Optional field
      (cs ++ record { role = item_role before i; what = item_says field i } ∷ []) outer) more
  item_leads stage before field cs outer (plain_laid c) more may allowed levels ends =
      clause_leads stage (plain_role before) field cs outer c more allowed levels ends
  item_leads stage before field cs outer (modified_laid m gap c) more may allowed levels ends =
      λ clauses h.
      let some : 0 < length (gap ++ clause_print c) =
      omega (arith, clause_some field c allowed.1, length-append gap (clause_print c)) in
      ap (λ x. asks (run (Some (ready stage (plain_role before) field cs outer)) x))
      (append_assoc (modifier_print m) (gap ++ clause_print c) more)
      ∙ modifier_leads stage (plain_role before) field cs outer m
      ((gap ++ clause_print c) ++ more) may
      (modifier_ends_more m (gap ++ clause_print c) more some allowed.2) clauses
      (ap (λ x. asks (run (Some (ready Modified (modifier_role m) field cs outer)) x))
      (append_assoc gap (clause_print c) more)
      ∙ ap asks (run-gap Modified (modifier_role m) field cs outer gap (clause_print c ++ more)
      allowed.0)
      ∙ clause_leads Modified (modifier_role m) field cs outer c more allowed.1 levels ends clauses
      h)

  -- a list is read
  list_leads : (stage : Stage) (before : Bool) (field : Option ByteList) (cs : List ClauseTree)
      (outer : List OpenList) (list : ListLayout) (more : ByteList) → MayModify stage
      → AreItems field list → list_levels list + length outer ≤ level_limit → Closes more
      → Leads (ready stage (plain_role before) field cs outer) (list_print list ++ more)
      (ready Behind Optional field (cs ++ list_says field before list) outer) more
  list_leads stage before field cs outer (last_laid i behind) more may allowed levels closes =
      λ clauses h.
      let cs' = cs ++ record { role = item_role before i; what = item_says field i } ∷ [] in
      let letter = no_letter_more behind more (blanks_letter behind allowed.1)
      (closes_letter more closes) in
      let star = no_star_more behind more (blanks_star behind allowed.1)
      (closes_star more closes) in
      ap (λ x. asks (run (Some (ready stage (plain_role before) field cs outer)) x))
      (append_assoc (item_print i) behind more)
      ∙ item_leads stage before field cs outer i (behind ++ more) may allowed.0 levels
      (item_ends_by i (behind ++ more) letter star) clauses
      (ap asks (run-gap Behind Optional field cs' outer behind more allowed.1) ∙ h)
  list_leads stage before field cs outer (more_laid i j list) more may allowed levels closes =
      λ clauses h.
      let rest = joint_print j ++ list_print list in
      ap (λ x. asks (run (Some (ready stage (plain_role before) field cs outer)) x))
      (append_assoc (item_print i) rest more)
      ∙ item_leads stage before field cs outer i (rest ++ more) may allowed.0
      (omega (arith, levels))
      (item_ends_more i rest more allowed.1 (closes_letter more closes) (closes_star more closes))
      clauses
      (ap (λ x. asks (run (Some (ready Behind Optional field
      (cs ++ record { role = item_role before i; what = item_says field i } ∷ []) outer)) x))
      (append_assoc (joint_print j) (list_print list) more)
      ∙ joint_leads before field cs outer i j list more allowed.2 closes
      (λ s b x may. list_leads s b field x outer list more may allowed.3 (omega (arith, levels))
      closes) clauses h)

-- the clauses of the outermost list behind an item
last_asks : (cs : List ClauseTree) → Asks (Some (ready Behind Optional None cs [])) [] cs
unfolding item_step
last_asks cs = refl

-- a query is read as what it says
pub complete : (bytes : ByteList) (clauses : List ClauseTree) → IsQuery bytes clauses
    → query_of bytes ≡ Some clauses
complete bytes clauses q =
    let said = list_says None false q.layout in
    ap (λ t. asks (run (Some start) t))
    (q.printed ∙ sym (append-nil (q.before ++ list_print q.layout))
    ∙ append_assoc q.before (list_print q.layout) [])
    ∙ ap asks (run-gap First Optional None [] [] q.before (list_print q.layout ++ [])
    q.blank_before)
    ∙ list_leads First false None [] [] q.layout [] tt q.allowed (omega (arith, q.levels)) tt said
    (last_asks said)
    ∙ ap Some (sym q.says)
