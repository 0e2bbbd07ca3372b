-- What is read as a list was laid out as one.
use Rattle.std.proofs.Common.{◌≡◌, ℕ, zero, suc, ◌+◌, ◌<◌, ◌≤◌, length, List, [], ◌∷◌, ◌++◌}
use Rattle.std.proofs.Common.{Bool, false, Option, Some, None, ap, sym, subst, ◌∙◌}
use Rattle.std.proofs.Common.{append_assoc, append-nil, arith, length-append}
use Rattle.std.specs.Prelude.{◌||◌}
use Rattle.tuple_values.specs.Document.{ByteList}
use Rattle.query_syntax.specs.Letters.{AreBlank, letters_print, letters_text}
use Rattle.query_syntax.specs.Words.{NoLetter}
use Rattle.query_syntax.specs.Joints.{Modifier, plus, minus, bang, not_word, modifier_print}
use Rattle.query_syntax.specs.Joints.{modifier_role}
use Rattle.query_syntax.specs.Joints.{ModifierEnds, plain_role}
use Rattle.query_syntax.specs.Joints.{conjunction_print, is_and, JointLayout, apart}
use Rattle.query_syntax.specs.Joints.{joined, joint_print, is_and_joint, IsJoint}
use Rattle.query_syntax.specs.Layout.{ClauseLayout, group_laid, field_group_laid, ItemLayout}
use Rattle.query_syntax.specs.Layout.{plain_laid, modified_laid, ListLayout, last_laid, more_laid}
use Rattle.query_syntax.specs.Layout.{clause_print, item_print, list_print, item_role, clause_says}
use Rattle.query_syntax.specs.Layout.{item_says, list_says, clause_levels, item_levels, list_levels}
use Rattle.query_syntax.specs.Layout.{ClauseEnds, ItemEnds, IsClause, IsItem, AreItems}
use Rattle.query_syntax.specs.Grammar.{IsQuery, level_limit}
use Rattle.query_syntax.specs.Machine.{ready, start}
use Rattle.query_syntax.specs.Items.{close_in, outer_field}
use Rattle.query_syntax.specs.Reading.{query_of, whole}
use Rattle.query_syntax.specs.Tree.{nested, ClauseTree, trees_of}
use Rattle.query_syntax.specs.declared.query.Role.{Role}
use Rattle.query_syntax.specs.declared.query.Role.TheVariants.{Optional}
use Rattle.query_syntax.specs.declared.open_lists.Outside.{Outside}
use Rattle.query_syntax.specs.declared.open_lists.Outside.TheVariants.{Same, Other}
use Rattle.query_syntax.specs.declared.open_lists.OpenList.{OpenList}
use Rattle.query_syntax.specs.declared.place.Stage.{Stage}
use Rattle.query_syntax.specs.declared.place.Stage.TheVariants.{First, Behind, Joined, Modified}
use Rattle.query_syntax.proofs.SpanLemmas.{Asks, nowhere}
use Rattle.query_syntax.proofs.EndsLemmas.{no_letter_front, item_ends_front, clause_some}
use Rattle.query_syntax.proofs.CompleteLemmas.{beside_last, beside_last-item}
use Rattle.query_syntax.proofs.TokenLemmas.{State, done_at, IsBehind}
use Rattle.query_syntax.proofs.TokenLemmas.{Starts, leaf, opens, opens_group}
use Rattle.query_syntax.proofs.TokenLemmas.{Token, clause, modifies, joins, closes, ends}
use Rattle.query_syntax.proofs.TokenLemmas.{next_sound}

-- ---- parts

-- how a list of these clauses ends: with the text, or at a closing parenthesis
data Closed (field : Option ByteList) (outer : List OpenList) (cs : List ClauseTree)
    (rest : ByteList) (end : List ClauseTree) : Type 0 where
  at_end : rest ≡ [] → whole outer cs ≡ Some end → Closed field outer cs rest end
  at_bracket : (more : ByteList) → rest ≡ 41 ∷ more
      → Asks (close_in outer (ready Behind Optional field cs outer)) more end
      → Closed field outer cs rest end

-- items, and how their list ends
record ItemsPart (field : Option ByteList) (outer : List OpenList) (cs : List ClauseTree)
    (before : Bool) (bytes : ByteList) (end : List ClauseTree) : Type 0 where
  list : ListLayout
  rest : ByteList
  allowed : AreItems field list
  levels : list_levels list + length outer ≤ level_limit
  is : bytes ≡ list_print list ++ rest
  closed : Closed field outer (cs ++ list_says field before list) rest end

-- the same behind blanks
record ListPart (field : Option ByteList) (outer : List OpenList) (cs : List ClauseTree)
    (before : Bool) (bytes : ByteList) (end : List ClauseTree) : Type 0 where
  gap : ByteList
  items_at : ByteList
  blank : AreBlank gap
  is : bytes ≡ gap ++ items_at
  items : ItemsPart field outer cs before items_at end

-- a clause, and what is left
record ClausePart (s : State) (bytes : ByteList) (end : List ClauseTree) : Type 0 where
  layout : ClauseLayout
  rest : ByteList
  allowed : IsClause s.field layout
  levels : clause_levels layout + length s.outer ≤ level_limit
  ends : ClauseEnds layout rest
  is : bytes ≡ clause_print layout ++ rest
  reads : Asks (Some (done_at s (clause_says s.field layout))) rest end

-- an item, and what is left
record ItemPart (field : Option ByteList) (outer : List OpenList) (cs : List ClauseTree)
    (before : Bool) (bytes : ByteList) (end : List ClauseTree) : Type 0 where
  item : ItemLayout
  rest : ByteList
  allowed : IsItem field item
  levels : item_levels item + length outer ≤ level_limit
  ends : ItemEnds item rest
  is : bytes ≡ item_print item ++ rest
  some : 0 < length (item_print item)
  reads : Asks (Some (ready Behind Optional field
      (cs ++ record { role = item_role before item; what = item_says field item } ∷ []) outer)) rest
      end

-- an item begins
data Begins (stage : Stage) (s : State) (bytes : ByteList) (end : List ClauseTree)
    : Type 0 where
  by_clause : Starts s bytes end → Begins stage s bytes end
  by_modifier : (m : Modifier) (rest : ByteList) → ModifierEnds m rest
      → bytes ≡ modifier_print m ++ rest
      → Asks (Some (ready Modified (modifier_role m) s.field s.clauses s.outer)) rest end
      → Begins stage s bytes end

-- a list of a state with this role
abbrev state : Role → Option ByteList → List ClauseTree → List OpenList → State
state role field cs outer = record { role = role; field = field; clauses = cs; outer = outer }

-- a list begins with an item, or behind a conjunction
abbrev BeforeItem : Stage → Type 0
BeforeItem First = Unit {0}
BeforeItem Behind = ⊥
BeforeItem Joined = Unit {0}
BeforeItem Modified = ⊥

-- bytes of fewer than this length are read as they were laid out
record Sound (n : ℕ) : Type 0 where
  lists : (stage : Stage) (before : Bool) (field : Option ByteList) (cs : List ClauseTree)
      (outer : List OpenList) (bytes : ByteList) (end : List ClauseTree) → BeforeItem stage
      → length bytes < n → length outer ≤ level_limit
      → Asks (Some (ready stage (plain_role before) field cs outer)) bytes end
      → ListPart field outer cs before bytes end
  items : (stage : Stage) (before : Bool) (field : Option ByteList) (cs : List ClauseTree)
      (outer : List OpenList) (bytes : ByteList) (end : List ClauseTree) → length bytes < n
      → length outer ≤ level_limit
      → Begins stage (state (plain_role before) field cs outer) bytes end
      → ItemsPart field outer cs before bytes end

-- ---- clauses in parentheses

-- a list in parentheses ends at its own
record GroupEnd (outside : Outside) (s : State) (field : Option ByteList)
    (inner : List ClauseTree) (rest : ByteList) (end : List ClauseTree) : Type 0 where
  more : ByteList
  is : rest ≡ 41 ∷ more
  reads : Asks (Some (ready Behind Optional (outer_field outside field)
      (s.clauses ++ record { role = s.role; what = nested (trees_of inner) } ∷ []) s.outer)) more
      end

-- it does
group_end : (outside : Outside) (s : State) (field : Option ByteList) (inner : List ClauseTree)
    (rest : ByteList) (end : List ClauseTree)
    → Closed field
    (record { role = s.role; clauses = s.clauses; outside = outside } ∷ s.outer) inner rest end → GroupEnd outside s field inner rest end
group_end outside s field inner rest end (at_end is h) = absurd cc
group_end outside s field inner rest end (at_bracket more is h) =
    record { more = more; is = is; reads = h }

-- a list in parentheses is in parentheses
group_is : (bytes gap list rest more : ByteList) → bytes ≡ 40 ∷ (gap ++ (list ++ rest))
    → rest ≡ 41 ∷ more → bytes ≡ (40 ∷ (gap ++ (list ++ 41 ∷ []))) ++ more
group_is bytes gap list rest more is closed =
    is ∙ ap (λ t. 40 ∷ (gap ++ (list ++ t))) closed
    ∙ ap (λ t. 40 ∷ (gap ++ t)) (sym (append_assoc list (41 ∷ []) more))
    ∙ ap (λ t. 40 ∷ t) (sym (append_assoc gap (list ++ 41 ∷ []) more))

-- a clause is read as it was laid out, where lists of fewer bytes are
clause_of : (n : ℕ) → Sound n → (s : State) (bytes : ByteList) (end : List ClauseTree)
    → length bytes ≤ n → length s.outer ≤ level_limit → Starts s bytes end
    → ClausePart s bytes end
clause_of n lower s bytes end few deep (leaf c rest allowed flat stops is h) = record {
  layout = c;
  rest = rest;
  allowed = allowed;
  levels = omega (arith, flat);
  ends = stops;
  is = is;
  reads = h;
}
clause_of n lower s bytes end few deep (opens rest room is h) =
    let o : OpenList = record { role = s.role; clauses = s.clauses; outside = Same } in
    let p = lower.lists First false s.field [] (o ∷ s.outer) rest end tt
    (omega (arith, few, ap length is)) (omega (arith, room)) h in
    let e = group_end Same s s.field (list_says s.field false p.items.list) p.items.rest end
    p.items.closed in
    record {
      layout = group_laid p.gap p.items.list;
      rest = e.more;
      allowed = (p.blank, p.items.allowed);
      levels = omega (arith, p.items.levels);
      ends = tt;
      is = group_is bytes p.gap (list_print p.items.list) p.items.rest e.more
          (is ∙ ap (λ t. 40 ∷ t) (p.is ∙ ap (λ t. p.gap ++ t) p.items.is)) e.is;
      reads = e.reads;
    }
clause_of n lower s bytes end few deep (opens_group name gap rest is_name blank room is h) =
    let o : OpenList = record { role = s.role; clauses = s.clauses; outside = Other s.field } in
    let field : Option ByteList = Some (letters_text name) in
    let p = lower.lists First false field [] (o ∷ s.outer) rest end tt
    (omega (
      arith,
      few,
      ap length is,
      length-append (letters_print name) (58 ∷ (gap ++ 40 ∷ rest)),
      length-append gap (40 ∷ rest),
    )) (omega (arith, room)) h in
    let e = group_end (Other s.field) s field (list_says field false p.items.list) p.items.rest end
    p.items.closed in
    let inside = 40 ∷ (p.gap ++ (list_print p.items.list ++ 41 ∷ [])) in
    record {
      layout = field_group_laid name gap p.gap p.items.list;
      rest = e.more;
      allowed = (is_name, blank, p.blank, p.items.allowed);
      levels = omega (arith, p.items.levels);
      ends = tt;
      is = is
          ∙ ap (λ t. letters_print name ++ 58 ∷ (gap ++ t))
          (group_is (40 ∷ rest) p.gap (list_print p.items.list) p.items.rest e.more
          (ap (λ t. 40 ∷ t) (p.is ∙ ap (λ t. p.gap ++ t) p.items.is)) e.is)
          ∙ ap (λ t. letters_print name ++ 58 ∷ t) (sym (append_assoc gap inside e.more))
          ∙ sym (append_assoc (letters_print name) (58 ∷ (gap ++ inside)) e.more);
      reads = e.reads;
    }

-- ---- items

-- behind a modifier a clause begins
modified_starts : (s : State) (bytes : ByteList) (end : List ClauseTree)
    → Token Modified s bytes end → Starts s bytes end
modified_starts s bytes end (clause c) = c
modified_starts s bytes end (modifies m rest may stops is h) = absurd may
modified_starts s bytes end (joins c rest behind stops is h) = absurd behind
modified_starts s bytes end (closes rest behind is h) = absurd behind
modified_starts s bytes end (ends behind is h) = absurd behind

-- a modifier has bytes
modifier_some : (m : Modifier) → 0 < length (modifier_print m)
modifier_some plus = omega arith
modifier_some minus = omega arith
modifier_some bang = omega arith
modifier_some not_word = omega arith

-- a front of bytes that don't continue a modifier doesn't
modifier_ends_front : (m : Modifier) (front more : ByteList) → ModifierEnds m (front ++ more)
    → ModifierEnds m front
modifier_ends_front plus front more stops = tt
modifier_ends_front minus front more stops = tt
modifier_ends_front bang front more stops = tt
modifier_ends_front not_word front more stops = no_letter_front front more stops

-- an item is read as it was laid out
item_of : (n : ℕ) → Sound n → (stage : Stage) (before : Bool) (field : Option ByteList)
    (cs : List ClauseTree) (outer : List OpenList) (bytes : ByteList) (end : List ClauseTree)
    → length bytes ≤ n → length outer ≤ level_limit
    → Begins stage (state (plain_role before) field cs outer) bytes end
    → ItemPart field outer cs before bytes end
item_of n lower stage before field cs outer bytes end few deep (by_clause c) =
    let p = clause_of n lower (state (plain_role before) field cs outer) bytes end few deep c in
    record {
      item = plain_laid p.layout;
      rest = p.rest;
      allowed = p.allowed;
      levels = p.levels;
      ends = p.ends;
      is = p.is;
      some = clause_some field p.layout p.allowed;
      reads = p.reads;
    }
item_of n lower stage before field cs outer bytes end few deep (by_modifier m more stops is h) =
    let s = state (modifier_role m) field cs outer in
    let x = next_sound Modified s more end h in
    let p = clause_of n lower s x.rest end
    (omega (
      arith,
      few,
      ap length is,
      length-append (modifier_print m) more,
      ap length x.is,
      length-append x.gap x.rest,
    )) deep (modified_starts s x.rest end x.token) in
    let inside = x.gap ++ clause_print p.layout in
    let more_is : more ≡ inside ++ p.rest =
    x.is ∙ ap (λ t. x.gap ++ t) p.is ∙ sym (append_assoc x.gap (clause_print p.layout) p.rest) in
    record {
      item = modified_laid m x.gap p.layout;
      rest = p.rest;
      allowed = (
        x.blank,
        p.allowed,
        modifier_ends_front m inside p.rest (subst (ModifierEnds m) more_is stops),
      );
      levels = p.levels;
      ends = p.ends;
      is = is ∙ ap (λ t. modifier_print m ++ t) more_is
          ∙ sym (append_assoc (modifier_print m) inside p.rest);
      some = omega (arith, modifier_some m, length-append (modifier_print m) inside);
      reads = p.reads;
    }

-- ---- lists

-- an item is the last
last_of : (field : Option ByteList) (outer : List OpenList) (cs : List ClauseTree) (before : Bool)
    (bytes : ByteList) (end : List ClauseTree) (p : ItemPart field outer cs before bytes end)
    (gap rest : ByteList) → AreBlank gap → p.rest ≡ gap ++ rest
    → Closed field outer
    (cs ++ record { role = item_role before p.item; what = item_says field p.item } ∷ []) rest end
    → ItemsPart field outer cs before bytes end
last_of field outer cs before bytes end p gap rest blank is closed = record {
  list = last_laid p.item gap;
  rest = rest;
  allowed = (p.allowed, blank);
  levels = p.levels;
  is = p.is ∙ ap (λ t. item_print p.item ++ t) is
      ∙ sym (append_assoc (item_print p.item) gap rest);
  closed = closed;
}

-- the clauses of an item, of what joins it to others, and of these
says_more : (field : Option ByteList) (before : Bool) (cs : List ClauseTree) (i : ItemLayout)
    (j : JointLayout) (list : ListLayout)
    → beside_last (is_and_joint j)
    (cs ++ record { role = item_role before i; what = item_says field i } ∷ [])
    ++ list_says field (is_and_joint j) list
    ≡ cs ++ list_says field before (more_laid i j list)
says_more field before cs i j list =
    ap (λ (x : List ClauseTree). x ++ list_says field (is_and_joint j) list)
    (beside_last-item (is_and_joint j) before field cs i)
    ∙ append_assoc cs
    (record { role = item_role (before || is_and_joint j) i; what = item_says field i } ∷ [])
    (list_says field (is_and_joint j) list)

-- an item is not the last
more_of : (field : Option ByteList) (outer : List OpenList) (cs : List ClauseTree) (before : Bool)
    (bytes : ByteList) (end : List ClauseTree) (p : ItemPart field outer cs before bytes end)
    (j : JointLayout) (items_at : ByteList) → p.rest ≡ joint_print j ++ items_at
    → (q : ItemsPart field outer (beside_last (is_and_joint j)
    (cs ++ record { role = item_role before p.item; what = item_says field p.item } ∷ []))
    (is_and_joint j) items_at end)
    → IsJoint j (list_print q.list) → ItemsPart field outer cs before bytes end
more_of field outer cs before bytes end p j items_at is q joint =
    let inside = joint_print j ++ list_print q.list in
    let rest_is : p.rest ≡ inside ++ q.rest =
    is ∙ ap (λ t. joint_print j ++ t) q.is
    ∙ sym (append_assoc (joint_print j) (list_print q.list) q.rest) in
    record {
      list = more_laid p.item j q.list;
      rest = q.rest;
      allowed = (
        p.allowed,
        item_ends_front p.item inside q.rest (subst (ItemEnds p.item) rest_is p.ends),
        joint,
        q.allowed,
      );
      levels = omega (arith, p.levels, q.levels);
      is = p.is ∙ ap (λ t. item_print p.item ++ t) rest_is
          ∙ sym (append_assoc (item_print p.item) inside q.rest);
      closed = subst (λ (x : List ClauseTree). Closed field outer x q.rest end)
          (says_more field before cs p.item j q.list) q.closed;
    }

-- what stands behind an item is read as it was laid out, where what is shorter is
behind_of : (n : ℕ) → Sound n → (field : Option ByteList) (outer : List OpenList)
    (cs : List ClauseTree) (before : Bool) (bytes : ByteList) (end : List ClauseTree)
    (p : ItemPart field outer cs before bytes end) → length p.rest < n
    → length outer ≤ level_limit → (gap rest : ByteList) → AreBlank gap → p.rest ≡ gap ++ rest
    → Token Behind (state Optional field
    (cs ++ record { role = item_role before p.item; what = item_says field p.item } ∷ []) outer)
    rest end → ItemsPart field outer cs before bytes end
behind_of n lower field outer cs before bytes end p few deep gap rest blank is (clause c) =
    let cs' = cs ++ record { role = item_role before p.item; what = item_says field p.item } ∷ [] in
    let q = lower.items Behind false field cs' outer rest end
    (omega (arith, few, ap length is, length-append gap rest)) deep (by_clause c) in
    more_of field outer cs before bytes end p (apart gap) rest is q blank
behind_of n lower field outer cs before bytes end p few deep gap rest blank is
    (modifies m more may stops first h) =
    let cs' = cs ++ record { role = item_role before p.item; what = item_says field p.item } ∷ [] in
    let q = lower.items Behind false field cs' outer rest end
    (omega (arith, few, ap length is, length-append gap rest)) deep
    (by_modifier m more stops first h) in
    more_of field outer cs before bytes end p (apart gap) rest is q blank
behind_of n lower field outer cs before bytes end p few deep gap rest blank is
    (joins c more behind letter first h) =
    let cs' = cs ++ record { role = item_role before p.item; what = item_says field p.item } ∷ [] in
    let q = lower.lists Joined (is_and c) field (beside_last (is_and c) cs') outer more end tt
    (omega (
      arith,
      few,
      ap length is,
      length-append gap rest,
      ap length first,
      length-append (conjunction_print c) more,
    )) deep h in
    let j = joined gap c q.gap in
    let letter' = no_letter_front (q.gap ++ list_print q.items.list) q.items.rest
    (subst NoLetter (q.is ∙ ap (λ t. q.gap ++ t) q.items.is
    ∙ sym (append_assoc q.gap (list_print q.items.list) q.items.rest)) letter) in
    more_of field outer cs before bytes end p j q.items_at
    (is ∙ ap (λ t. gap ++ t) (first ∙ ap (λ t. conjunction_print c ++ t) q.is
    ∙ sym (append_assoc (conjunction_print c) q.gap q.items_at))
    ∙ sym (append_assoc gap (conjunction_print c ++ q.gap) q.items_at)) q.items
    (blank, q.blank, letter')
behind_of n lower field outer cs before bytes end p few deep gap rest blank is
    (closes more behind first h) =
    last_of field outer cs before bytes end p gap rest blank is (at_bracket more first h)
behind_of n lower field outer cs before bytes end p few deep gap rest blank is
    (ends behind first h) =
    last_of field outer cs before bytes end p gap rest blank is (at_end first h)

-- items are read as they were laid out
items_of : (n : ℕ) → Sound n → (stage : Stage) (before : Bool) (field : Option ByteList)
    (cs : List ClauseTree) (outer : List OpenList) (bytes : ByteList) (end : List ClauseTree)
    → length bytes ≤ n → length outer ≤ level_limit
    → Begins stage (state (plain_role before) field cs outer) bytes end
    → ItemsPart field outer cs before bytes end
items_of n lower stage before field cs outer bytes end few deep b =
    let p = item_of n lower stage before field cs outer bytes end few deep b in
    let s = state Optional field
    (cs ++ record { role = item_role before p.item; what = item_says field p.item } ∷ []) outer in
    let x = next_sound Behind s p.rest end p.reads in
    behind_of n lower field outer cs before bytes end p
    (omega (arith, few, ap length p.is, length-append (item_print p.item) p.rest, p.some)) deep
    x.gap x.rest x.blank x.is x.token

-- what stands before an item doesn't stand behind one
not_behind : (stage : Stage) → BeforeItem stage → IsBehind stage → ⊥
not_behind First before behind = behind
not_behind Behind before behind = before
not_behind Joined before behind = behind
not_behind Modified before behind = before

-- before an item one begins
begins_before : (stage : Stage) (s : State) (bytes : ByteList) (end : List ClauseTree)
    → BeforeItem stage → Token stage s bytes end → Begins stage s bytes end
begins_before stage s bytes end before (clause c) = by_clause c
begins_before stage s bytes end before (modifies m rest may stops is h) =
    by_modifier m rest stops is h
begins_before stage s bytes end before (joins c rest behind stops is h) =
    absurd (not_behind stage before behind)
begins_before stage s bytes end before (closes rest behind is h) =
    absurd (not_behind stage before behind)
begins_before stage s bytes end before (ends behind is h) =
    absurd (not_behind stage before behind)

-- what is of fewer bytes is read as it was laid out
sound_below : (n : ℕ) → Sound n
sound_below zero = record {
  lists = λ stage before field cs outer bytes end start few deep h. absurd (omega arith);
  items = λ stage before field cs outer bytes end few deep b. absurd (omega arith);
}
sound_below (suc n) =
    let lower = sound_below n in
    record {
      lists = λ stage before field cs outer bytes end start few deep h.
          let s = state (plain_role before) field cs outer in
          let x = next_sound stage s bytes end h in
          record {
            gap = x.gap;
            items_at = x.rest;
            blank = x.blank;
            is = x.is;
            items = items_of n lower stage before field cs outer x.rest end
                (omega (arith, few, ap length x.is, length-append x.gap x.rest)) deep
                (begins_before stage s x.rest end start x.token);
          };
      items = λ stage before field cs outer bytes end few deep b.
          items_of n lower stage before field cs outer bytes end (omega (arith, few)) deep b;
    }

-- ---- queries

-- the outermost list ends with the text
record TextEnd (cs : List ClauseTree) (rest : ByteList) (end : List ClauseTree) : Type 0 where
  nothing : rest ≡ []
  says : cs ≡ end

-- it does
text_end : (cs : List ClauseTree) (rest : ByteList) (end : List ClauseTree)
    → Closed None [] cs rest end → TextEnd cs rest end
text_end cs rest end (at_end is h) = record { nothing = is; says = cc }
text_end cs rest end (at_bracket more is h) = nowhere more end h

-- bytes that lead to an end are a query that says the clauses there
pub sound_run : (bytes : ByteList) (end : List ClauseTree) → Asks (Some start) bytes end
    → IsQuery bytes end
sound_run bytes end h =
    let p = (sound_below (length bytes + 1)).lists First false None [] [] bytes end tt
    (omega arith) (omega arith) h in
    let e = text_end (list_says None false p.items.list) p.items.rest end p.items.closed in
    record {
      before = p.gap;
      layout = p.items.list;
      blank_before = p.blank;
      allowed = p.items.allowed;
      levels = omega (arith, p.items.levels);
      printed = p.is ∙ ap (λ t. p.gap ++ t)
          (p.items.is ∙ ap (λ t. list_print p.items.list ++ t) e.nothing
          ∙ append-nil (list_print p.items.list));
      says = sym e.says;
    }

-- what is read is what the bytes say
pub sound : (bytes : ByteList) (clauses : List ClauseTree) → query_of bytes ≡ Some clauses
    → IsQuery bytes clauses
sound bytes clauses is = sound_run bytes clauses is
