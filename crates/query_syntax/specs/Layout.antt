-- How a list of clauses is laid out, and what it says (Lucene's classic query syntax; the roles are
-- own).
use Rattle.std.specs.Prelude.{ℕ, ◌+◌, max, List, [], ◌∷◌, ◌++◌, Bool, false, ◌||◌, Option, Some}
use Rattle.std.specs.Prelude.{None, codes}
use Rattle.tuple_values.specs.Document.{ByteList}
use Rattle.query_syntax.specs.Letters.{AreBlank, Letter, letters_print, letters_text}
use Rattle.query_syntax.specs.Words.{IsWord}
use Rattle.query_syntax.specs.Tests.{TestLayout, test_print, IsTest, test_says, IsUnsigned}
use Rattle.query_syntax.specs.Tests.{TestEnds}
use Rattle.query_syntax.specs.Joints.{Modifier, modifier_print, modifier_role, ModifierEnds}
use Rattle.query_syntax.specs.Joints.{plain_role, JointLayout, joint_print, is_and_joint, IsJoint}
use Rattle.query_syntax.specs.Tree.{WhatTree, everything, on_field, nested, ClauseTree, trees_of}
use Rattle.query_syntax.specs.declared.query.Role.{Role}

mutual
  -- a clause: `*:*`; a field, blanks and a test; in a field group a test alone; a list in
  -- parentheses; or a field, blanks and a list in parentheses; each list has blanks before it
  pub data ClauseLayout : Type 0 where
    all_laid : ClauseLayout
    field_laid : (name : List Letter) → (gap : ByteList) → TestLayout → ClauseLayout
    test_laid : TestLayout → ClauseLayout
    group_laid : (before : ByteList) → ListLayout → ClauseLayout
    field_group_laid : (name : List Letter) → (gap before : ByteList) → ListLayout → ClauseLayout

  -- an item of a list: a clause, or a modifier, blanks and a clause
  pub data ItemLayout : Type 0 where
    plain_laid : ClauseLayout → ItemLayout
    modified_laid : Modifier → (gap : ByteList) → ClauseLayout → ItemLayout

  -- a list: a last item with blanks behind it, or an item, what stands behind it, and more items
  pub data ListLayout : Type 0 where
    last_laid : ItemLayout → (behind : ByteList) → ListLayout
    more_laid : ItemLayout → JointLayout → ListLayout → ListLayout

-- their bytes
abbrev mutual
  pub clause_print : ClauseLayout → ByteList
  clause_print all_laid = codes "*:*"
  clause_print (field_laid name gap t) = letters_print name ++ 58 ∷ (gap ++ test_print t)
  clause_print (test_laid t) = test_print t
  clause_print (group_laid before list) = 40 ∷ (before ++ (list_print list ++ 41 ∷ []))
  clause_print (field_group_laid name gap before list) =
      letters_print name ++ 58 ∷ (gap ++ 40 ∷ (before ++ (list_print list ++ 41 ∷ [])))

  pub item_print : ItemLayout → ByteList
  item_print (plain_laid c) = clause_print c
  item_print (modified_laid m gap c) = modifier_print m ++ (gap ++ clause_print c)

  pub list_print : ListLayout → ByteList
  list_print (last_laid i behind) = item_print i ++ behind
  list_print (more_laid i j list) = item_print i ++ (joint_print j ++ list_print list)

-- the field of a test that stands without one: the innermost field group's
abbrev pub group_field : Option ByteList → ByteList
group_field None = []
group_field (Some field) = field

-- the role of an item, which perhaps has an `AND` beside it
abbrev pub item_role : Bool → ItemLayout → Role
item_role beside (plain_laid c) = plain_role beside
item_role beside (modified_laid m gap c) = modifier_role m

-- what they say in a field group, or outside of each: an `AND` before an item or behind it makes
-- it required, unless it has a modifier
abbrev mutual
  pub clause_says : Option ByteList → ClauseLayout → WhatTree
  clause_says field all_laid = everything
  clause_says field (field_laid name gap t) = on_field (letters_text name) (test_says t)
  clause_says field (test_laid t) = on_field (group_field field) (test_says t)
  clause_says field (group_laid before list) = nested (trees_of (list_says field false list))
  clause_says field (field_group_laid name gap before list) =
      nested (trees_of (list_says (Some (letters_text name)) false list))

  pub item_says : Option ByteList → ItemLayout → WhatTree
  item_says field (plain_laid c) = clause_says field c
  item_says field (modified_laid m gap c) = clause_says field c

  pub list_says : Option ByteList → Bool → ListLayout → List ClauseTree
  list_says field before (last_laid i behind) =
      record { role = item_role before i; what = item_says field i } ∷ []
  list_says field before (more_laid i j list) =
      record { role = item_role (before || is_and_joint j) i; what = item_says field i }
      ∷ list_says field (is_and_joint j) list

-- how many parentheses stand one in another at the deepest place
abbrev mutual
  pub clause_levels : ClauseLayout → ℕ
  clause_levels all_laid = 0
  clause_levels (field_laid name gap t) = 0
  clause_levels (test_laid t) = 0
  clause_levels (group_laid before list) = list_levels list + 1
  clause_levels (field_group_laid name gap before list) = list_levels list + 1

  pub item_levels : ItemLayout → ℕ
  item_levels (plain_laid c) = clause_levels c
  item_levels (modified_laid m gap c) = clause_levels c

  pub list_levels : ListLayout → ℕ
  list_levels (last_laid i behind) = item_levels i
  list_levels (more_laid i j list) = max (item_levels i) (list_levels list)

-- there is a field group round it
abbrev pub IsGrouped : Option ByteList → Type 0
IsGrouped None = ⊥
IsGrouped (Some field) = Unit {0}

-- the bytes behind a clause don't continue it
abbrev pub ClauseEnds : ClauseLayout → ByteList → Type 0
ClauseEnds all_laid behind = Unit {0}
ClauseEnds (field_laid name gap t) behind = TestEnds t behind
ClauseEnds (test_laid t) behind = TestEnds t behind
ClauseEnds (group_laid before list) behind = Unit {0}
ClauseEnds (field_group_laid name gap before list) behind = Unit {0}

-- nor do those behind an item
abbrev pub ItemEnds : ItemLayout → ByteList → Type 0
ItemEnds (plain_laid c) behind = ClauseEnds c behind
ItemEnds (modified_laid m gap c) behind = ClauseEnds c behind

-- their parts are allowed
abbrev mutual
  pub IsClause : Option ByteList → ClauseLayout → Type 0
  IsClause field all_laid = Unit {0}
  IsClause field (field_laid name gap t) = IsWord name × AreBlank gap × IsTest t
  IsClause field (test_laid t) = IsGrouped field × IsTest t × IsUnsigned t
  IsClause field (group_laid before list) = AreBlank before × AreItems field list
  IsClause field (field_group_laid name gap before list) =
      IsWord name × AreBlank gap × AreBlank before × AreItems (Some (letters_text name)) list

  pub IsItem : Option ByteList → ItemLayout → Type 0
  IsItem field (plain_laid c) = IsClause field c
  IsItem field (modified_laid m gap c) =
      AreBlank gap × IsClause field c × ModifierEnds m (gap ++ clause_print c)

  pub AreItems : Option ByteList → ListLayout → Type 0
  AreItems field (last_laid i behind) = IsItem field i × AreBlank behind
  AreItems field (more_laid i j list) =
      IsItem field i × ItemEnds i (joint_print j ++ list_print list) × IsJoint j (list_print list)
      × AreItems field list
