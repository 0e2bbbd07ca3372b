-- What stands before clauses and between them (Lucene's classic query syntax; what `AND` does to
-- the clauses beside it is own).
use Rattle.std.specs.Prelude.{◌++◌, Bool, true, false, codes}
use Rattle.tuple_values.specs.Document.{ByteList}
use Rattle.query_syntax.specs.Letters.{AreBlank}
use Rattle.query_syntax.specs.Words.{NoLetter}
use Rattle.query_syntax.specs.declared.query.Role.{Role}
use Rattle.query_syntax.specs.declared.query.Role.TheVariants.{Required, Prohibited, Optional}

-- what requires or prohibits a clause: `+`, `-`, `!` or `NOT`
pub data Modifier : Type 0 where
  plus : Modifier
  minus : Modifier
  bang : Modifier
  not_word : Modifier

-- its bytes
abbrev pub modifier_print : Modifier → ByteList
modifier_print plus = codes "+"
modifier_print minus = codes "-"
modifier_print bang = codes "!"
modifier_print not_word = codes "NOT"

-- the role that it gives
abbrev pub modifier_role : Modifier → Role
modifier_role plus = Required
modifier_role minus = Prohibited
modifier_role bang = Prohibited
modifier_role not_word = Prohibited

-- the bytes behind a modifier don't continue it
abbrev pub ModifierEnds : Modifier → ByteList → Type 0
ModifierEnds plus behind = Unit {0}
ModifierEnds minus behind = Unit {0}
ModifierEnds bang behind = Unit {0}
ModifierEnds not_word behind = NoLetter behind

-- the role of a clause without a modifier: required where an `AND` stands beside it
abbrev pub plain_role : Bool → Role
plain_role true = Required
plain_role false = Optional

-- what joins two clauses: `AND`, `&&`, `OR` or two bars
pub data Conjunction : Type 0 where
  and_word : Conjunction
  and_signs : Conjunction
  or_word : Conjunction
  or_signs : Conjunction

-- its bytes
abbrev pub conjunction_print : Conjunction → ByteList
conjunction_print and_word = codes "AND"
conjunction_print and_signs = codes "&&"
conjunction_print or_word = codes "OR"
conjunction_print or_signs = codes "||"

-- it is one of the first two
abbrev pub is_and : Conjunction → Bool
is_and and_word = true
is_and and_signs = true
is_and or_word = false
is_and or_signs = false

-- what stands between two clauses: blanks, or a conjunction with blanks round it
pub data JointLayout : Type 0 where
  apart : (gap : ByteList) → JointLayout
  joined : (gap : ByteList) → Conjunction → (behind : ByteList) → JointLayout

-- its bytes
abbrev pub joint_print : JointLayout → ByteList
joint_print (apart gap) = gap
joint_print (joined gap c behind) = gap ++ (conjunction_print c ++ behind)

-- it is an `AND`
abbrev pub is_and_joint : JointLayout → Bool
is_and_joint (apart gap) = false
is_and_joint (joined gap c behind) = is_and c

-- its blanks are, and the bytes behind it don't continue its conjunction
abbrev pub IsJoint : JointLayout → ByteList → Type 0
IsJoint (apart gap) rest = AreBlank gap
IsJoint (joined gap c behind) rest = AreBlank gap × AreBlank behind × NoLetter (behind ++ rest)
