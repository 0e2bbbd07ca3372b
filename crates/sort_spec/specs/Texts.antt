-- The texts of sorts (Solr Reference Guide, "Common Query Parameters", sort), of the pairs of a
-- join (the same, "Stream Decorator Reference", innerJoin, on) and of lists of names (rules own).
use Rattle.std.specs.Prelude.{◌≡◌, ◌++◌, List, [], ◌∷◌, Bool, true, false, not, filter}
use Rattle.std.specs.Prelude.{bytes_eq, codes}
use Rattle.std.specs.Str.{str_to_ascii_lowercase}
use Rattle.tuple_values.specs.Document.{ByteList}
use Rattle.sort_spec.specs.Grammar.{is_blank, is_field_byte, is_side_byte, AreAll, AreSome, IsList}
use Rattle.sort_spec.specs.declared.term.SortTerm.{SortTerm}
use Rattle.sort_spec.specs.declared.pair.OnPair.{OnPair}

-- the word of a direction
abbrev pub direction_word : Bool → ByteList
direction_word false = codes "asc"
direction_word true = codes "desc"

-- the bytes are a term: a field and a direction in any case of letters, with blanks between them
pub record IsTerm (bytes : ByteList) (term : SortTerm) : Type 0 where
  pub before : ByteList
  pub between : ByteList
  pub direction : ByteList
  pub behind : ByteList
  pub blank_before : AreAll is_blank before
  pub named : AreSome is_field_byte term.field
  pub blank_between : AreSome is_blank between
  pub directed : str_to_ascii_lowercase direction ≡ direction_word term.descending
  pub blank_behind : AreAll is_blank behind
  pub printed : bytes ≡ before ++ (term.field ++ (between ++ (direction ++ behind)))

-- the bytes are a sort: terms between commas
abbrev pub IsSort : ByteList → List SortTerm → Type 0
IsSort = IsList IsTerm

-- how a pair is written: as one name, which is both, or as two with an equals sign between them
pub data PairLayout : Type 0 where
  one : ByteList → PairLayout
  two : ByteList → ByteList → PairLayout

-- its bytes
abbrev pub pair_print : PairLayout → ByteList
pair_print (one name) = name
pair_print (two left right) = left ++ (61 ∷ right)

-- what it says
abbrev pub pair_says : PairLayout → OnPair
pair_says (one name) = record { left = name; right = name }
pair_says (two left right) = record { left = left; right = right }

-- the bytes are a pair with blanks round it
pub record IsPair (bytes : ByteList) (pair : OnPair) : Type 0 where
  pub before : ByteList
  pub layout : PairLayout
  pub behind : ByteList
  pub blank_before : AreAll is_blank before
  pub named_left : AreSome is_side_byte pair.left
  pub named_right : AreSome is_side_byte pair.right
  pub blank_behind : AreAll is_blank behind
  pub printed : bytes ≡ before ++ (pair_print layout ++ behind)
  pub says : pair ≡ pair_says layout

-- the bytes are the text of pairs: pairs between commas
abbrev pub IsOn : ByteList → List OnPair → Type 0
IsOn = IsList IsPair

-- the bytes are a name with blanks round it
pub record IsName (bytes name : ByteList) : Type 0 where
  pub before : ByteList
  pub behind : ByteList
  pub blank_before : AreAll is_blank before
  pub named : AreSome is_field_byte name
  pub blank_behind : AreAll is_blank behind
  pub printed : bytes ≡ before ++ (name ++ behind)

-- the names without those that stand before
abbrev pub once : List ByteList → List ByteList
once [] = []
once (name ∷ names) = name ∷ filter (λ other. not (bytes_eq other name)) (once names)

-- the bytes are a list of names: names between commas, each of which counts once
pub record IsNames (bytes : ByteList) (names : List ByteList) : Type 0 where
  pub written : List ByteList
  pub list : IsList IsName bytes written
  pub says : names ≡ once written
