-- A query as far as it is read, and how its parts end (own).
use Rattle.std.specs.Prelude.{ℕ, List, [], ◌++◌, Bool, false, ◌||◌}
use Rattle.std.specs.Prelude.{◌==◌, Option, Some, None, if◌then◌else◌, string_bytes}
use Rattle.tuple_values.specs.Document.{ByteList}
use Rattle.query_syntax.specs.Letters.{is_word_byte, is_bound_byte, is_quoted_byte}
use Rattle.query_syntax.specs.Tree.{ClauseTree}
use Rattle.query_syntax.specs.declared.place.Stage.{Stage}
use Rattle.query_syntax.specs.declared.place.Stage.TheVariants.{First}
use Rattle.query_syntax.specs.declared.place.Kind.{Kind}
use Rattle.query_syntax.specs.declared.place.Kind.TheVariants.{Name, Word, Number, Quote, Bare}
use Rattle.query_syntax.specs.declared.place.Kind.TheVariants.{Quoted}
use Rattle.query_syntax.specs.declared.place.Place.{Place}
use Rattle.query_syntax.specs.declared.place.Place.TheVariants.{Item, Letters, Escape}
use Rattle.query_syntax.specs.declared.open_lists.OpenList.{OpenList}
use Rattle.query_syntax.specs.declared.reading.Reading.{Reading}
use Rattle.query_syntax.specs.declared.query.Role.{Role}
use Rattle.query_syntax.specs.declared.query.Role.TheVariants.{Optional}

-- What is read so far: where; of the item that is being read its role so far, the name of its
-- field, its letters and whether some of them was escaped, and its bounds; of the innermost list
-- the field of the group that it is in, if any, and its clauses; and the lists round it.
pub record Machine : Type 0 where
  pub place : Place
  pub role : Role
  pub name : ByteList
  pub text : ByteList
  pub escapes : Bool
  pub low_in : Bool
  pub low : Option ByteList
  pub high : Option ByteList
  pub field : Option ByteList
  pub clauses : List ClauseTree
  pub outer : List OpenList

-- what a reading of the code has read
abbrev pub machine : Reading → Machine
machine r = record {
  place = r.place;
  role = r.role;
  name = r.name;
  text = string_bytes r.text;
  escapes = r.escapes;
  low_in = r.low_in;
  low = r.low;
  high = r.high;
  field = r.field;
  clauses = r.clauses;
  outer = r.outer;
}

-- nothing of an item is read
abbrev pub ready : Stage → Role → Option ByteList → List ClauseTree → List OpenList → Machine
ready stage role field clauses outer = record {
  place = Item stage;
  role = role;
  name = [];
  text = [];
  escapes = false;
  low_in = false;
  low = None;
  high = None;
  field = field;
  clauses = clauses;
  outer = outer;
}

-- nothing is read
abbrev pub start : Machine
start = ready First Optional None [] []

-- ---- letters

-- a byte that is a letter by itself
abbrev pub is_letter : Kind → ℕ → Bool
is_letter (Name stage) b = is_word_byte b
is_letter Word b = is_word_byte b
is_letter Number b = is_word_byte b
is_letter Quote b = is_quoted_byte b
is_letter (Bare side) b = is_bound_byte b
is_letter (Quoted side) b = is_quoted_byte b

-- a byte that is one, or with which one begins
abbrev pub takes : Kind → ℕ → Bool
takes kind b = b == 92 || is_letter kind b

-- these bytes are one letter more
abbrev pub push : Kind → Machine → ByteList → Machine
push kind m bytes = record m { place = Letters kind; text = m.text ++ bytes }

-- a letter, or a backslash, behind others
abbrev pub letter_step : Kind → Machine → ℕ → ByteList → Machine
letter_step kind m b bytes =
    if b == 92 then record m { place = Escape kind } else push kind m bytes

-- a byte with which letters begin
abbrev pub begin : Kind → Machine → ℕ → ByteList → Option Machine
begin kind m b bytes =
    if takes kind b then Some (letter_step kind (record m { text = []; escapes = false }) b bytes)
    else None
