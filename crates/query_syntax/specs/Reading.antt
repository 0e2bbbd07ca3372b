-- The clauses that bytes say, as a function of the bytes (own).
use Rattle.std.specs.Prelude.{◌≡◌, ℕ, ◌+◌, ◌<◌, length, take, List, [], ◌∷◌, Option, Some, None}
use Rattle.std.specs.Prelude.{◌-◌, Result, Ok, Err}
use Rattle.tuple_values.specs.Document.{ByteList}
use Rattle.query_syntax.specs.Tree.{ClauseTree}
use Rattle.query_syntax.specs.Machine.{Machine, start}
use Rattle.query_syntax.specs.Steps.{step}
use Rattle.query_syntax.specs.declared.place.Stage.{Stage}
use Rattle.query_syntax.specs.declared.place.Stage.TheVariants.{First, Behind, Joined, Modified}
use Rattle.query_syntax.specs.declared.place.Place.{Place}
use Rattle.query_syntax.specs.declared.place.Place.TheVariants.{Item, Star, Colon, Letters}
use Rattle.query_syntax.specs.declared.place.Place.TheVariants.{Escape, Tested, Minus}
use Rattle.query_syntax.specs.declared.place.Place.TheVariants.{MinusEscape, Before, Closed, Gap}
use Rattle.query_syntax.specs.declared.place.Place.TheVariants.{T, To}
use Rattle.query_syntax.specs.declared.open_lists.OpenList.{OpenList}

-- the bytes from here on, as long as queries go on so
abbrev pub run : Option Machine → ByteList → Option Machine
run None bytes = None
run (Some m) [] = Some m
run (Some m) (b ∷ bytes) = run (step m b (b ∷ [])) bytes

-- the clauses of the outermost list
abbrev pub whole : List OpenList → List ClauseTree → Option (List ClauseTree)
whole [] clauses = Some clauses
whole (o ∷ outer) clauses = None

-- the same behind an item
abbrev pub whole_behind : Stage → Machine → Option (List ClauseTree)
whole_behind First m = None
whole_behind Behind m = whole m.outer m.clauses
whole_behind Joined m = None
whole_behind Modified m = None

-- the clauses that are read, where the last item is whole and each list is closed
abbrev pub whole_at : Place → Machine → Option (List ClauseTree)
whole_at (Item stage) m = whole_behind stage m
whole_at Star m = None
whole_at Colon m = None
whole_at (Letters kind) m = None
whole_at (Escape kind) m = None
whole_at Tested m = None
whole_at Minus m = None
whole_at MinusEscape m = None
whole_at (Before side) m = None
whole_at (Closed side) m = None
whole_at Gap m = None
whole_at T m = None
whole_at To m = None

-- the clauses that are read
abbrev pub all_read : Option Machine → Option (List ClauseTree)
all_read None = None
all_read (Some m) = whole_at m.place m

-- the clauses of a text that ends here: at a blank its last word would end
abbrev pub asks : Option Machine → Option (List ClauseTree)
asks None = None
asks (Some m) = all_read (step m 32 (32 ∷ []))

-- the clauses that the bytes say, where they are a query
abbrev pub query_of : ByteList → Option (List ClauseTree)
query_of bytes = asks (run (Some start) bytes)

-- the bytes before this place can be read, and with the one there they can't
pub record Sticks (bytes : ByteList) (at : ℕ) : Type 0 where
  pub within : at < length bytes
  pub machine : Machine
  pub before : run (Some start) (take at bytes) ≡ Some machine
  pub stuck : run (Some start) (take (at + 1) bytes) ≡ None

-- no query goes on: at a byte with which it can't, or at the end where something is wanting
pub data Ends (bytes : ByteList) (at : ℕ) : Type 0 where
  at_a_byte : Sticks bytes at → Ends bytes at
  at_the_end : (m : Machine) → at ≡ length bytes → run (Some start) bytes ≡ Some m
      → asks (Some m) ≡ None → Ends bytes at

-- how a run of the code over the bytes ended, unless memory was wanting
abbrev pub EndsIn : ByteList → Machine → Option ℕ → Type 0
EndsIn bytes m None = run (Some start) bytes ≡ Some m
EndsIn bytes m (Some at) = Sticks bytes at

-- the clauses of a text that ends at a place, or that place where something is wanting
abbrev pub asked_at : ℕ → Option (List ClauseTree) → Result (List ClauseTree) ℕ
asked_at at None = Err at
asked_at at (Some clauses) = Ok clauses

-- the reading of the bytes from a place on: their clauses, or the place of the first byte with
-- which no query goes on, which is that of the end where something is wanting
abbrev pub read_from : ℕ → Option Machine → ByteList → Result (List ClauseTree) ℕ
read_from at None bytes = Err (at - 1)
read_from at (Some m) [] = asked_at at (asks (Some m))
read_from at (Some m) (b ∷ bytes) = read_from (at + 1) (step m b (b ∷ [])) bytes

-- the reading of a text: its clauses, or the place of its fault
unfoldable pub read_of : ByteList → Result (List ClauseTree) ℕ
read_of bytes = read_from 0 (Some start) bytes
