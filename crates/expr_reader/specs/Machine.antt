-- An expression as far as it is read (own).
use Rattle.std.specs.Prelude.{◌≡◌, ℕ, ◌+◌, max, List, [], ◌∷◌, ◌++◌, Bool, true, false, ◌||◌}
use Rattle.std.specs.Prelude.{nat_lt, length, Option, Some, None, MatchBool}
use Rattle.expr_reader.specs.Tree.{ByteList, CallTree, call, ArgTree, renamed, trees_of, word_tree}
use Rattle.expr_reader.specs.Tree.{call_arg_tree, level_limit, call_limit}
use Rattle.expr_reader.specs.Views.{inner_tree}
use Rattle.expr_reader.specs.declared.machine.Place.{Place}
use Rattle.expr_reader.specs.declared.machine.Place.TheVariants.{Start, Open, Before, Bare, Quote}
use Rattle.expr_reader.specs.declared.machine.Place.TheVariants.{Escape, AfterCall, Close}
use Rattle.expr_reader.specs.declared.machine.Reading.{Reading}
use Rattle.expr_reader.specs.declared.open_calls.OpenCall.{OpenCall}

-- what is read so far: of the innermost open call the name, the whole arguments, and of the next
-- one the key, the text and the call; the calls round it; and how many calls were begun, and how
-- many were open at once
pub record Machine : Type 0 where
  pub place : Place
  pub name : ByteList
  pub args : List ArgTree
  pub key : Option ByteList
  pub text : ByteList
  pub blanks : ByteList
  pub inner : Option CallTree
  pub outer : List OpenCall
  pub begun : ℕ
  pub deepest : ℕ

-- what a reading of the code has read
abbrev pub machine : Reading → Machine
machine r = record {
  place = r.place;
  name = r.name;
  args = r.args;
  key = r.key;
  text = r.text.0;
  blanks = r.text.1;
  inner = inner_tree r.inner;
  outer = r.outer;
  begun = r.begun;
  deepest = r.deepest;
}

-- nothing is read
abbrev pub start : Machine
start = record {
  place = Start;
  name = [];
  args = [];
  key = None;
  text = [];
  blanks = [];
  inner = None;
  outer = [];
  begun = 0;
  deepest = 0;
}

-- more calls were begun, or open at once, than may be
abbrev pub is_over : Machine → Bool
is_over m = nat_lt level_limit m.deepest || nat_lt call_limit m.begun

-- the text goes on
abbrev pub grow : ByteList → Machine → Machine
grow more m = record m { text = (m.text ++ m.blanks) ++ more; blanks = [] }

-- the text is the name of a call that opens
abbrev pub open_call : Machine → Machine
open_call m = record m {
  place = Open;
  name = m.text;
  args = [];
  key = None;
  text = [];
  blanks = [];
  outer = record { name = m.name; args = m.args; key = m.key } ∷ m.outer;
  begun = m.begun + 1;
  deepest = max m.deepest (length m.outer + 1);
}

-- the place behind a call that stands in these
abbrev pub behind_call : List OpenCall → Place
behind_call [] = Close
behind_call (o ∷ outer) = AfterCall

-- the innermost call is closed, if one is open
abbrev pub close_in : List OpenCall → Machine → Machine
close_in [] m = m
close_in (o ∷ outer) m = record m {
  place = behind_call outer;
  name = o.name;
  args = o.args;
  key = o.key;
  inner = Some (call m.name (trees_of m.args));
  outer = outer;
}

-- the innermost call is closed
abbrev pub close : Machine → Machine
close m = close_in m.outer m

-- one more argument
abbrev pub add_arg : ArgTree → Machine → Machine
add_arg a m = record m { args = m.args ++ a ∷ []; key = None; text = []; blanks = [] }

-- the word that was read is an argument
abbrev pub end_word : Bool → Machine → Machine
end_word quoted m = add_arg (word_tree m.key m.text quoted) m

-- the call that was read is an argument
abbrev pub end_call_of : Option CallTree → Machine → Machine
end_call_of None m = m
end_call_of (Some c) m = record (add_arg (call_arg_tree m.key c) m) { inner = None }

-- the call that was read is an argument
abbrev pub end_call : Machine → Machine
end_call m = end_call_of m.inner m

-- the call that was read is an argument under the name that was read
abbrev pub end_renamed_of : Option CallTree → Machine → Machine
end_renamed_of None m = m
end_renamed_of (Some c) m = record (add_arg (renamed c m.text) m) { inner = None }

-- the call that was read is an argument under the name that was read
abbrev pub end_renamed : Machine → Machine
end_renamed m = end_renamed_of m.inner m

-- what a step of the code answers: it went on, or the reading is as it was
abbrev pub Moves : Machine → Option Machine → Bool → Machine → Type 0
Moves old stepped live new = MatchBool live (stepped ≡ Some new) ((stepped ≡ None) × (new ≡ old))

-- an expression has been read to its end
abbrev pub is_close : Place → Bool
is_close Close = true
is_close _ = false

-- a character past ASCII may come next
abbrev pub takes_wide : Place → Bool
takes_wide Open = true
takes_wide Before = true
takes_wide Bare = true
takes_wide Quote = true
takes_wide Escape = true
takes_wide _ = false
