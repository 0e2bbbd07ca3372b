-- What an expression says, as a tree (own).
use Rattle.std.specs.Prelude.{ℕ, ◌+◌, ◌≤◌, max, List, [], ◌∷◌, Bool, Option, Some, None}

-- a text is its bytes
abbrev pub ByteList : Type 0
ByteList = List ℕ

mutual
  -- a call is a name with arguments
  pub data CallTree : Type 0 where
    call : ByteList → ArgTrees → CallTree

  -- an argument is a word, a key with a word, a key with a call, a call, or a call with a new name;
  -- a word is its text, and whether it stood in quotes
  pub data ArgTree : Type 0 where
    plain : ByteList → Bool → ArgTree
    named : ByteList → ByteList → Bool → ArgTree
    named_call : ByteList → CallTree → ArgTree
    sub : CallTree → ArgTree
    renamed : CallTree → ByteList → ArgTree

  -- the arguments of a call, in order
  pub data ArgTrees : Type 0 where
    no_args : ArgTrees
    an_arg : ArgTree → ArgTrees → ArgTrees

-- a list of arguments as those of a call
abbrev pub trees_of : List ArgTree → ArgTrees
trees_of [] = no_args
trees_of (a ∷ args) = an_arg a (trees_of args)

-- the argument that a word is, under its key or without one
abbrev pub word_tree : Option ByteList → ByteList → Bool → ArgTree
word_tree None text quoted = plain text quoted
word_tree (Some key) text quoted = named key text quoted

-- the argument that a call is, under its key or without one
abbrev pub call_arg_tree : Option ByteList → CallTree → ArgTree
call_arg_tree None c = sub c
call_arg_tree (Some key) c = named_call key c

-- how much there is to go down in an argument: a number that falls at each part
abbrev mutual
  pub call_depth : CallTree → ℕ
  call_depth (call name args) = trees_depth args + 1

  pub arg_depth : ArgTree → ℕ
  arg_depth (plain text quoted) = 0
  arg_depth (named key text quoted) = 0
  arg_depth (named_call key c) = call_depth c
  arg_depth (sub c) = call_depth c
  arg_depth (renamed c to) = call_depth c

  pub trees_depth : ArgTrees → ℕ
  trees_depth no_args = 1
  trees_depth (an_arg a args) = arg_depth a + trees_depth args + 1

-- the same of a list of arguments
abbrev pub args_depth : List ArgTree → ℕ
args_depth args = trees_depth (trees_of args)

-- how many calls stand one in another at the deepest place, the call itself counted
abbrev mutual
  pub levels : CallTree → ℕ
  levels (call name args) = args_levels args + 1

  pub arg_levels : ArgTree → ℕ
  arg_levels (plain text quoted) = 0
  arg_levels (named key text quoted) = 0
  arg_levels (named_call key c) = levels c
  arg_levels (sub c) = levels c
  arg_levels (renamed c to) = levels c

  pub args_levels : ArgTrees → ℕ
  args_levels no_args = 0
  args_levels (an_arg a args) = max (arg_levels a) (args_levels args)

-- how many calls there are, the call itself and those in it at any depth
abbrev mutual
  pub calls : CallTree → ℕ
  calls (call name args) = args_calls args + 1

  pub arg_calls : ArgTree → ℕ
  arg_calls (plain text quoted) = 0
  arg_calls (named key text quoted) = 0
  arg_calls (named_call key c) = calls c
  arg_calls (sub c) = calls c
  arg_calls (renamed c to) = calls c

  pub args_calls : ArgTrees → ℕ
  args_calls no_args = 0
  args_calls (an_arg a args) = arg_calls a + args_calls args

-- how many calls may stand one in another
abbrev pub level_limit : ℕ
level_limit = 24

-- how many calls there may be
abbrev pub call_limit : ℕ
call_limit = 200

-- a call has no more levels and no more calls than may be
abbrev pub KeepsLimits : CallTree → Type 0
KeepsLimits c = (levels c ≤ level_limit) × (calls c ≤ call_limit)
