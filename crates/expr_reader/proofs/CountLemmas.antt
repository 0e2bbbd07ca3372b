-- Calls and levels, as they are counted while they are read.
use Rattle.std.proofs.Common.{◌≡◌, ℕ, ◌+◌, max, Option, Some, None, refl, arith}
use Rattle.expr_reader.specs.Tree.{ByteList, CallTree, ArgTree, plain, named, named_call, sub}
use Rattle.expr_reader.specs.Tree.{renamed, ArgTrees, no_args, an_arg, word_tree, call_arg_tree}
use Rattle.expr_reader.specs.Tree.{levels, args_levels, calls, arg_calls}

-- the level that an argument reaches in a call of this level; a word reaches none
abbrev pub arg_reach : ℕ → ArgTree → ℕ
arg_reach k (plain text quoted) = 0
arg_reach k (named key text quoted) = 0
arg_reach k (named_call key c) = k + levels c
arg_reach k (sub c) = k + levels c
arg_reach k (renamed c to) = k + levels c

-- the level that some arguments reach
abbrev pub args_reach : ℕ → ArgTrees → ℕ
args_reach k no_args = 0
args_reach k (an_arg a args) = max (arg_reach k a) (args_reach k args)

-- with the call itself, it is that of their levels
pub reach_levels : (k : ℕ) (args : ArgTrees) → max k (args_reach k args) ≡ k + args_levels args
reach_levels k no_args = omega arith
reach_levels k (an_arg (plain t q) args) = omega (arith, reach_levels k args)
reach_levels k (an_arg (named key t q) args) = omega (arith, reach_levels k args)
reach_levels k (an_arg (named_call key c) args) = omega (arith, reach_levels k args)
reach_levels k (an_arg (sub c) args) = omega (arith, reach_levels k args)
reach_levels k (an_arg (renamed c to) args) = omega (arith, reach_levels k args)

-- a word has no call
pub word_calls : (key : Option ByteList) (t : ByteList) (q : _)
    → arg_calls (word_tree key t q) ≡ 0
word_calls None t q = refl
word_calls (Some key) t q = refl

-- and reaches no level
pub word_reach : (k : ℕ) (key : Option ByteList) (t : ByteList) (q : _)
    → arg_reach k (word_tree key t q) ≡ 0
word_reach k None t q = refl
word_reach k (Some key) t q = refl

-- a call as an argument has its calls
pub call_calls : (key : Option ByteList) (c : CallTree) → arg_calls (call_arg_tree key c) ≡ calls c
call_calls None c = refl
call_calls (Some key) c = refl

-- and reaches its levels
pub call_reach : (k : ℕ) (key : Option ByteList) (c : CallTree)
    → arg_reach k (call_arg_tree key c) ≡ k + levels c
call_reach k None c = refl
call_reach k (Some key) c = refl
