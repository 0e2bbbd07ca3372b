-- The trees that the program's calls and arguments stand for (own).
use Rattle.std.specs.Prelude.{List, map, Option, Some, None}
use Rattle.expr_reader.specs.Tree.{ByteList, CallTree, call, ArgTree, plain, named, named_call, sub}
use Rattle.expr_reader.specs.Tree.{renamed, trees_of}
use Rattle.expr_reader.specs.declared.call.Call.{Call}
use Rattle.expr_reader.specs.declared.call.Arg.{Arg}
use Rattle.expr_reader.specs.declared.call.Arg.TheVariants.{Plain, Named, Sub, Renamed}
use Rattle.expr_reader.specs.declared.call.ArgValue.{ArgValue}
use Rattle.expr_reader.specs.declared.call.ArgValue.TheVariants as value

-- what a call is
abbrev pub call_tree : Call → CallTree
call_tree c = call c.name (trees_of c.args)

-- what an argument with a key is
abbrev pub named_tree : ByteList → ArgValue → ArgTree
named_tree key (value.Plain word) = named key word.text word.quoted
named_tree key (value.Sub c) = named_call key (call_tree c)

-- what an argument is
abbrev pub arg_tree : Arg → ArgTree
arg_tree (Plain word) = plain word.text word.quoted
arg_tree (Named key v) = named_tree key v
arg_tree (Sub c) = sub (call_tree c)
arg_tree (Renamed c to) = renamed (call_tree c) to

-- what a list of arguments is
abbrev pub arg_trees : List Arg → List ArgTree
arg_trees args = map arg_tree args

-- the call that there may be
abbrev pub inner_tree : Option Call → Option CallTree
inner_tree None = None
inner_tree (Some c) = Some (call_tree c)
