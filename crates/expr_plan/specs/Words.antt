-- The words among the arguments of a call (own).
use Rattle.std.specs.Prelude.{ℕ, List, [], ◌∷◌, length, Bool, ◌&&◌, nat_lt, Option, Some, None}
use Rattle.std.specs.Prelude.{bytes_eq, slice_get, if◌then◌else◌}
use Rattle.std.specs.List.{list_all, filter_map}
use Rattle.std.specs.Option.{option_or}
use Rattle.tuple_values.specs.Document.{ByteList}
use Rattle.sort_spec.specs.Grammar.{is_field_byte}
use Rattle.expr_reader.specs.Tree.{CallTree, call, ArgTree, plain, named, named_call, sub, renamed}
use Rattle.expr_reader.specs.Tree.{ArgTrees, no_args, an_arg}
use Rattle.expr_reader.specs.declared.call.Word.{Word}

-- whether a text is a field: one or more characters other than white space and `,`
abbrev pub is_field : ByteList → Bool
is_field text = nat_lt 0 (length text) && list_all is_field_byte text

-- the name of a call
abbrev pub called : CallTree → ByteList
called (call name args) = name

-- the arguments of a call as a list
abbrev pub arg_list : ArgTrees → List ArgTree
arg_list no_args = []
arg_list (an_arg a args) = a ∷ arg_list args

-- the word that an argument is, if it is a plain one
abbrev pub plain_of : ArgTree → Option Word
plain_of (plain text quoted) = Some (record { text = text; quoted = quoted })
plain_of (named key text quoted) = None
plain_of (named_call key c) = None
plain_of (sub c) = None
plain_of (renamed c to) = None

-- the plain word at a place among the plain words, counted from 0
abbrev pub plain_at : ℕ → List ArgTree → Option Word
plain_at place args = slice_get (filter_map plain_of args) place

-- the word of an argument, if it stands under the key
abbrev pub value_of : ByteList → ArgTree → Option Word
value_of key (plain text quoted) = None
value_of key (named other text quoted) =
    if bytes_eq other key then Some (record { text = text; quoted = quoted }) else None
value_of key (named_call other c) = None
value_of key (sub c) = None
value_of key (renamed c to) = None

-- the first word under the key
abbrev pub word_under : ByteList → List ArgTree → Option Word
word_under key [] = None
word_under key (a ∷ args) = option_or (value_of key a) (word_under key args)
