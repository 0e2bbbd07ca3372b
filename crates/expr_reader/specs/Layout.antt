-- How a call is laid out, and what it says (Solr Reference Guide, "Streaming Expressions"; own).
use Rattle.std.specs.Prelude.{ℕ, List, [], ◌∷◌, ◌++◌, Option, Some, None, encode_utf8_all}
use Rattle.expr_reader.specs.Tree.{ByteList, CallTree, call, ArgTree, renamed, trees_of, word_tree}
use Rattle.expr_reader.specs.Tree.{call_arg_tree}
use Rattle.expr_reader.specs.Word.{AreBlank, IsGap, IsName, IsKey}
use Rattle.expr_reader.specs.Word.{Writing, writing_print, writing_text, is_quoted, IsWriting}

-- a key, with the blanks before it and those before its equals sign
pub record KeyLayout : Type 0 where
  pub before : List ℕ
  pub key : List ℕ
  pub behind : List ℕ

-- the characters of a key with its equals sign, if there is one
abbrev pub key_print : Option KeyLayout → List ℕ
key_print None = []
key_print (Some k) = k.before ++ (k.key ++ (k.behind ++ 61 ∷ []))

-- the bytes of the key
abbrev pub key_text : Option KeyLayout → Option ByteList
key_text None = None
key_text (Some k) = Some (encode_utf8_all k.key)

-- a key with blanks round it, or none
abbrev pub IsKeyLayout : Option KeyLayout → Type 0
IsKeyLayout None = Unit {0}
IsKeyLayout (Some k) = AreBlank k.before × IsKey k.key × AreBlank k.behind

mutual
  -- a call: its name, blanks, a parenthesis, blanks, and its arguments
  pub data CallLayout : Type 0 where
    call_laid : (name gap space : List ℕ) → ArgsLayout → CallLayout

  -- an argument: perhaps a key, and a word or a call with the blanks round it; or a call with the
  -- blanks before it, those before and behind `as`, its new name, and the blanks behind that
  pub data ArgLayout : Type 0 where
    word_laid : Option KeyLayout → (before : List ℕ) → Writing → (behind : List ℕ) → ArgLayout
    sub_laid : Option KeyLayout → (before : List ℕ) → CallLayout → (behind : List ℕ) → ArgLayout
    renamed_laid : (before : List ℕ) → CallLayout → (gap space to behind : List ℕ) → ArgLayout

  -- the arguments of a call, in order
  pub data ArgsLayout : Type 0 where
    none_laid : ArgsLayout
    arg_laid : ArgLayout → ArgsLayout → ArgsLayout

-- their characters: of arguments with commas between and the closing parenthesis, and of those
-- behind a first one, with a comma before each
abbrev mutual
  pub call_print : CallLayout → List ℕ
  call_print (call_laid name gap space args) = name ++ (gap ++ 40 ∷ (space ++ args_print args))

  pub arg_print : ArgLayout → List ℕ
  arg_print (word_laid key before w behind) =
      key_print key ++ (before ++ (writing_print w ++ behind))
  arg_print (sub_laid key before c behind) = key_print key ++ (before ++ (call_print c ++ behind))
  arg_print (renamed_laid before c gap space to behind) =
      before ++ (call_print c ++ (gap ++ 97 ∷ 115 ∷ (space ++ (to ++ behind))))

  pub args_print : ArgsLayout → List ℕ
  args_print none_laid = 41 ∷ []
  args_print (arg_laid a more) = arg_print a ++ more_print more

  pub more_print : ArgsLayout → List ℕ
  more_print none_laid = 41 ∷ []
  more_print (arg_laid a more) = 44 ∷ (arg_print a ++ more_print more)

-- the call and the arguments that they say
abbrev mutual
  pub call_says : CallLayout → CallTree
  call_says (call_laid name gap space args) = call (encode_utf8_all name) (trees_of (args_say args))

  pub arg_says : ArgLayout → ArgTree
  arg_says (word_laid key before w behind) =
      word_tree (key_text key) (writing_text w) (is_quoted w)
  arg_says (sub_laid key before c behind) = call_arg_tree (key_text key) (call_says c)
  arg_says (renamed_laid before c gap space to behind) = renamed (call_says c) (encode_utf8_all to)

  pub args_say : ArgsLayout → List ArgTree
  args_say none_laid = []
  args_say (arg_laid a more) = arg_says a ∷ args_say more

-- their parts are allowed
abbrev mutual
  pub IsCall : CallLayout → Type 0
  IsCall (call_laid name gap space args) =
      IsName name × AreBlank gap × AreBlank space × AreArgs args

  pub IsArg : ArgLayout → Type 0
  IsArg (word_laid key before w behind) =
      IsKeyLayout key × AreBlank before × IsWriting w × AreBlank behind
  IsArg (sub_laid key before c behind) =
      IsKeyLayout key × AreBlank before × IsCall c × AreBlank behind
  IsArg (renamed_laid before c gap space to behind) =
      AreBlank before × IsCall c × IsGap gap × IsGap space × IsName to × AreBlank behind

  pub AreArgs : ArgsLayout → Type 0
  AreArgs none_laid = Unit {0}
  AreArgs (arg_laid a more) = IsArg a × AreArgs more
