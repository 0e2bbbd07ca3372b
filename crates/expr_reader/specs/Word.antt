-- Names, keys and words in an expression (Solr Reference Guide, "Streaming Expressions"; own).
use Rattle.std.specs.Prelude.{◌≡◌, ℕ, List, [], ◌∷◌, ◌++◌, Bool, true, false, ◌==◌}
use Rattle.std.specs.Prelude.{encode_utf8, encode_utf8_all}
use Rattle.std.specs.List.{AllByRecursion}
use Rattle.expr_reader.specs.Letters.{is_blank, is_name_letter, begins_name, is_key_letter}
use Rattle.expr_reader.specs.Letters.{is_special}
use Rattle.expr_reader.specs.Tree.{ByteList}

-- blanks alone, perhaps none
abbrev pub AreBlank : List ℕ → Type 0
AreBlank = AllByRecursion (λ c. is_blank c ≡ true)

-- blanks alone, one or more
abbrev pub IsGap : List ℕ → Type 0
IsGap [] = ⊥
IsGap (c ∷ cs) = AreBlank (c ∷ cs)

-- one or more name letters, the first no digit
abbrev pub IsName : List ℕ → Type 0
IsName [] = ⊥
IsName (c ∷ cs) = (begins_name c ≡ true) × AllByRecursion (λ d. is_name_letter d ≡ true) cs

-- one or more name letters, dots or dashes
abbrev pub IsKey : List ℕ → Type 0
IsKey [] = ⊥
IsKey (c ∷ cs) = AllByRecursion (λ d. is_key_letter d ≡ true) (c ∷ cs)

-- the first character is no blank
abbrev pub BeginsPlain : List ℕ → Type 0
BeginsPlain [] = ⊥
BeginsPlain (c ∷ cs) = is_blank c ≡ false

-- the last character is no blank
abbrev pub EndsPlain : List ℕ → Type 0
EndsPlain [] = ⊥
EndsPlain (c ∷ []) = is_blank c ≡ false
EndsPlain (c ∷ d ∷ cs) = EndsPlain (d ∷ cs)

-- one or more characters that aren't special, with no blank at either end
abbrev pub IsBare : List ℕ → Type 0
IsBare cs = AllByRecursion (λ c. is_special c ≡ false) cs × BeginsPlain cs × EndsPlain cs

-- what stands between quotes: a letter, `\"` for a quote, or a backslash that stays with its letter
pub data Inside : Type 0 where
  nothing_more : Inside
  letter : ℕ → Inside → Inside
  escaped_quote : Inside → Inside
  kept_backslash : ℕ → Inside → Inside

-- its characters
abbrev pub inside_print : Inside → List ℕ
inside_print nothing_more = []
inside_print (letter c more) = c ∷ inside_print more
inside_print (escaped_quote more) = 92 ∷ 34 ∷ inside_print more
inside_print (kept_backslash c more) = 92 ∷ c ∷ inside_print more

-- the bytes of the text that it stands for
abbrev pub inside_text : Inside → ByteList
inside_text nothing_more = []
inside_text (letter c more) = encode_utf8 c ++ inside_text more
inside_text (escaped_quote more) = 34 ∷ inside_text more
inside_text (kept_backslash c more) = 92 ∷ (encode_utf8 c ++ inside_text more)

-- a letter is neither a quote nor a backslash, and a kept backslash stands before no quote
abbrev pub IsInside : Inside → Type 0
IsInside nothing_more = Unit {0}
IsInside (letter c more) = ((c == 34) ≡ false) × ((c == 92) ≡ false) × IsInside more
IsInside (escaped_quote more) = IsInside more
IsInside (kept_backslash c more) = ((c == 34) ≡ false) × IsInside more

-- a word as it stands in an expression
pub data Writing : Type 0 where
  bare : List ℕ → Writing
  quoted : Inside → Writing

-- its characters
abbrev pub writing_print : Writing → List ℕ
writing_print (bare cs) = cs
writing_print (quoted i) = 34 ∷ (inside_print i ++ 34 ∷ [])

-- the bytes of its text
abbrev pub writing_text : Writing → ByteList
writing_text (bare cs) = encode_utf8_all cs
writing_text (quoted i) = inside_text i

-- it stands in quotes
abbrev pub is_quoted : Writing → Bool
is_quoted (bare cs) = false
is_quoted (quoted i) = true

-- it is allowed
abbrev pub IsWriting : Writing → Type 0
IsWriting (bare cs) = IsBare cs
IsWriting (quoted i) = IsInside i
