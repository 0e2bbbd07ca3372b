-- Bounds and ranges, and what they say (Lucene's classic query syntax).
use Rattle.std.specs.Prelude.{◌≡◌, ℕ, List, [], ◌∷◌, ◌++◌, Bool, true, false, Option, Some, None}
use Rattle.std.specs.Prelude.{if◌then◌else◌, codes}
use Rattle.tuple_values.specs.Document.{ByteList}
use Rattle.query_syntax.specs.Letters.{AreBlank, AreSomeBlanks, is_bound_byte, is_quoted_byte}
use Rattle.query_syntax.specs.Letters.{Letter, AreLetters, letters_print, letters_text, has_escape}
use Rattle.query_syntax.specs.Letters.{is_just}
use Rattle.query_syntax.specs.Words.{quoted_print}
use Rattle.query_syntax.specs.declared.query.Test.{Test}
use Rattle.query_syntax.specs.declared.query.Test.TheVariants.{Range}

-- a bound of a range
pub data BoundLayout : Type 0 where
  bare : List Letter → BoundLayout
  quoted : List Letter → BoundLayout

-- its bytes
abbrev pub bound_print : BoundLayout → ByteList
bound_print (bare letters) = letters_print letters
bound_print (quoted letters) = quoted_print letters

-- a bound without quotes is open where it is just `*`
abbrev pub bare_says : Bool → ByteList → Option ByteList
bare_says escapes text = if is_just (codes "*") escapes text then None else Some text

-- the bound that it says
abbrev pub bound_says : BoundLayout → Option ByteList
bound_says (bare letters) = bare_says (has_escape letters) (letters_text letters)
bound_says (quoted letters) = Some (letters_text letters)

-- a bound without quotes: it isn't empty, and not `TO`
pub record IsBareBound (letters : List Letter) : Type 0 where
  pub are_letters : AreLetters is_bound_byte letters
  pub not_empty : ¬ (letters ≡ [])
  pub not_to : is_just (codes "TO") (has_escape letters) (letters_text letters) ≡ false

-- a bound
abbrev pub IsBound : BoundLayout → Type 0
IsBound (bare letters) = IsBareBound letters
IsBound (quoted letters) = AreLetters is_quoted_byte letters

-- a range: brackets, of which `[` and `]` include, two bounds, and blanks round them
pub record RangeLayout : Type 0 where
  pub low_in : Bool
  pub before_low : ByteList
  pub low : BoundLayout
  pub behind_low : ByteList
  pub before_high : ByteList
  pub high : BoundLayout
  pub behind_high : ByteList
  pub high_in : Bool

-- the bracket before a range
abbrev pub opening : Bool → ℕ
opening true = 91
opening false = 123

-- the bracket behind it
abbrev pub closing : Bool → ℕ
closing true = 93
closing false = 125

-- what stands behind the upper bound
abbrev pub end_print : RangeLayout → ByteList
end_print r = r.behind_high ++ closing r.high_in ∷ []

-- what stands behind the lower bound
abbrev pub to_print : RangeLayout → ByteList
to_print r =
    r.behind_low ++ 84 ∷ 79 ∷ (r.before_high ++ (bound_print r.high ++ end_print r))

-- the bytes of a range
abbrev pub range_print : RangeLayout → ByteList
range_print r = opening r.low_in ∷ (r.before_low ++ (bound_print r.low ++ to_print r))

-- its parts are allowed
pub record IsRange (r : RangeLayout) : Type 0 where
  pub before_low : AreBlank r.before_low
  pub low : IsBound r.low
  pub behind_low : AreSomeBlanks r.behind_low
  pub before_high : AreSomeBlanks r.before_high
  pub high : IsBound r.high
  pub behind_high : AreBlank r.behind_high

-- the test that it says
abbrev pub range_says : RangeLayout → Test
range_says r = Range (bound_says r.low) r.low_in (bound_says r.high) r.high_in
