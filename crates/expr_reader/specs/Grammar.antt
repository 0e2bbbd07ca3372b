-- Expressions and the places of faults (Solr Reference Guide, "Streaming Expressions"; own).
use Rattle.std.specs.Prelude.{◌≡◌, ◌⊎◌, ℕ, ◌+◌, ◌<◌, ◌≤◌, length, take, List, ◌++◌}
use Rattle.std.specs.Prelude.{true, encode_utf8_all}
use Rattle.std.specs.Str.{all_scalars}
use Rattle.expr_reader.specs.Tree.{ByteList, CallTree, KeepsLimits}
use Rattle.expr_reader.specs.Layout.{CallLayout, call_print, call_says, IsCall}
use Rattle.expr_reader.specs.Word.{AreBlank}

-- the bytes are those of characters that are a call with blanks round it, and the call says this
pub record IsExpression (bytes : ByteList) (tree : CallTree) : Type 0 where
  pub before : List ℕ
  pub layout : CallLayout
  pub behind : List ℕ
  pub blank_before : AreBlank before
  pub allowed : IsCall layout
  pub blank_behind : AreBlank behind
  pub characters : all_scalars (before ++ (call_print layout ++ behind)) ≡ true
  pub printed : bytes ≡ encode_utf8_all (before ++ (call_print layout ++ behind))
  pub says : tree ≡ call_says layout

-- some expression begins so
abbrev pub GoesOn : ByteList → Type 0
GoesOn front = (more : ByteList) × (tree : CallTree) × IsExpression (front ++ more) tree

-- the length of the longest front with which some expression begins
pub record IsPlace (bytes : ByteList) (at : ℕ) : Type 0 where
  pub within : at ≤ length bytes
  pub front : GoesOn (take at bytes)
  pub longest : at < length bytes → ¬ (GoesOn (take (at + 1) bytes))

-- how many bytes an expression may have
abbrev pub byte_limit : ℕ
byte_limit = 65536

-- No expression that begins so keeps the limits: so many calls are begun in this front and not
-- closed at some place of it, or begun at all, that each has too many levels or too many calls.
abbrev pub IsOver : ByteList → Type 0
IsOver front = (more : ByteList) (tree : CallTree) → IsExpression (front ++ more) tree
    → ¬ (KeepsLimits tree)

-- there are too many bytes, or the longest front with which some expression begins is over the
-- limits
abbrev pub IsTooLarge : ByteList → Type 0
IsTooLarge bytes = (byte_limit < length bytes) ⊎
    ((at : ℕ) × IsPlace bytes at × IsOver (take at bytes))
