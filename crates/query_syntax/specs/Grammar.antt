-- The texts of queries and the places of their faults (the forms are those of Lucene's classic
-- query syntax; the places and the limit are own).
use Rattle.std.specs.Prelude.{◌≡◌, ℕ, ◌+◌, ◌<◌, ◌≤◌, length, take, List, ◌++◌, false, None}
use Rattle.tuple_values.specs.Document.{ByteList}
use Rattle.query_syntax.specs.Letters.{AreBlank}
use Rattle.query_syntax.specs.Layout.{ListLayout, list_print, list_says, list_levels, AreItems}
use Rattle.query_syntax.specs.Tree.{ClauseTree}

-- how many parentheses may stand one in another
abbrev pub level_limit : ℕ
level_limit = 100

-- the bytes are a list with blanks before it, and say these clauses
pub record IsQuery (bytes : ByteList) (clauses : List ClauseTree) : Type 0 where
  pub before : ByteList
  pub layout : ListLayout
  pub blank_before : AreBlank before
  pub allowed : AreItems None layout
  pub levels : list_levels layout ≤ level_limit
  pub printed : bytes ≡ before ++ list_print layout
  pub says : clauses ≡ list_says None false layout

-- some query begins so
abbrev pub GoesOn : ByteList → Type 0
GoesOn front = (more : ByteList) × (clauses : List ClauseTree) × IsQuery (front ++ more) clauses

-- the length of the longest front with which some query begins
pub record IsPlace (bytes : ByteList) (at : ℕ) : Type 0 where
  pub within : at ≤ length bytes
  pub front : GoesOn (take at bytes)
  pub longest : at < length bytes → ¬ (GoesOn (take (at + 1) bytes))
