-- When a reading of texts, as a function of their bytes, is the one by the grammar (own).
use Rattle.std.specs.Prelude.{◌≡◌, ◌↔◌, ℕ, List, Result, Ok, Err}
use Rattle.tuple_values.specs.Document.{ByteList}
use Rattle.query_syntax.specs.Tree.{ClauseTree}
use Rattle.query_syntax.specs.Grammar.{IsQuery, IsPlace}
use Rattle.query_syntax.specs.Meaning.{IsReadable}

-- the bytes are no query, and this is the place of their fault
pub record IsFault (bytes : ByteList) (at : ℕ) : Type 0 where
  pub unreadable : ¬ (IsReadable bytes)
  pub place : IsPlace bytes at

-- for all bytes the reading is clauses exactly where the bytes say them by the grammar, and a place
-- exactly where they are no query and it is that of their fault
pub record Agrees (reading : ByteList → Result (List ClauseTree) ℕ) : Type 0 where
  pub clauses : (bytes : ByteList) (clauses : List ClauseTree)
      → (reading bytes ≡ Ok clauses) ↔ IsQuery bytes clauses
  pub faults : (bytes : ByteList) (at : ℕ) → (reading bytes ≡ Err at) ↔ IsFault bytes at
