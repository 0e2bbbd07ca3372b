-- When a reading of bytes, as a function of them, is the one by the grammar (own).
use Rattle.std.specs.Prelude.{◌≡◌, ◌≢◌, ◌↔◌, ℕ, ◌≤◌, length, Result, Ok, Err}
use Rattle.expr_reader.specs.Tree.{ByteList, CallTree, KeepsLimits}
use Rattle.expr_reader.specs.Grammar.{IsExpression, IsPlace, IsTooLarge, byte_limit}
use Rattle.expr_reader.specs.declared.fault.ExprFault.{ExprFault}
use Rattle.expr_reader.specs.declared.fault.ExprFault.TheVariants.{TooLarge, Syntax, OutOfMemory}

-- the bytes are an expression within the limits, and say this call
pub record IsWithin (bytes : ByteList) (tree : CallTree) : Type 0 where
  pub expression : IsExpression bytes tree
  pub small : length bytes ≤ byte_limit
  pub keeps : KeepsLimits tree

-- the bytes are no expression and aren't too large, and this is the place of their fault
pub record IsFault (bytes : ByteList) (at : ℕ) : Type 0 where
  pub unreadable : (tree : CallTree) → ¬ (IsExpression bytes tree)
  pub fits : ¬ (IsTooLarge bytes)
  pub place : IsPlace bytes at

-- for all bytes the reading is a call exactly where they say it within the limits, too large
-- exactly where they are, a place exactly where it is that of their fault, and never want of memory
pub record Agrees (reading : ByteList → Result CallTree ExprFault) : Type 0 where
  pub expressions : (bytes : ByteList) (tree : CallTree)
      → (reading bytes ≡ Ok tree) ↔ IsWithin bytes tree
  pub large : (bytes : ByteList) → (reading bytes ≡ Err TooLarge) ↔ IsTooLarge bytes
  pub faults : (bytes : ByteList) (at : ℕ)
      → (reading bytes ≡ Err (Syntax at)) ↔ IsFault bytes at
  pub no_memory : (bytes : ByteList) → reading bytes ≢ Err OutOfMemory
