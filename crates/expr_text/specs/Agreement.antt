-- What the bytes of an expression are by its grammar (own).
use Rattle.std.specs.Prelude.{◌≡◌, ◌++◌, ℕ, List, Result, Err, codes}
use Rattle.std.specs.Fmt.{decimal}
use Rattle.tuple_values.specs.Document.{ByteList}
use Rattle.tuple_values.specs.declared.names.NameShards.{NameShards}
use Rattle.expr_reader.specs.Agreement.{IsWithin, IsFault}
use Rattle.expr_reader.specs.Grammar.{IsTooLarge}
use Rattle.expr_reader.specs.Tree.{CallTree}
use Rattle.expr_types.specs.ExprTree.{ExprTree}
use Rattle.expr_plan.specs.Walk.{planned}
use Rattle.expr_check.specs.declared.roots.Roots.{Roots}
use Rattle.expr_text.specs.Reading.{check_told}

-- what bytes are: a call within the limits, too large, or no expression from a place on
pub data IsText (bytes : ByteList) : Type 0 where
  says : (tree : CallTree) → IsWithin bytes tree → IsText bytes
  is_large : IsTooLarge bytes → IsText bytes
  fails : (at : ℕ) → IsFault bytes at → IsText bytes

-- what bytes are told goes by what they are: a call is planned and checked, and what else they are
-- is told as such; and all bytes are one of these
pub record Agrees (read : Roots → List NameShards → ByteList → Result ExprTree ByteList)
    : Type 0 where
  pub calls : (roots : Roots) (names : List NameShards) (bytes : ByteList) (tree : CallTree)
      → IsWithin bytes tree → read roots names bytes ≡ check_told roots names (planned tree)
  pub large : (roots : Roots) (names : List NameShards) (bytes : ByteList)
      → IsTooLarge bytes → read roots names bytes ≡ Err (codes "TooLarge")
  pub faults : (roots : Roots) (names : List NameShards) (bytes : ByteList) (at : ℕ)
      → IsFault bytes at → read roots names bytes ≡ Err (codes "Syntax at " ++ decimal at)
  pub all : (bytes : ByteList) → IsText bytes
