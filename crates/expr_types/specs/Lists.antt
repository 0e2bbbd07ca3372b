-- What an expression gives over the current documents of its collections, and when each of its
-- functions has its inputs in order (Solr Reference Guide, "Streaming Expressions").
use Rattle.std.specs.Prelude.{List, [], ◌∷◌}
use Rattle.tuple_values.specs.Document.{Doc}
use Rattle.expr_types.specs.ExprTree.{ExprTree, node, ExprTrees, no_exprs, an_expr}
use Rattle.expr_types.specs.Rules.{Collections, given, AreAsNeeded}

-- the list of an expression
abbrev mutual
  pub list_of : Collections → ExprTree → List Doc
  list_of docs (node op inputs) = given docs op (lists_of docs inputs)

  -- the lists of inputs
  pub lists_of : Collections → ExprTrees → List (List Doc)
  lists_of docs no_exprs = []
  lists_of docs (an_expr e exprs) = list_of docs e ∷ lists_of docs exprs

-- each input is in the order that its function needs
abbrev mutual
  pub AreSorted : Collections → ExprTree → Type 0
  AreSorted docs (node op inputs) =
      AreAllSorted docs inputs × AreAsNeeded op (lists_of docs inputs)

  -- the same within each of the inputs
  pub AreAllSorted : Collections → ExprTrees → Type 0
  AreAllSorted docs no_exprs = Unit {0}
  AreAllSorted docs (an_expr e exprs) = AreSorted docs e × AreAllSorted docs exprs
