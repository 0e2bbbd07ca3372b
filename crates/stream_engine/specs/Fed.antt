-- The lists with which a stream is fed in place of its parallels (own).
use Rattle.std.specs.Prelude.{◌≡◌, List, ◌++◌, map}
use Rattle.tuple_values.specs.Document.{Doc}
use Rattle.expr_types.specs.ExprTree.{ExprTree, ExprTrees}
use Rattle.expr_types.specs.Lists.{list_of}
use Rattle.expr_types.specs.Rules.{Collections}
use Rattle.expr_check.specs.Parts.{PartTree, parallels_of, parallels_in}

-- the lists of the inputs of parallels
abbrev pub lists_split : Collections → List PartTree → List (List Doc)
lists_split docs parts = map (λ p. list_of docs p.input) parts

-- the list of each outermost parallel of an expression, from the left to the right
abbrev pub fed_of : Collections → ExprTree → List (List Doc)
fed_of docs t = lists_split docs (parallels_of t)

-- the same of several expressions
abbrev pub fed_in : Collections → ExprTrees → List (List Doc)
fed_in docs ts = lists_split docs (parallels_in ts)

-- the first of the lists are these
abbrev pub BeginsWith : (these lists : List (List Doc)) → Type 0
BeginsWith these lists = (rest : List (List Doc)) × (lists ≡ these ++ rest)
