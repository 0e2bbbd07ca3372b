-- The trees that the program's clauses stand for (own).
use Rattle.std.specs.Prelude.{List, map}
use Rattle.query_syntax.specs.Tree.{WhatTree, everything, on_field, nested, ClauseTree, trees_of}
use Rattle.query_syntax.specs.declared.query.Clause.{Clause}
use Rattle.query_syntax.specs.declared.query.What.{What}
use Rattle.query_syntax.specs.declared.query.What.TheVariants.{Everything, Field, Nested}

-- what a clause asks for
abbrev pub what_tree : What → WhatTree
what_tree Everything = everything
what_tree (Field name test) = on_field name test
what_tree (Nested clauses) = nested (trees_of clauses)

-- what a clause is
abbrev pub clause_tree : Clause → ClauseTree
clause_tree c = record { role = c.role; what = what_tree c.what }

-- what a list of clauses is
abbrev pub clause_trees : List Clause → List ClauseTree
clause_trees clauses = map clause_tree clauses
