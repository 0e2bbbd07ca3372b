-- Each clause is smaller than the list that holds it, which recursions over clauses rest on (own).
use Rattle.std.specs.Prelude.{◌≤◌, max, List, [], ◌∷◌}
use Rattle.std.proofs.Common.{arith}
use denote.Param.Weighed.{most}
use Rattle.query_syntax.specs.Tree.{what_depth, clauses_depth}
use Rattle.query_syntax.specs.Views.{what_tree, clause_trees}
use Rattle.query_syntax.specs.declared.query.Clause.{Clause}
use Rattle.query_syntax.specs.declared.query.What.{What}
use Rattle.query_syntax.specs.declared.query.What.TheVariants.{Everything, Field, Nested}
use Rattle.query_syntax.specs.declared.query.Clauses.TheDeep.{deep-Clause, deep-What}

-- the depth that the toolchain counts is at most that of the tree
pub what_falls : (w : What) → deep-What w ≤ what_depth (what_tree w)
what_falls Everything = omega arith
what_falls (Field name test) = omega arith
what_falls (Nested clauses) = omega arith

-- the same for a list of clauses
pub clauses_fall : (clauses : List Clause)
    → max (most (λ c. deep-Clause c) clauses) 0 ≤ clauses_depth (clause_trees clauses)
clauses_fall [] = omega arith
clauses_fall (c ∷ clauses) = omega (arith, what_falls c.what, clauses_fall clauses)
