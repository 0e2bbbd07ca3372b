-- What a query says, as a tree (the forms are those of Lucene's classic query syntax).
use Rattle.std.specs.Prelude.{ℕ, ◌+◌, List, [], ◌∷◌}
use Rattle.tuple_values.specs.Document.{ByteList}
use Rattle.query_syntax.specs.declared.query.Role.{Role}
use Rattle.query_syntax.specs.declared.query.Test.{Test}

mutual
  -- a clause asks for everything, for a test on a field, or for a list of clauses
  pub data WhatTree : Type 0 where
    everything : WhatTree
    on_field : ByteList → Test → WhatTree
    nested : ClauseTrees → WhatTree

  -- the clauses of a list in order, each with its role
  pub data ClauseTrees : Type 0 where
    no_clauses : ClauseTrees
    a_clause : Role → WhatTree → ClauseTrees → ClauseTrees

-- a clause is a role with what it asks for
pub record ClauseTree : Type 0 where
  pub role : Role
  pub what : WhatTree

-- a list of clauses as those of a nested one
abbrev pub trees_of : List ClauseTree → ClauseTrees
trees_of [] = no_clauses
trees_of (c ∷ clauses) = a_clause c.role c.what (trees_of clauses)

-- how much there is to go down in a clause: a number that falls at each part
abbrev mutual
  pub what_depth : WhatTree → ℕ
  what_depth everything = 0
  what_depth (on_field name test) = 0
  what_depth (nested clauses) = trees_depth clauses + 1

  pub trees_depth : ClauseTrees → ℕ
  trees_depth no_clauses = 1
  trees_depth (a_clause role what clauses) = what_depth what + trees_depth clauses + 1

-- the same of a list of clauses
abbrev pub clauses_depth : List ClauseTree → ℕ
clauses_depth clauses = trees_depth (trees_of clauses)
