use Rattle.std.proofs.Common.{◌≡◌, drop}
use Rattle.query_syntax.specs.Tree.{trees_of}
use Rattle.query_syntax.specs.Matching.{some_clause}
use Rattle.query_syntax.proofs.query.+matching.Given as goal

-- none of the clauses so far is such a one
abbrev pub invariant-Clauses::some-loop-k : goal.invariant-Clauses::some-loop-k
invariant-Clauses::some-loop-k l =
    some_clause (trees_of l.self) l.role l.hit l.t
    ≡ some_clause (trees_of (drop l.k l.self)) l.role l.hit l.t
