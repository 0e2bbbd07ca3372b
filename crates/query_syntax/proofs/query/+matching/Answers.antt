use Rattle.std.proofs.Common.{◌<◌, length, sym, ◌∙◌, arith, refl}
use Rattle.query_syntax.specs.Tree.{trees_of}
use Rattle.query_syntax.specs.Views.{clause_tree}
use Rattle.query_syntax.proofs.ClauseLemmas.{some_clause-here, some_clause-behind, agrees-found}
use Rattle.query_syntax.proofs.ClauseLemmas.{agrees-missed}
use Rattle.query_syntax.proofs.CountLemmas.{some_clause-none}
use Rattle.query_syntax.proofs.query.+matching.Goals as goal
use Rattle.query_syntax.proofs.query.+matching.Goals.{}
use Rattle.query_syntax.proofs.query.+matching.Goals.{Clauses::some-else-is-via-then-is+else-matches-hit}
use Rattle.query_syntax.proofs.query.+matching.Goals.{Clauses::some-else-is-via-else-is}

pub Clauses::some-returns-then-not-has : goal.Clauses::some-returns-then-not-has
Clauses::some-returns-then-not-has t c =
    sym (some_clause-none (trees_of c.args.self.now) c.args.role c.args.hit c.args.t.now
    (sym c.has.ensures ∙ c.if-not-has.true))

pub Clauses::some-returns-then-matches-hit : goal.Clauses::some-returns-then-matches-hit
Clauses::some-returns-then-matches-hit t c =
    let within : c.loop-k.k < length c.args.self.now = omega arith in
    sym (c.loop-k.invariant
    ∙ some_clause-here c.args.self.now c.loop-k.k (clause_tree c.get-clause.result.now) c.args.role
    c.args.hit c.args.t.now within (c.get-clause.ensures.value _)
    (sym c.is.ensures ∙ c.if-is.true)
    (agrees-found _ _ _ _ c.matches.ensures c.if-matches-hit.true))

pub Clauses::some-loop-k-preserved : goal.Clauses::some-loop-k-preserved
Clauses::some-loop-k-preserved t c =
    let within : c.loop-k.k < length c.args.self.now = omega arith in
    let behind = some_clause-behind c.args.self.now c.loop-k.k (clause_tree c.get-clause.result.now)
    c.args.role c.args.hit c.args.t.now within (c.get-clause.ensures.value _) in
    elim c.else-is.branch [
      | Clauses::some-else-is-via-then-is+else-matches-hit w ↦
          c.loop-k.invariant
          ∙ behind (agrees-missed _ _ _ _ w.matches.ensures w.if-matches-hit.false)
      | Clauses::some-else-is-via-else-is w ↦
          c.loop-k.invariant ∙ behind (rw (sym c.is.ensures ∙ w.if-is.false) refl)
    ]
