use Rattle.std.proofs.Common.{ap, sym, ◌∙◌, arith}
use Rattle.expr_types.specs.Joins.{matches}
use Rattle.hash_join.proofs.HeldLemmas.{filter_here}
use Rattle.hash_join.proofs.held.next_equal.Goals as goal

pub returns-then-are_equal-clause-equals : goal.returns-then-are_equal-clause-equals
returns-then-are_equal-clause-equals c =
    let test = matches c.args.on.now c.args.left.now in
    c.loop-place.invariant
    ∙ filter_here test c.args.rights.now c.loop-place.place c.index-rights-place.result
    (omega (arith, c.loop-place-test.true))
    (ap test (sym c.index-rights-place.is) ∙ sym c.are_equal.ensures ∙ c.if-are_equal.true)
