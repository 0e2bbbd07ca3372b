use Rattle.std.proofs.Common.{sym, ap, ◌∙◌}
use Rattle.tuple_values.specs.Document.{Doc}
use Rattle.expr_types.specs.Joins.{joined}
use Rattle.merge_join.proofs.RunLemmas.{one_given, last_given, alone_given, left_done}
use Rattle.merge_join.proofs.join.give.Goals as goal

pub returns-in_default-get-clause-out : goal.returns-in_default-get-clause-out
returns-in_default-get-clause-out c = λ terms lefts rights midway whole.
    alone_given c.args.outer terms c.args.left.now.held c.in-Some.tuple c.args.place.now
    c.args.run.now lefts rights (sym c.in-Some.ensures.value) midway whole c.take.new.self
    c.args.left.now.ended c.alone.result c.in_default-get.ensures.lookup.3 c.take.ensures.after
    c.alone.ensures

pub returns-then-place-run-clause-out : goal.returns-then-place-run-clause-out
returns-then-place-run-clause-out c = λ terms lefts rights midway whole.
    one_given c.args.outer terms c.args.left.now.held c.in-Some.tuple c.args.place.now
    c.args.run.now lefts rights (sym c.in-Some.ensures.value) midway whole
    c.in-Some-get.right.now c.in_ok-pair.pair c.in-Some-get.ensures.lookup.3.0
    c.in-Some-get.ensures.lookup.1
    (c.in_ok-pair.ensures
    ∙ ap (λ (left : Doc). joined left c.in-Some-get.right.now) c.in_ok-copy.ensures)

pub returns-clause-out : goal.returns-clause-out
returns-clause-out c = λ terms lefts rights midway whole.
    last_given c.args.outer terms c.args.left.now.held c.in-Some.tuple c.args.place.now
    c.args.run.now lefts rights (sym c.in-Some.ensures.value) midway whole
    c.in-Some-get.right.now c.in_ok-last.last c.take.new.self
    c.in-Some-get.ensures.lookup.3.0 c.if-place-run.false c.in-Some-get.ensures.lookup.1
    c.in_ok-last.ensures c.take.ensures.after

pub returns-clause-midway : goal.returns-clause-midway
returns-clause-midway c = λ terms lefts rights midway whole.
    left_done c.args.outer terms c.args.left.now.held c.in-Some.tuple c.args.place.now
    c.args.run.now lefts rights (sym c.in-Some.ensures.value) midway whole c.take.new.self
    c.take.ensures.after
