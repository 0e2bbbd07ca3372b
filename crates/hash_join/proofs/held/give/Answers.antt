use Rattle.std.proofs.Common.{ap, ◌∙◌}
use Rattle.tuple_values.specs.Document.{Doc}
use Rattle.expr_types.specs.Joins.{joined}
use Rattle.hash_join.proofs.HeldLemmas.{none_given, last_given, one_given}
use Rattle.hash_join.proofs.held.give.Goals as goal

pub returns-in_default-clause-given : goal.returns-in_default-clause-given
returns-in_default-clause-given c =
    none_given c.args.on.now c.args.table.now c.args.held.now c.in-Paired.left c.in-Paired.bucket
    c.in-Paired.place c.bucket-rights.result.now c.in-Paired.ensures.value c.bucket-rights.ensures
    c.replace.new.dest c.in_default.ensures.lookup.3 c.in-Paired.ensures.after

pub returns-in_default-next_equal-clause-given : goal.returns-in_default-next_equal-clause-given
returns-in_default-next_equal-clause-given c =
    last_given c.args.on.now c.args.table.now c.args.held.now c.in-Paired.left c.in-Paired.bucket
    c.in-Paired.place c.bucket-rights.result.now c.in-Paired.ensures.value c.bucket-rights.ensures
    c.in-Some.right.now c.in_ok-joined-in-Paired.field-0 c.replace.new.dest
    c.in-Some.ensures.lookup.3.0 c.in-Some.ensures.lookup.1 c.in_ok-joined-in-Paired.ensures
    c.in_default-next_equal.ensures.equals c.in-Paired.ensures.after

pub returns-in_ok-pair-in-Paired-clause-given : goal.returns-in_ok-pair-in-Paired-clause-given
returns-in_ok-pair-in-Paired-clause-given c =
    one_given c.args.on.now c.args.table.now c.args.held.now c.in-Paired.left c.in-Paired.bucket
    c.in-Paired.place c.bucket-rights.result.now c.in-Paired.ensures.value c.bucket-rights.ensures
    c.in-Some.right.now c.in_ok-pair-in-Paired.pair c.in-Some-next_equal.next
    c.in-Some.ensures.lookup.3.0 c.in-Some.ensures.lookup.1
    (c.in_ok-pair-in-Paired.ensures
    ∙ ap (λ (left : Doc). joined left c.in-Some.right.now) c.in_ok-copy-in-Paired.ensures)
    c.in-Some-next_equal.ensures.equals
