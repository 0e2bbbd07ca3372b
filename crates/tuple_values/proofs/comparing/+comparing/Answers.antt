use Rattle.std.proofs.Common.{◌<◌, ◌≤◌, length, arith, ◌∙◌, sym}
use Rattle.tuple_values.proofs.ComparisonLemmas.{rows_ended, fields_ended}
use Rattle.tuple_values.proofs.SizeLemmas.{field_smaller, row_smaller}
use Rattle.tuple_values.proofs.comparing.+comparing.Goals as goal
use Rattle.tuple_values.proofs.comparing.+comparing.Goals.{compare_fields-then-loop-k-test+else-k-b, compare_fields-else-loop-k-test, compare_groups-then-loop-k-test+else-k-b, compare_groups-else-loop-k-test}

pub compare_fields-compare_values-order-requires : goal.compare_fields-compare_values-order-requires
compare_fields-compare_values-order-requires t c =
    (rw (← c.decreases) (field_smaller c.args.a.now c.loop-k.k c.index-a-k.result c.loop-k-test.true c.index-a-k.is), tt)

pub compare_fields-returns : goal.compare_fields-returns
compare_fields-returns t c =
    let i = c.loop-k.invariant in
    let done : c.loop-k.k < length c.args.a.now → length c.args.b.now ≤ c.loop-k.k =
    λ lt. elim c.loop-k-test.branch [ compare_fields-then-loop-k-test+else-k-b w ↦ w.if-k-b.false | compare_fields-else-loop-k-test w ↦ absurd (omega (arith, w.loop-k-test.false)) ] in
    c.cmp.ensures ∙ fields_ended c.args.a.now c.args.b.now c.loop-k.k i.left i.right done ∙ sym i.rest

pub compare_groups-compare_fields-order-requires : goal.compare_groups-compare_fields-order-requires
compare_groups-compare_fields-order-requires t c =
    (rw (← c.decreases, c.fields.ensures) (row_smaller c.args.a.now c.loop-k.k c.index-a-k.result c.loop-k-test.true c.index-a-k.is), tt)

pub compare_groups-returns : goal.compare_groups-returns
compare_groups-returns t c =
    let i = c.loop-k.invariant in
    let done : c.loop-k.k < length c.args.a.now → length c.args.b.now ≤ c.loop-k.k =
    λ lt. elim c.loop-k-test.branch [ compare_groups-then-loop-k-test+else-k-b w ↦ w.if-k-b.false | compare_groups-else-loop-k-test w ↦ absurd (omega (arith, w.loop-k-test.false)) ] in
    c.cmp.ensures ∙ rows_ended c.args.a.now c.args.b.now c.loop-k.k i.left i.right done ∙ sym i.rest
