use Rattle.std.proofs.Common.{◌||◌, [], get_or, arith, sym, ap, ◌∙◌}
use Rattle.tuple_values.specs.Document.{ByteList, Datum, text}
use Rattle.shard_versions.specs.Documents.{is_group}
use Rattle.shard_versions.proofs.FitLemmas.{has_group-more, has_group-at}
use Rattle.shard_versions.proofs.fitness.has_group.Goals as goal

blank : ByteList × Datum
blank = ([], text [])

pub returns-then-is_group : goal.returns-then-is_group
returns-then-is_group c =
    sym (has_group-at c.args.document.now c.loop-k.k blank (omega (arith, c.count-k-end.ensures.count))
    (ap is_group (sym (c.value.ensures.value blank)) ∙ (sym c.is_group.ensures ∙ c.if-is_group.true)))

pub loop-k-preserved : goal.loop-k-preserved
loop-k-preserved c =
    has_group-more c.args.document.now c.loop-k.k blank (omega (arith, c.count-k-end.ensures.count))
    ∙ (ap (λ b. b || is_group (get_or c.args.document.now c.loop-k.k blank).1) c.loop-k.invariant
    ∙ (ap is_group (sym (c.value.ensures.value blank)) ∙ (sym c.is_group.ensures ∙ c.if-is_group.false)))
