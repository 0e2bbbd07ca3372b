use Rattle.std.proofs.Common.{ap, ◌∙◌}
use Rattle.tuple_values.specs.Document.{Doc, value_at}
use Rattle.tuple_values.specs.Keys.{hash_from, key_part}
use Rattle.expr_types.specs.Sources.{cut_to}
use Rattle.source_streams.proofs.PartLemmas.{key_more}
use Rattle.source_streams.proofs.part.Part.holds.Goals as goal

pub loop-name-preserved : goal.loop-name-preserved
loop-name-preserved c =
    let doc : Doc = cut_to c.args.fl.now c.args.document.now in
    let hash = c.loop-name.hash in
    c.loop-name.invariant
    ∙ key_more doc c.as_slice-name-items.result.now c.loop-name.name-index c.name-item.result hash
    c.with_value-hash.result c.loop-name-test.true c.name-item.is
    (c.with_value-hash.ensures
    ∙ ap (λ v. hash_from hash (key_part v))
    (c.shown.ensures ∙ ap (λ n. value_at n doc) c.as_str.ensures))
