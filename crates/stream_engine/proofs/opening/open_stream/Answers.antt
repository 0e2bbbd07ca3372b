use Rattle.expr_types.specs.Rules.{Collections}
use Rattle.expr_check.specs.Views.{tree_of}
use Rattle.source_streams.specs.Cuts.{documents_of}
use Rattle.part_laws.proofs.LawLemmas.{part_commutes}
use Rattle.stream_engine.proofs.Feeding.{whole_part}
use Rattle.stream_engine.proofs.opening.open_stream.Goals as goal

pub returns-clause-whole : goal.returns-clause-whole
returns-clause-whole g c = λ one.
    let docs : Collections = λ n. documents_of n c.args.cut.now in
    let part = c.args.part in
    rw (c.in_ok-opened.ensures.list, c.expr.ensures.value)
    (whole_part docs part.index part.of (tree_of c.args.checked.now) c.requires.part one)

pub returns-clause-part : goal.returns-clause-part
returns-clause-part g c = λ keys keyed.
    let docs : Collections = λ n. documents_of n c.args.cut.now in
    let part = c.args.part in
    rw (c.in_ok-opened.ensures.list, c.expr.ensures.value)
    (part_commutes docs part.index part.of (tree_of c.args.checked.now) c.expr.ensures.planned.0 keys
    keyed)
