use Rattle.std.proofs.Common.{sym, ◌∙◌}
use Rattle.tuple_values.proofs.MapLemmas.{value_cut, value_cut_other}
use Rattle.source_streams.proofs.part.shown.Goals as goal

pub returns-then-contains : goal.returns-then-contains
returns-then-contains c =
    c.get.ensures
    ∙ sym (value_cut c.args.name.now c.args.fl.now c.args.document.now (sym c.if-contains.ensures))

pub returns-else-contains : goal.returns-else-contains
returns-else-contains c =
    sym (value_cut_other c.args.name.now c.args.fl.now c.args.document.now
    (sym c.if-contains.ensures))
