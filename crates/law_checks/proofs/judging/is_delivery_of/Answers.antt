use Rattle.std.proofs.Common.{◌∙◌, ap, sym}
use Rattle.once_core.specs.Cells.{home_history}
use Rattle.once_core.proofs.DispatchLemmas.{delivery-none, delivery-late, delivery-some}
use Rattle.law_checks.proofs.judging.is_delivery_of.Goals as goal

pub returns-then-version-top : goal.returns-then-version-top
returns-then-version-top c = λ names hs cell at.
    delivery-some names hs cell c.args.src.now c.args.version c.args.delivered.now
    c.args.home.now c.id_of.result.now c.id_of.ensures (at ∙ ap (home_history names hs c.args.src.now) (sym c.id_of.ensures))
    c.in-Some.source.now c.top.result c.is_from.result c.in-Some.ensures c.top.ensures c.if-version-top.true c.is_from.ensures

pub returns-else-version-top : goal.returns-else-version-top
returns-else-version-top c = λ names hs cell at.
    delivery-late names hs cell c.args.src.now c.args.version c.args.delivered.now
    c.args.home.now c.id_of.result.now c.id_of.ensures (at ∙ ap (home_history names hs c.args.src.now) (sym c.id_of.ensures))
    c.top.result c.top.ensures c.if-version-top.false

pub returns-in-None : goal.returns-in-None
returns-in-None c = λ names hs cell at.
    delivery-none names hs cell c.args.src.now c.args.version c.args.delivered.now
    c.args.home.now c.id_of.result.now c.id_of.ensures (at ∙ ap (home_history names hs c.args.src.now) (sym c.id_of.ensures))
    c.in-None.ensures
