use Rattle.std.proofs.Common.{◌+◌, arith}
use Rattle.topic_book.specs.Cells.{cells_in}
use Rattle.turn_table.specs.Calls.{known}
use Rattle.running_site.proofs.FitLemmas.{fit-of}
use Rattle.running_site.proofs.KnownLemmas.{wide-at}
use Rattle.running_site.proofs.writing.VisitTurns.names.Goals as goal

pub returns-clause-cells : goal.returns-clause-cells
returns-clause-cells g c =
    let v = c.args.self.now in
    let k = known v.pass in
    let wide = wide-at k v.pass.seat.table_id v.site.now.table.board.shared.table_id
    v.site.now.table.cells (cells_in v.site.now.names + 1) v.pass.wide v.seated
    v.site.now.table.slots v.site.now.sized in
    wide.seen

pub returns-clause-few : goal.returns-clause-few
returns-clause-few g c =
    let v = c.args.self.now in
    let few = v.site.now.table.few in
    let sized = v.site.now.sized in omega (arith, few, sized)

pub returns-clause-fit : goal.returns-clause-fit
returns-clause-fit g c =
    let v = c.args.self.now in
    λ cell lt. fit-of v.site.now.names (known v.pass).seen cell v.visit.knowing.fit lt
