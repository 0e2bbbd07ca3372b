use Rattle.std.proofs.Common.{Some, refl, subst}
use Rattle.turn_table.specs.Calls.{known}
use Rattle.running_site.specs.Visits.{IsVisit}
use Rattle.running_site.proofs.VisitLemmas.{gone-pass}
use Rattle.running_site.proofs.visit.Visit.end.Goals as goal

pub returns-clause-own : goal.returns-clause-own
returns-clause-own g c =
    let v = c.args.self in
    let site = v.site.now in
    gone-pass site.table.board.shared.table_id site.table.board.shared.key site.names
    site.limit (Some v.pass) v.pass refl v.seated v.numbered v.opened
    (subst (IsVisit site.names site.limit (known v.pass)) c.requires v.visit)
