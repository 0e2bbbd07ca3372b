use Rattle.std.proofs.Common.{sym, ap, ◌∙◌, subst}
use Rattle.turn_table.specs.Calls.{known}
use Rattle.site_cells.specs.Values.{about_of}
use Rattle.site_cells.specs.declared.cell_value.CellValue.{CellValue}
use Rattle.running_site.specs.Visits.{HasTurn, IsVisit}
use Rattle.running_site.proofs.ValueLemmas.{same-shard, shard-there}
use Rattle.running_site.proofs.visit.Visit.shard.Goals as goal

pub shard-requires : goal.shard-requires
shard-requires g c =
    let v = c.args.self.now in
    let visit = subst (IsVisit v.site.now.names v.site.now.limit (known v.pass)) c.in-Some.is
    v.visit in
    let here = subst (λ o. HasTurn o c.args.cell) c.in-Some.is c.requires.holds in
    let s = shard-there v.site.now.names v.site.now.limit (known v.pass) c.in-Some.turn visit
    c.args.cell here c.state.result.now c.state.ensures c.requires.cell in
    ap (λ (x : CellValue). (about_of c.state.result.now.names.value x).is_book) s.is

pub returns : goal.returns
returns g c =
    let v = c.args.self.now in
    let visit = subst (IsVisit v.site.now.names v.site.now.limit (known v.pass)) c.in-Some.is
    v.visit in
    let here = subst (λ o. HasTurn o c.args.cell) c.in-Some.is c.requires.holds in
    let s = shard-there v.site.now.names v.site.now.limit (known v.pass) c.in-Some.turn visit
    c.args.cell here c.state.result.now c.state.ensures c.requires.cell in
    same-shard c.shard.result.now s.shard (sym c.shard.ensures ∙ s.is) ∙ sym s.seen
