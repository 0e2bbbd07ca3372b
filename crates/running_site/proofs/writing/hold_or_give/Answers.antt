use Rattle.std.proofs.Common.{sym, subst}
use Rattle.turn_table.specs.Calls.{known}
use Rattle.running_site.specs.Visits.{IsVisit}
use Rattle.running_site.proofs.LeaveLemmas.{gave-visit}
use Rattle.running_site.proofs.writing.hold_or_give.Goals as goal

pub returns-in-Err-Broken-clause-visit : goal.returns-in-Err-Broken-clause-visit
returns-in-Err-Broken-clause-visit g c =
    let site = c.args.site.now in
    subst (IsVisit site.names site.limit (known c.give.new.pass)) (sym c.requires.empty)
    (gave-visit site.names site.limit (known c.args.pass.now) (known c.give.new.pass) c.args.turn
    c.give.ensures.gave c.requires.visit c.give.ensures.free)
