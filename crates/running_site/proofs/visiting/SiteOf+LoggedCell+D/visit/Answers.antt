use Rattle.std.proofs.Common.{sym, ap, ◌∙◌}
use Rattle.std.proofs.lemmas.Option.{none-some}
use Rattle.running_site.specs.Passes.{sight_where, writer_where}
use Rattle.running_site.proofs.VisitLemmas.{came-visit}
use Rattle.running_site.proofs.visiting.SiteOf+LoggedCell+D.visit.Goals as goal

pub invariant_of-result : goal.invariant_of-result
invariant_of-result g c =
    let site = c.args.self.now in
    let here = came-visit site.table.board.shared.table_id
    site.table.board.shared.key site.names site.limit
    c.args.pass.now.pass c.in-Some.inside (sym c.take.ensures.value ∙ c.in-Some.is) c.requires in
    record {
      seated = here.0;
      numbered = here.1;
      opened = c.requires.opened;
      visit = here.2;
      noted = λ t e. absurd (none-some t e);
      sound = λ t e. absurd (none-some t e);
    }

pub returns-clause-writer : goal.returns-clause-writer
returns-clause-writer g c =
    let there = sym c.take.ensures.value ∙ c.in-Some.is in
    let marks = ap (λ v. v.items) c.replace-marks.ensures.value in
    let own = ap (λ v. v.items) c.replace-own.ensures.value in
    λ i. writer_where (sym there i) (marks i) (own i)

pub returns-clause-sight : goal.returns-clause-sight
returns-clause-sight g c = ap sight_where (sym (sym c.take.ensures.value ∙ c.in-Some.is))
