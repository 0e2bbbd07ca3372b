use Rattle.query_syntax.proofs.ClauseLemmas.{require_last-new}
use Rattle.query_syntax.proofs.query.require_last.Goals as goal

pub returns-in_ok-push : goal.returns-in_ok-push
returns-in_ok-push c =
    rw (← c.clauses.view_is)
    (require_last-new c.clauses.inside.items.items c.pop.new.self.items c.push.new.self
    c.in-Some.clause c.beside-role.result c.in-Some.ensures.items c.in_ok-push.ensures.ok
    c.beside-role.ensures)
