use Rattle.std.proofs.Common.{ltb, ap, ◌∙◌}
use Rattle.query_syntax.proofs.CountLemmas.{has_role-count}
use Rattle.query_syntax.proofs.query.Clauses.has.Goals as goal

pub returns : goal.returns
returns c =
    rw (← c.self.view_is)
    (ap (ltb 0) (c.of.ensures ∙ c.self.invariant c.args.role)
    ∙ has_role-count c.args.role c.self.inside.items.items)
