use Rattle.std.proofs.Common.{sym, ◌∙◌}
use Rattle.merge_join.proofs.ExistLemmas.{find_none, find_past}
use Rattle.merge_join.proofs.exist.find.Goals as goal

pub returns-in-Less-clause-found : goal.returns-in-Less-clause-found
returns-in-Less-clause-found c = λ rights over ascends.
    find_none c.args.terms.now c.args.left.now c.args.right.now.held c.in-Some.first rights
    c.in-Some.is (sym c.compare_by.ensures ∙ c.in-Less.is) ascends

pub returns-in-Greater-clause-same : goal.returns-in-Greater-clause-same
returns-in-Greater-clause-same c = λ keep lefts rights ascends.
    find_past keep c.args.terms.now c.args.left.now lefts c.args.right.now.held
    c.take-past.new.self c.in-Some.first rights c.in-Some.is c.take-past.ensures.after
    (sym c.compare_by.ensures ∙ c.in-Greater.is) ascends
