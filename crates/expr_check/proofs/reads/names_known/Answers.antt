use Rattle.tuple_values.specs.Collections.{is_known}
use Rattle.expr_types.specs.ExprTree.{expr_tree, operator_in}
use Rattle.expr_check.specs.Rules.{named_by}
use Rattle.expr_check.proofs.ReadLemmas.{unknown_told}
use Rattle.expr_check.proofs.reads.names_known.Goals as goal

pub returns : goal.returns
returns c =
    unknown_told (λ n. n.now) c.first_unknown.result c.is_none.result
    (λ name. is_known name c.args.names.now)
    (named_by (operator_in (expr_tree c.args.expr.now))) c.is_none.ensures c.first_unknown.ensures
