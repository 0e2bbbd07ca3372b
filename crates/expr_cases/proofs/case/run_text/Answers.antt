use Rattle.expr_cases.proofs.KeptLemmas.{asked_kept}
use Rattle.expr_cases.proofs.case.run_text.Goals as goal

pub returns-clause-kept : goal.returns-clause-kept
returns-clause-kept g c =
    asked_kept _ c.args.board.now c.run_expression.new.board _ c.run_expression.result c.requires c.run_expression.ensures.asked
