use Rattle.expr_cases.proofs.KeptLemmas.{asked_kept}
use Rattle.expr_cases.proofs.case.run.Goals as goal

pub returns-clause-kept : goal.returns-clause-kept
returns-clause-kept g c =
    asked_kept _ c.args.board.now c.run_request.new.board _ c.run_request.result c.requires c.run_request.ensures.asked
