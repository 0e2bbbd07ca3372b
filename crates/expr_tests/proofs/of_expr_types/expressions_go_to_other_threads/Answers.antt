use denote.Param.Send.{sendable}
use Rattle.expr_types.proofs.SendLemmas.{expr_send}
use Rattle.expr_tests.proofs.of_expr_types.expressions_go_to_other_threads.Goals as goal

pub is_sent-requires-send-T : goal.is_sent-requires-send-T
is_sent-requires-send-T c κs = search (expr_send, sendable)
