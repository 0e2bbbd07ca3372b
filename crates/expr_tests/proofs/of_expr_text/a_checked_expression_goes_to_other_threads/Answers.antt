use denote.Param.Send.{sendable}
use Rattle.expr_check.proofs.SendLemmas.{checked_send}
use Rattle.expr_tests.proofs.of_expr_text.a_checked_expression_goes_to_other_threads.Goals as goal

pub is_sent-requires-send-T : goal.is_sent-requires-send-T
is_sent-requires-send-T c κs = search (checked_send, sendable)
