use denote.Param.Send.{sendable}
use Rattle.stream_engine.proofs.SendLemmas.{stream_send}
use Rattle.handler_tests.proofs.of_stream_handler.a_stream_goes_to_other_threads.Goals as goal

pub is_sent-requires-send-T : goal.is_sent-requires-send-T
is_sent-requires-send-T c κs = search (stream_send, sendable)
