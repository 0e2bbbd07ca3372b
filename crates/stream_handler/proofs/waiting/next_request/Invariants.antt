use Rattle.std.proofs.Common.{Bool}
use Rattle.stream_handler.specs.Boards.{BoardState}
use Rattle.stream_handler.specs.Sessions.{wire}
use Rattle.stream_handler.specs.Waiting.{IsWaiting}
use Rattle.stream_handler.proofs.waiting.next_request.Given as goal

abbrev pub invariant-loop : goal.invariant-loop
invariant-loop g l =
    (board : BoardState)
    → ((told : Bool)
    × IsWaiting l.names
    (wire l.fn.requests (g.S.Source.left l.fn.source) (g.S.Source.faults l.fn.source)
    (g.K.Sink.written l.fn.sink) (g.K.Sink.faults l.fn.sink) board)
    (wire l.requests (g.S.Source.left l.source) (g.S.Source.faults l.source)
    (g.K.Sink.written l.sink) (g.K.Sink.faults l.sink) board) told)
