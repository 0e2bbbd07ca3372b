use Rattle.root_runs.specs.Stays.{Stays}
use Rattle.stream_handler.specs.Boards.{board_state}
use Rattle.stream_handler.specs.Sessions.{wire}
use Rattle.stream_handler.proofs.ConnectionLemmas.{GoesOn}
use Rattle.stream_handler.proofs.connection.serve_all.Given as goal

-- the messages so far were served, and what stays over a call stays
abbrev pub invariant-loop : goal.invariant-loop
invariant-loop g l = record {
  goes : GoesOn (g.C.Clock.tells l.fn.clock) (g.T.Turns.layout l.fn.site) (g.T.Turns.layout l.site)
      (wire l.fn.requests (g.S.Source.left l.fn.source) (g.S.Source.faults l.fn.source)
      (g.K.Sink.written l.fn.sink) (g.K.Sink.faults l.fn.sink)
      (board_state (g.D.Daemons.shown l.fn.board) (g.D.Daemons.answers l.fn.board)))
      (wire l.requests (g.S.Source.left l.source) (g.S.Source.faults l.source)
      (g.K.Sink.written l.sink) (g.K.Sink.faults l.sink)
      (board_state (g.D.Daemons.shown l.board) (g.D.Daemons.answers l.board)))
      (g.T.Turns.writer l.fn.site) (g.T.Turns.writer l.site) l.exchanges.items l.counter;
  stays : Stays g.T.Turns.layout g.T.Turns.home g.T.Turns.free l.fn.site l.site;
}
