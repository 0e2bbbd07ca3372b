use Rattle.std.proofs.Common.{◌≡◌, List}
use Rattle.daemon_board.specs.Rising.{IsKept}
use Rattle.stream_handler.specs.Exchanges.{Answer}
use Rattle.stream_handler.specs.Sessions.{wire}
use Rattle.stream_commands.specs.Serving.{IsCarriedOn, state_of}
use Rattle.stream_commands.proofs.script.serve.Given as goal

-- these messages were carried out so far, each with the daemons' runs behind it
abbrev pub invariant-loop : goal.invariant-loop
invariant-loop g l =
    (answers : List Answer)
    × (g.T.Turns.layout l.site ≡ g.T.Turns.layout l.fn.site)
    × (g.T.Turns.home l.site ≡ g.T.Turns.home l.fn.site)
    × IsKept l.board.shown
    × IsCarriedOn (g.T.Turns.layout l.fn.site)
    (wire l.fn.requests (g.I.Source.left l.fn.input) (g.I.Source.faults l.fn.input)
    (g.O.Sink.written l.fn.output) (g.O.Sink.faults l.fn.output) (state_of l.fn.board))
    (wire l.requests (g.I.Source.left l.input) (g.I.Source.faults l.input)
    (g.O.Sink.written l.output) (g.O.Sink.faults l.output) (state_of l.board))
    (g.T.Turns.writer l.fn.site) (g.T.Turns.writer l.site) l.fn.board l.board answers
