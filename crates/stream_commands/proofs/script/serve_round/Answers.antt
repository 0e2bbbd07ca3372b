use Rattle.std.proofs.Common.{refl, subst}
use Rattle.exchange_rules.specs.Rows.{Layout}
use Rattle.site_laws.specs.SiteCells.{IsLawful}
use Rattle.stream_handler.specs.Sessions.{wire}
use Rattle.stream_commands.specs.Serving.{state_of}
use Rattle.stream_commands.proofs.ServingLemmas.{one_kept, round_last, round_on, round_over}
use Rattle.stream_commands.proofs.script.serve_round.Goals as goal

pub run_board-requires-clause-kept : goal.run_board-requires-clause-kept
run_board-requires-clause-kept g c κs within =
    one_kept c.args.board.now c.serve_one.new.board refl refl c.in-Served.ensures.served c.requires.kept

pub run_board-requires-in-Last-clause-kept : goal.run_board-requires-in-Last-clause-kept
run_board-requires-in-Last-clause-kept g c κs within =
    one_kept c.args.board.now c.serve_one.new.board refl refl c.in-Last.ensures.served c.requires.kept

pub returns-in-Served-clause-round : goal.returns-in-Served-clause-round
returns-in-Served-clause-round g c =
    let old = wire c.args.requests.now (g.I.Source.left c.args.input.now)
    (g.I.Source.faults c.args.input.now) (g.O.Sink.written c.args.output.now)
    (g.O.Sink.faults c.args.output.now) (state_of c.args.board.now) in
    let new = wire c.serve_one.new.requests (g.I.Source.left c.serve_one.new.source)
    (g.I.Source.faults c.serve_one.new.source) (g.O.Sink.written c.serve_one.new.sink)
    (g.O.Sink.faults c.serve_one.new.sink) (state_of c.run_board.new.board) in
    round_on (g.T.Turns.layout c.args.site.now) old new (g.T.Turns.writer c.args.site.now)
    (g.T.Turns.writer c.serve_one.new.site) (g.T.Turns.writer c.run_board.new.site) c.args.board.now
    c.serve_one.new.board c.run_board.new.board _ refl refl (g.T.Turns.layout c.serve_one.new.site)
    c.run_board.result c.in-Served.ensures.stays.layout c.in-Served.ensures.served
    (subst (λ (m : Layout). IsLawful m.names (g.T.Turns.writer c.run_board.new.site).seen)
    c.run_board.ensures.layout c.run_board.ensures.lawful) c.run_board.ensures.ran

pub returns-in-Last-clause-round : goal.returns-in-Last-clause-round
returns-in-Last-clause-round g c =
    let old = wire c.args.requests.now (g.I.Source.left c.args.input.now)
    (g.I.Source.faults c.args.input.now) (g.O.Sink.written c.args.output.now)
    (g.O.Sink.faults c.args.output.now) (state_of c.args.board.now) in
    let new = wire c.serve_one.new.requests (g.I.Source.left c.serve_one.new.source)
    (g.I.Source.faults c.serve_one.new.source) (g.O.Sink.written c.serve_one.new.sink)
    (g.O.Sink.faults c.serve_one.new.sink) (state_of c.run_board-in-Last.new.board) in
    round_last (g.T.Turns.layout c.args.site.now) old new (g.T.Turns.writer c.args.site.now)
    (g.T.Turns.writer c.serve_one.new.site) (g.T.Turns.writer c.run_board-in-Last.new.site) c.args.board.now
    c.serve_one.new.board c.run_board-in-Last.new.board _ refl refl
    (g.T.Turns.layout c.serve_one.new.site) c.run_board-in-Last.result c.in-Last.ensures.stays.layout
    c.in-Last.ensures.served
    (subst (λ (m : Layout). IsLawful m.names (g.T.Turns.writer c.run_board-in-Last.new.site).seen)
    c.run_board-in-Last.ensures.layout c.run_board-in-Last.ensures.lawful)
    c.run_board-in-Last.ensures.ran

pub returns-clause-round : goal.returns-clause-round
returns-clause-round g c =
    let old = wire c.args.requests.now (g.I.Source.left c.args.input.now)
    (g.I.Source.faults c.args.input.now) (g.O.Sink.written c.args.output.now)
    (g.O.Sink.faults c.args.output.now) (state_of c.args.board.now) in
    let new = wire c.serve_one.new.requests (g.I.Source.left c.serve_one.new.source)
    (g.I.Source.faults c.serve_one.new.source) (g.O.Sink.written c.serve_one.new.sink)
    (g.O.Sink.faults c.serve_one.new.sink) (state_of c.serve_one.new.board) in
    round_over (g.T.Turns.layout c.args.site.now) old new (g.T.Turns.writer c.args.site.now)
    (g.T.Turns.writer c.serve_one.new.site) c.args.board.now c.serve_one.new.board c.in-Over.end
    c.in-Over.unfinished refl refl c.in-Over.ensures.served
