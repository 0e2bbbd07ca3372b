use Rattle.std.proofs.Common.{◌∙◌, ap, subst}
use Rattle.exchange_rules.specs.Following.{Writer}
use Rattle.exchange_rules.specs.Rows.{Layout}
use Rattle.turn_table.specs.Calls.{known}
use Rattle.running_site.specs.Passes.{layout_in, writer_in, writer_of}
use Rattle.running_site.specs.Sites.{layout_at, IsPassAt}
use Rattle.running_site.proofs.CallLemmas.{at-site}
use Rattle.form_request.specs.Streams.{begun}
use Rattle.stream_handler.specs.Boards.{board_state}
use Rattle.stream_handler.specs.Sessions.{wire, IsConnection, RecordsSteps}
use Rattle.pass_calls.proofs.SameLemmas.{connection-same}
use Rattle.pass_calls.proofs.serving.serve_connection.Goals as goal

pub returns-clause-own : goal.returns-clause-own
returns-clause-own g c =
    subst (λ s. IsPassAt s c.end.new.pass) (c.serve_connection-result.ensures.stays.home ∙
    c.visit-visit.ensures.site)
    c.end.ensures.own

pub returns-clause-number : goal.returns-clause-number
returns-clause-number g c =
    let v = c.visit-visit.result in
    let w = c.serve_connection-result.new.site in
    let before = wire begun (g.S.Source.left c.args.source.now) (g.S.Source.faults
    c.args.source.now) (g.K.Sink.written c.args.sink.now) (g.K.Sink.faults c.args.sink.now)
    (board_state (g.D.Daemons.shown c.args.board.now) (g.D.Daemons.answers c.args.board.now)) in
    let board = board_state (g.D.Daemons.shown c.serve_connection-result.new.board)
    (g.D.Daemons.answers c.serve_connection-result.new.board) in
    ap (λ (x : Writer). x.me) c.end.ensures.writer
    ∙ (connection-same (g.C.Clock.tells c.args.clock.now) (layout_in v.site.now.names
    v.site.now.limit) before (g.S.Source.left c.serve_connection-result.new.source)
    (g.S.Source.faults c.serve_connection-result.new.source) (g.K.Sink.written
    c.serve_connection-result.new.sink) (g.K.Sink.faults c.serve_connection-result.new.sink) board
    (writer_in (known v.pass) v.marks.items v.own.items) (writer_in (known w.pass) w.marks.items
    w.own.items) c.serve_connection-result.result c.serve_connection-result.ensures.session ∙ ap (λ
    (x : Writer). x.me) c.visit-visit.ensures.writer)

pub returns-clause-session : goal.returns-clause-session
returns-clause-session g c =
    let site = c.args.site.now in
    let v = c.visit-visit.result in
    let w = c.serve_connection-result.new.site in
    let before = wire begun (g.S.Source.left c.args.source.now) (g.S.Source.faults
    c.args.source.now) (g.K.Sink.written c.args.sink.now) (g.K.Sink.faults c.args.sink.now)
    (board_state (g.D.Daemons.shown c.args.board.now) (g.D.Daemons.answers c.args.board.now)) in
    let board = board_state (g.D.Daemons.shown c.serve_connection-result.new.board)
    (g.D.Daemons.answers c.serve_connection-result.new.board) in
    at-site (λ a b (l : Layout). IsConnection (g.C.Clock.tells c.args.clock.now) l before
    (g.S.Source.left c.serve_connection-result.new.source) (g.S.Source.faults
    c.serve_connection-result.new.source) (g.K.Sink.written c.serve_connection-result.new.sink)
    (g.K.Sink.faults c.serve_connection-result.new.sink) board a b c.serve_connection-result.result)
    (writer_of c.args.pass.now) (writer_in (known v.pass) v.marks.items v.own.items)
    (writer_in (known w.pass) w.marks.items w.own.items) (writer_of c.end.new.pass) (layout_at site)
    (layout_in v.site.now.names v.site.now.limit) c.visit-visit.ensures.writer
    c.end.ensures.writer (ap layout_at c.visit-visit.ensures.site)
    c.serve_connection-result.ensures.session

pub returns-clause-recorded : goal.returns-clause-recorded
returns-clause-recorded g c =
    let site = c.args.site.now in
    let v = c.visit-visit.result in
    let w = c.serve_connection-result.new.site in
    let before = wire begun (g.S.Source.left c.args.source.now) (g.S.Source.faults
    c.args.source.now) (g.K.Sink.written c.args.sink.now) (g.K.Sink.faults c.args.sink.now)
    (board_state (g.D.Daemons.shown c.args.board.now) (g.D.Daemons.answers c.args.board.now)) in
    let board = board_state (g.D.Daemons.shown c.serve_connection-result.new.board)
    (g.D.Daemons.answers c.serve_connection-result.new.board) in
    at-site (λ a b (l : Layout). RecordsSteps a b c.serve_connection-result.result)
    (writer_of c.args.pass.now) (writer_in (known v.pass) v.marks.items v.own.items)
    (writer_in (known w.pass) w.marks.items w.own.items) (writer_of c.end.new.pass) (layout_at site)
    (layout_in v.site.now.names v.site.now.limit) c.visit-visit.ensures.writer
    c.end.ensures.writer (ap layout_at c.visit-visit.ensures.site)
    c.serve_connection-result.ensures.recorded
