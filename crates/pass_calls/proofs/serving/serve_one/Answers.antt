use Rattle.std.proofs.Common.{◌∙◌, ap, subst}
use Rattle.exchange_rules.specs.Following.{Writer}
use Rattle.exchange_rules.specs.Rows.{Layout}
use Rattle.turn_table.specs.Calls.{known}
use Rattle.running_site.specs.Passes.{layout_in, writer_in, writer_of}
use Rattle.running_site.specs.Sites.{layout_at, IsPassAt}
use Rattle.running_site.proofs.CallLemmas.{at-site}
use Rattle.stream_handler.specs.Boards.{board_state}
use Rattle.stream_handler.specs.Sessions.{wire, IsOneEnd}
use Rattle.pass_calls.proofs.SameLemmas.{one-same}
use Rattle.pass_calls.proofs.serving.serve_one.Goals as goal

pub returns-clause-own : goal.returns-clause-own
returns-clause-own g c =
    subst (λ s. IsPassAt s c.end.new.pass) (c.serve_one-result.ensures.stays.home ∙
    c.visit-visit.ensures.site)
    c.end.ensures.own

pub returns-clause-number : goal.returns-clause-number
returns-clause-number g c =
    let v = c.visit-visit.result in
    let w = c.serve_one-result.new.site in
    let before = wire c.args.requests.now (g.S.Source.left c.args.source.now) (g.S.Source.faults
    c.args.source.now) (g.K.Sink.written c.args.sink.now) (g.K.Sink.faults c.args.sink.now)
    (board_state (g.D.Daemons.shown c.args.board.now) (g.D.Daemons.answers c.args.board.now)) in
    let after = wire c.serve_one-result.new.requests (g.S.Source.left c.serve_one-result.new.source)
    (g.S.Source.faults c.serve_one-result.new.source) (g.K.Sink.written c.serve_one-result.new.sink)
    (g.K.Sink.faults c.serve_one-result.new.sink) (board_state (g.D.Daemons.shown
    c.serve_one-result.new.board) (g.D.Daemons.answers c.serve_one-result.new.board)) in
    ap (λ (x : Writer). x.me) c.end.ensures.writer
    ∙ (one-same (g.C.Clock.tells c.args.clock.now) (layout_in v.site.now.names v.site.now.limit)
    before after (writer_in (known v.pass) v.marks.items v.own.items) (writer_in (known w.pass)
    w.marks.items w.own.items) c.serve_one-result.result c.serve_one-result.ensures.served ∙ ap (λ
    (x : Writer). x.me) c.visit-visit.ensures.writer)

pub returns-clause-served : goal.returns-clause-served
returns-clause-served g c =
    let site = c.args.site.now in
    let v = c.visit-visit.result in
    let w = c.serve_one-result.new.site in
    let before = wire c.args.requests.now (g.S.Source.left c.args.source.now) (g.S.Source.faults
    c.args.source.now) (g.K.Sink.written c.args.sink.now) (g.K.Sink.faults c.args.sink.now)
    (board_state (g.D.Daemons.shown c.args.board.now) (g.D.Daemons.answers c.args.board.now)) in
    let after = wire c.serve_one-result.new.requests (g.S.Source.left c.serve_one-result.new.source)
    (g.S.Source.faults c.serve_one-result.new.source) (g.K.Sink.written c.serve_one-result.new.sink)
    (g.K.Sink.faults c.serve_one-result.new.sink) (board_state (g.D.Daemons.shown
    c.serve_one-result.new.board) (g.D.Daemons.answers c.serve_one-result.new.board)) in
    at-site (λ a b (l : Layout). IsOneEnd (g.C.Clock.tells c.args.clock.now) l before after a b
    c.serve_one-result.result)
    (writer_of c.args.pass.now) (writer_in (known v.pass) v.marks.items v.own.items)
    (writer_in (known w.pass) w.marks.items w.own.items) (writer_of c.end.new.pass) (layout_at site)
    (layout_in v.site.now.names v.site.now.limit) c.visit-visit.ensures.writer
    c.end.ensures.writer (ap layout_at c.visit-visit.ensures.site)
    c.serve_one-result.ensures.served
