use Rattle.std.proofs.Common.{◌∙◌, ap, subst}
use Rattle.std.specs.Prelude.{IfErr, IfOk}
use Rattle.exchange_rules.specs.Following.{Writer}
use Rattle.exchange_rules.specs.Rows.{Layout}
use Rattle.turn_table.specs.Calls.{known}
use Rattle.running_site.specs.Passes.{layout_in, writer_in, writer_of}
use Rattle.running_site.specs.Sites.{layout_at, IsPassAt}
use Rattle.running_site.proofs.CallLemmas.{at-site}
use Rattle.stream_handler.specs.Boards.{board_state}
use Rattle.stream_handler.specs.Exchanges.{IsAnswered, IsBroken}
use Rattle.pass_calls.proofs.SameLemmas.{answered-same}
use Rattle.pass_calls.proofs.answering.answer.Goals as goal

pub returns-clause-own : goal.returns-clause-own
returns-clause-own g c =
    subst (λ s. IsPassAt s c.end.new.pass) (c.answer-result.ensures.stays.home ∙
    c.visit-visit.ensures.site)
    c.end.ensures.own

pub returns-clause-number : goal.returns-clause-number
returns-clause-number g c =
    let v = c.visit-visit.result in
    let w = c.answer-result.new.site in
    let asked = board_state (g.D.Daemons.shown c.args.board.now) (g.D.Daemons.answers
    c.args.board.now) in
    let answered = board_state (g.D.Daemons.shown c.answer-result.new.board) (g.D.Daemons.answers
    c.answer-result.new.board) in
    ap (λ (x : Writer). x.me) c.end.ensures.writer
    ∙ (answered-same (g.C.Clock.tells c.args.clock.now) (layout_in v.site.now.names
    v.site.now.limit) (writer_in (known v.pass) v.marks.items v.own.items) (writer_in (known w.pass)
    w.marks.items w.own.items) asked answered c.args.request c.answer-result.result
    c.answer-result.ensures.ok c.answer-result.ensures.err ∙ ap (λ (x : Writer). x.me)
    c.visit-visit.ensures.writer)

pub returns-clause-ok : goal.returns-clause-ok
returns-clause-ok g c =
    let site = c.args.site.now in
    let v = c.visit-visit.result in
    let w = c.answer-result.new.site in
    let asked = board_state (g.D.Daemons.shown c.args.board.now) (g.D.Daemons.answers
    c.args.board.now) in
    let answered = board_state (g.D.Daemons.shown c.answer-result.new.board) (g.D.Daemons.answers
    c.answer-result.new.board) in
    at-site (λ a b (l : Layout). IfOk c.answer-result.result (IsAnswered (g.C.Clock.tells
    c.args.clock.now) l a b asked answered c.args.request))
    (writer_of c.args.pass.now) (writer_in (known v.pass) v.marks.items v.own.items)
    (writer_in (known w.pass) w.marks.items w.own.items) (writer_of c.end.new.pass) (layout_at site)
    (layout_in v.site.now.names v.site.now.limit) c.visit-visit.ensures.writer
    c.end.ensures.writer (ap layout_at c.visit-visit.ensures.site)
    c.answer-result.ensures.ok

pub returns-clause-err : goal.returns-clause-err
returns-clause-err g c =
    let site = c.args.site.now in
    let v = c.visit-visit.result in
    let w = c.answer-result.new.site in
    let asked = board_state (g.D.Daemons.shown c.args.board.now) (g.D.Daemons.answers
    c.args.board.now) in
    let answered = board_state (g.D.Daemons.shown c.answer-result.new.board) (g.D.Daemons.answers
    c.answer-result.new.board) in
    at-site (λ a b (l : Layout). IfErr c.answer-result.result (λ _. IsBroken l a b asked answered
    c.args.request))
    (writer_of c.args.pass.now) (writer_in (known v.pass) v.marks.items v.own.items)
    (writer_in (known w.pass) w.marks.items w.own.items) (writer_of c.end.new.pass) (layout_at site)
    (layout_in v.site.now.names v.site.now.limit) c.visit-visit.ensures.writer
    c.end.ensures.writer (ap layout_at c.visit-visit.ensures.site)
    c.answer-result.ensures.err
