use Rattle.std.proofs.Common.{sym, ap, ◌∙◌, subst}
use Rattle.exchange_rules.specs.Bindings.{book_cell, topic_state_course}
use Rattle.exchange_rules.specs.Calls.{Completed}
use Rattle.exchange_rules.specs.Rows.{Layout}
use Rattle.exchange_rules.proofs.StepLemmas.{look_none}
use Rattle.stream_site.proofs.RefusalLemmas.{unseen_stopped}
use Rattle.stream_site.proofs.TestLemmas.{handed_on}
use Rattle.stream_site.proofs.TopicLemmas.{state_begun, state_looked}
use Rattle.stream_site.proofs.topics.state_step_over.Goals as goal

pub returns-in_err-make_room-clause-course : goal.returns-in_err-make_room-clause-course
returns-in_err-make_room-clause-course g c =
    let l = g.T.Turns.layout c.args.site.now in
    let w = g.T.Turns.writer c.args.site.now in
    let new = g.T.Turns.writer c.make_room.new.self in
    handed_on (Completed w new (topic_state_course l.names c.args.key.now)) _ _
    c.from_residual.ensures.1
    (look_none w new _ c.make_room.ensures.writer)

pub returns-in_err-look-clause-course : goal.returns-in_err-look-clause-course
returns-in_err-look-clause-course g c =
    let l = g.T.Turns.layout c.args.site.now in
    let w = g.T.Turns.writer c.args.site.now in
    let new = g.T.Turns.writer c.look.new.self in
    handed_on (Completed w new (topic_state_course l.names c.args.key.now)) _ _
    c.from_residual-in_err-look.ensures.1
    (unseen_stopped w (g.T.Turns.writer c.make_room.new.self) new _ c.find_book-book.result _
    c.make_room.ensures.writer c.in_err-look.ensures.err)

pub state_seen_over-requires : goal.state_seen_over-requires
state_seen_over-requires g c =
    subst (g.T.Turns.holds c.look.new.self)
    (c.find_book-book.ensures.cell
    ∙ ap (λ (x : Layout). book_cell x.names) (sym c.in_ok-look.ensures.layout))
    c.in_ok-look.ensures.holds

pub returns-clause-course : goal.returns-clause-course
returns-clause-course g c =
    state_looked (g.T.Turns.writer c.args.site.now) (g.T.Turns.writer c.make_room.new.self)
    (g.T.Turns.writer c.look.new.self) (g.T.Turns.layout c.args.site.now)
    (g.T.Turns.layout c.make_room.new.self) (g.T.Turns.layout c.look.new.self)
    c.find_book-book.result c.args.key.now c.in_ok-state.state c.make_room.ensures.writer
    c.make_room.ensures.layout c.in_ok-look.ensures.layout c.find_book-book.ensures.cell
    c.find_book-book.ensures.here c.in_ok-look.ensures.ok c.in_ok-state.ensures

pub returns-in_err-state-clause-course : goal.returns-in_err-state-clause-course
returns-in_err-state-clause-course g c =
    let l = g.T.Turns.layout c.args.site.now in
    let w = g.T.Turns.writer c.args.site.now in
    let new = g.T.Turns.writer c.look.new.self in
    handed_on (Completed w new (topic_state_course l.names c.args.key.now))
    _ _ c.from_residual-in_err-state.ensures.1
    (state_begun w (g.T.Turns.writer c.make_room.new.self) new l
    (g.T.Turns.layout c.make_room.new.self) c.find_book-book.result c.args.key.now
    c.make_room.ensures.writer c.make_room.ensures.layout c.find_book-book.ensures.cell
    c.find_book-book.ensures.here c.in_ok-look.ensures.ok)

pub returns-clause-later : goal.returns-clause-later
returns-clause-later g c =
    g.met.T.Turns.later_on c.args.site.now c.make_room.new.self c.look.new.self
    c.make_room.ensures.later c.in_ok-look.ensures.later

pub returns-in_err-state-clause-later : goal.returns-in_err-state-clause-later
returns-in_err-state-clause-later g c =
    g.met.T.Turns.later_on c.args.site.now c.make_room.new.self c.look.new.self
    c.make_room.ensures.later c.in_ok-look.ensures.later

pub returns-in_err-look-clause-later : goal.returns-in_err-look-clause-later
returns-in_err-look-clause-later g c =
    g.met.T.Turns.later_on c.args.site.now c.make_room.new.self c.look.new.self
    c.make_room.ensures.later c.in_err-look.ensures.later
