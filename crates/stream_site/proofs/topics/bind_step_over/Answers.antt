use Rattle.std.proofs.Common.{sym, ap, ◌∙◌, subst}
use Rattle.topic_book.specs.Books.{binding_of}
use Rattle.topic_book.specs.Fitness.{IsOnCollections}
use Rattle.exchange_rules.specs.Bindings.{bind_course, bind_seen, book_cell, book_seen}
use Rattle.exchange_rules.specs.Calls.{Answered, Passed}
use Rattle.exchange_rules.specs.Rows.{Layout}
use Rattle.exchange_rules.proofs.StepLemmas.{nothing_done}
use Rattle.stream_site.proofs.RefusalLemmas.{unseen_refused}
use Rattle.stream_site.proofs.TestLemmas.{handed_on}
use Rattle.stream_site.proofs.TopicLemmas.{book_in_range, book_looked}
use Rattle.stream_site.proofs.topics.bind_step_over.Goals as goal

pub returns-in_err-make_room-clause-course : goal.returns-in_err-make_room-clause-course
returns-in_err-make_room-clause-course g c =
    let l = g.T.Turns.layout c.args.site.now in
    let w = g.T.Turns.writer c.args.site.now in
    let new = g.T.Turns.writer c.make_room.new.self in
    handed_on (Answered w new (bind_course l.names c.args.key.now c.args.binding)) _ _
    c.from_residual.ensures.1
    (nothing_done 0 w new _ c.make_room.ensures.writer)

pub bind_seen_over-requires-clause-in_range : goal.bind_seen_over-requires-clause-in_range
bind_seen_over-requires-clause-in_range g c =
    book_in_range (g.T.Turns.layout c.make_room.new.self) (g.T.Turns.layout c.look.new.self)
    (g.T.Turns.writer c.make_room.new.self) (g.T.Turns.writer c.look.new.self)
    c.find_book-book.result c.in_ok-look.ensures.layout c.find_book-book.ensures.cell
    c.find_book-book.ensures.here c.in_ok-look.ensures.ok

pub bind_seen_over-requires-clause-holds : goal.bind_seen_over-requires-clause-holds
bind_seen_over-requires-clause-holds g c =
    subst (g.T.Turns.holds c.look.new.self)
    (c.find_book-book.ensures.cell
    ∙ ap (λ (x : Layout). book_cell x.names) (sym c.in_ok-look.ensures.layout))
    c.in_ok-look.ensures.holds

pub returns-clause-course : goal.returns-clause-course
returns-clause-course g c =
    book_looked (g.T.Turns.writer c.args.site.now) (g.T.Turns.writer c.make_room.new.self)
    (g.T.Turns.writer c.look.new.self) (g.T.Turns.writer c.bind_seen_over.new.site)
    (g.T.Turns.layout c.args.site.now) (g.T.Turns.layout c.make_room.new.self)
    (g.T.Turns.layout c.look.new.self) c.find_book-book.result
    (λ b. bind_seen (g.T.Turns.layout c.args.site.now).names c.args.key.now c.args.binding b
    (binding_of c.args.key.now b))
    c.bind_seen_over.result c.make_room.ensures.writer c.make_room.ensures.layout
    c.in_ok-look.ensures.layout
    c.find_book-book.ensures.cell c.find_book-book.ensures.here c.in_ok-look.ensures.ok
    (subst (λ (x : Layout). Passed 0 (g.T.Turns.writer c.look.new.self)
    (g.T.Turns.writer c.bind_seen_over.new.site)
    (bind_seen x.names c.args.key.now c.args.binding
    (book_seen (g.T.Turns.layout c.look.new.self) (g.T.Turns.writer c.look.new.self))
    (binding_of c.args.key.now
    (book_seen (g.T.Turns.layout c.look.new.self) (g.T.Turns.writer c.look.new.self)))) 0
    c.bind_seen_over.result) (c.in_ok-look.ensures.layout ∙ c.make_room.ensures.layout)
    c.bind_seen_over.ensures.course)

pub returns-in_err-look-clause-course : goal.returns-in_err-look-clause-course
returns-in_err-look-clause-course g c =
    let l = g.T.Turns.layout c.args.site.now in
    let w = g.T.Turns.writer c.args.site.now in
    let new = g.T.Turns.writer c.look.new.self in
    handed_on (Answered w new (bind_course l.names c.args.key.now c.args.binding)) _ _
    c.from_residual-in_err-look.ensures.1
    (unseen_refused 0 w (g.T.Turns.writer c.make_room.new.self) new _ c.find_book-book.result _
    c.make_room.ensures.writer c.in_err-look.ensures.err)

pub bind_seen_over-requires-clause-on : goal.bind_seen_over-requires-clause-on
bind_seen_over-requires-clause-on g c =
    subst (λ (x : Layout). IsOnCollections x.names c.args.key.now c.args.binding)
    (sym (c.in_ok-look.ensures.layout ∙ c.make_room.ensures.layout)) c.requires.on
