use Rattle.std.proofs.Common.{sym, ap, ◌∙◌, subst}
use Rattle.exchange_rules.specs.Bindings.{book_cell, book_seen, store_course, store_seen}
use Rattle.exchange_rules.specs.Calls.{Answered, Passed}
use Rattle.exchange_rules.specs.Rows.{Layout}
use Rattle.exchange_rules.proofs.StepLemmas.{nothing_done}
use Rattle.stream_site.proofs.RefusalLemmas.{unseen_refused}
use Rattle.stream_site.proofs.TestLemmas.{handed_on}
use Rattle.stream_site.proofs.TopicLemmas.{book_in_range, book_looked, store_after_look}
use Rattle.stream_site.proofs.topics.store_step_over.Goals as goal

pub returns-in_err-make_room-clause-course : goal.returns-in_err-make_room-clause-course
returns-in_err-make_room-clause-course g c =
    let l = g.T.Turns.layout c.args.site.now in
    let w = g.T.Turns.writer c.args.site.now in
    let new = g.T.Turns.writer c.make_room.new.self in
    handed_on (Answered w new (store_course l.names c.args.key.now c.args.upto)) _ _
    c.from_residual.ensures.1
    (nothing_done 0 w new _ c.make_room.ensures.writer)

pub store_seen_over-requires-clause-in_range : goal.store_seen_over-requires-clause-in_range
store_seen_over-requires-clause-in_range g c =
    book_in_range (g.T.Turns.layout c.make_room.new.self) (g.T.Turns.layout c.look.new.self)
    (g.T.Turns.writer c.make_room.new.self) (g.T.Turns.writer c.look.new.self)
    c.find_book-book.result c.in_ok-look.ensures.layout c.find_book-book.ensures.cell
    c.find_book-book.ensures.here c.in_ok-look.ensures.ok

pub store_seen_over-requires-clause-holds : goal.store_seen_over-requires-clause-holds
store_seen_over-requires-clause-holds g c =
    subst (g.T.Turns.holds c.look.new.self)
    (c.find_book-book.ensures.cell
    ∙ ap (λ (x : Layout). book_cell x.names) (sym c.in_ok-look.ensures.layout))
    c.in_ok-look.ensures.holds

pub returns-clause-course : goal.returns-clause-course
returns-clause-course g c =
    book_looked (g.T.Turns.writer c.args.site.now) (g.T.Turns.writer c.make_room.new.self)
    (g.T.Turns.writer c.look.new.self) (g.T.Turns.writer c.store_seen_over.new.site)
    (g.T.Turns.layout c.args.site.now) (g.T.Turns.layout c.make_room.new.self)
    (g.T.Turns.layout c.look.new.self) c.find_book-book.result
    (λ b. store_seen (g.T.Turns.layout c.args.site.now).names c.args.key.now c.args.upto b)
    c.store_seen_over.result c.make_room.ensures.writer c.make_room.ensures.layout
    c.in_ok-look.ensures.layout
    c.find_book-book.ensures.cell c.find_book-book.ensures.here c.in_ok-look.ensures.ok
    (subst (λ (x : Layout). Passed 0 (g.T.Turns.writer c.look.new.self)
    (g.T.Turns.writer c.store_seen_over.new.site)
    (store_seen x.names c.args.key.now c.args.upto
    (book_seen (g.T.Turns.layout c.look.new.self) (g.T.Turns.writer c.look.new.self))) 0
    c.store_seen_over.result) (c.in_ok-look.ensures.layout ∙ c.make_room.ensures.layout)
    c.store_seen_over.ensures.course)

pub returns-in_err-look-clause-course : goal.returns-in_err-look-clause-course
returns-in_err-look-clause-course g c =
    let l = g.T.Turns.layout c.args.site.now in
    let w = g.T.Turns.writer c.args.site.now in
    let new = g.T.Turns.writer c.look.new.self in
    handed_on (Answered w new (store_course l.names c.args.key.now c.args.upto)) _ _
    c.from_residual-in_err-look.ensures.1
    (unseen_refused 0 w (g.T.Turns.writer c.make_room.new.self) new _ c.find_book-book.result _
    c.make_room.ensures.writer c.in_err-look.ensures.err)

pub store_seen_over-requires-clause-delivered : goal.store_seen_over-requires-clause-delivered
store_seen_over-requires-clause-delivered g c =
    store_after_look (g.T.Turns.layout c.args.site.now) (g.T.Turns.layout c.make_room.new.self)
    (g.T.Turns.layout c.look.new.self) (g.T.Turns.writer c.args.site.now)
    (g.T.Turns.writer c.make_room.new.self) (g.T.Turns.writer c.look.new.self)
    c.find_book-book.result c.args.key.now c.args.upto c.make_room.ensures.writer
    c.make_room.ensures.layout c.in_ok-look.ensures.layout c.find_book-book.ensures.cell
    c.find_book-book.ensures.here c.in_ok-look.ensures.ok c.requires
