use Rattle.std.proofs.Common.{◌∷◌, [], refl, sym, ap, ◌∙◌}
use Rattle.exchange_rules.specs.Bindings.{book_cell, book_seen, store_seen}
use Rattle.topic_book.specs.States.{IsOpenTo}
use Rattle.topic_book.specs.declared.topic.BookEntry.TheVariants as book
use Rattle.exchange_rules.specs.Cells.{payload_of}
use Rattle.exchange_rules.specs.Primitives.{made}
use Rattle.exchange_rules.specs.Calls.{Passed}
use Rattle.exchange_rules.proofs.BindingLemmas.{store_nothing}
use Rattle.exchange_rules.proofs.StepLemmas.{nothing_done}
use Rattle.stream_site.proofs.TestLemmas.{handed_on}
use Rattle.stream_site.specs.Refusals.{unadded}
use Rattle.stream_site.proofs.BookLemmas.{store_unadded, stored_none}
use Rattle.stream_site.proofs.TopicLemmas.{may_store, stored_appended}
use Rattle.stream_site.proofs.topics.store_seen_over.Goals as goal

pub returns-then-not-raises-clause-course : goal.returns-then-not-raises-clause-course
returns-then-not-raises-clause-course g c =
    let l = g.T.Turns.layout c.args.site.now in
    let w = g.T.Turns.writer c.args.site.now in
    store_nothing w l.names c.args.key.now c.args.upto (book_seen l w)
    (sym c.raises.ensures ∙ c.if-not-raises.true)

pub returns-in_err-key-clause-course : goal.returns-in_err-key-clause-course
returns-in_err-key-clause-course g c =
    let l = g.T.Turns.layout c.args.site.now in
    let w = g.T.Turns.writer c.args.site.now in
    let course = store_seen l.names c.args.key.now c.args.upto (book_seen l w) in
    handed_on (Passed 0 w w course 0) _ _ c.from_residual.ensures.1 (nothing_done 0 w w course refl)

pub append_entry-requires-clause-allowed : goal.append_entry-requires-clause-allowed
append_entry-requires-clause-allowed g c =
    let w = g.T.Turns.writer c.args.site.now in
    may_store (g.T.Turns.layout c.args.site.now).names w.me c.number-by.result w.seen
    c.args.key.now c.in_ok-key.key c.args.upto c.number-by.ensures c.in_ok-key.ensures
    c.requires.delivered (sym c.raises.ensures ∙ c.if-not-raises.false)

pub returns-in-Ok-clause-course : goal.returns-in-Ok-clause-course
returns-in-Ok-clause-course g c =
    let l = g.T.Turns.layout c.args.site.now in
    let w = g.T.Turns.writer c.args.site.now in
    stored_appended w (g.T.Turns.writer c.append_entry.new.self) l.names c.number-by.result
    c.args.key.now
    c.in_ok-key.key c.args.upto (book_seen l w) (sym c.raises.ensures ∙ c.if-not-raises.false)
    c.requires.in_range c.in_ok-key.ensures c.in-Ok.ensures.ok

pub returns-in-Err-clause-course : goal.returns-in-Err-clause-course
returns-in-Err-clause-course g c =
    store_unadded (g.T.Turns.writer c.args.site.now) (g.T.Turns.writer c.append_entry.new.self)
    (g.T.Turns.layout c.args.site.now) (g.T.Turns.layout c.append_entry.new.self)
    c.number-by.result c.args.key.now c.in_ok-key.key c.args.upto c.in-Err.refusal
    c.unadded.result (sym c.raises.ensures ∙ c.if-not-raises.false)
    c.in-Err.ensures.layout c.requires.in_range c.in_ok-key.ensures c.in-Err.ensures.err
    (c.unadded.ensures ∙ ap (λ n. unadded n c.in-Err.refusal) c.find_book.ensures.cell)

pub returns-in-Err-clause-unstored : goal.returns-in-Err-clause-unstored
returns-in-Err-clause-unstored g c =
    let l = g.T.Turns.layout c.args.site.now in
    let w = g.T.Turns.writer c.args.site.now in
    stored_none w (g.T.Turns.writer c.append_entry.new.self)
    (made w (book_cell l.names) (payload_of (book.Store c.number-by.result c.in_ok-key.key
    c.args.upto) ∷ [])) (book_seen l w) c.number-by.result c.in_ok-key.key c.args.upto
    (IsOpenTo (book_seen l w) (book.Store c.number-by.result c.in_ok-key.key c.args.upto))
    l (g.T.Turns.layout c.append_entry.new.self) c.find_book.result c.in-Err.refusal
    c.unadded.result c.in-Err.ensures.layout c.find_book.ensures.cell c.in-Err.ensures.err
    c.unadded.ensures
