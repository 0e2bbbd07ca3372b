use Rattle.std.proofs.Common.{refl, ap, ◌∙◌}
use Rattle.exchange_rules.specs.Bindings.{bind_new, book_seen}
use Rattle.exchange_rules.specs.Calls.{Passed}
use Rattle.exchange_rules.proofs.StepLemmas.{nothing_done}
use Rattle.stream_site.specs.Refusals.{unadded}
use Rattle.stream_site.proofs.BookLemmas.{bind_unadded}
use Rattle.stream_site.proofs.TopicLemmas.{bound_appended, bound_stopped, may_bind}
use Rattle.stream_site.proofs.TestLemmas.{handed_on}
use Rattle.stream_site.proofs.topics.bind_new_over.Goals as goal

pub returns-in_err-copy-clause-course : goal.returns-in_err-copy-clause-course
returns-in_err-copy-clause-course g c =
    let w = g.T.Turns.writer c.args.site.now in
    let l = g.T.Turns.layout c.args.site.now in
    let course = bind_new l.names c.args.key.now c.args.binding (book_seen l w) in
    handed_on (Passed 0 w w course 0) _ _ c.from_residual.ensures.1 (nothing_done 0 w w course refl)

pub append_entry-requires-clause-allowed : goal.append_entry-requires-clause-allowed
append_entry-requires-clause-allowed g c =
    let w = g.T.Turns.writer c.args.site.now in
    may_bind (g.T.Turns.layout c.args.site.now).names w.me c.number-by.result w.seen
    c.args.key.now c.in_ok-copy.copy c.args.binding c.number-by.ensures c.in_ok-copy.ensures
    c.requires.unbound c.requires.on c.requires.readable

pub returns-in-Err-clause-course : goal.returns-in-Err-clause-course
returns-in-Err-clause-course g c =
    bind_unadded (g.T.Turns.writer c.args.site.now) (g.T.Turns.writer c.append_entry.new.self)
    (g.T.Turns.layout c.args.site.now) (g.T.Turns.layout c.append_entry.new.self)
    c.number-by.result c.args.key.now c.in_ok-copy.copy c.args.binding c.in-Err.refusal
    c.unadded.result c.in-Err.ensures.layout c.requires.in_range c.in_ok-copy.ensures
    c.requires.unbound c.in-Err.ensures.err
    (c.unadded.ensures ∙ ap (λ n. unadded n c.in-Err.refusal) c.find_book.ensures.cell)

pub returns-clause-course : goal.returns-clause-course
returns-clause-course g c =
    bound_appended (g.T.Turns.writer c.args.site.now) (g.T.Turns.writer c.append_entry.new.self)
    (g.T.Turns.layout c.args.site.now) (g.T.Turns.layout c.append_entry.new.self) c.number-by.result
    c.args.key.now c.in_ok-copy.copy c.args.binding c.in_ok-upto.upto
    c.in-Ok.ensures.layout c.requires.in_range c.in_ok-copy.ensures c.requires.unbound
    c.in-Ok.ensures.ok c.in-Ok.ensures.opened c.in_ok-upto.ensures

pub returns-in_err-upto-clause-course : goal.returns-in_err-upto-clause-course
returns-in_err-upto-clause-course g c =
    let l = g.T.Turns.layout c.args.site.now in
    let w = g.T.Turns.writer c.args.site.now in
    let new = g.T.Turns.writer c.append_entry.new.self in
    handed_on
    (Passed 0 w new (bind_new l.names c.args.key.now c.args.binding (book_seen l w)) 0)
    _ _ c.from_residual-in_err-upto.ensures.1
    (bound_stopped w new l c.number-by.result c.args.key.now c.in_ok-copy.copy c.args.binding
    c.requires.in_range c.in_ok-copy.ensures c.requires.unbound c.in-Ok.ensures.ok
    c.in-Ok.ensures.opened)
