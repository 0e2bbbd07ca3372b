use Rattle.std.proofs.Common.{sym, subst}
use Rattle.exchange_rules.specs.Bindings.{bind_seen, book_seen}
use Rattle.exchange_rules.specs.Calls.{Passed}
use Rattle.stream_site.proofs.topics.bind_seen_over.Goals as goal

pub returns-in-Some-clause-course : goal.returns-in-Some-clause-course
returns-in-Some-clause-course g c =
    let l = g.T.Turns.layout c.args.site.now in
    let w = g.T.Turns.writer c.args.site.now in
    subst (λ o. Passed 0 w w (bind_seen l.names c.args.key.now c.args.binding (book_seen l w) o) 0
    c.bind_again_over.result) c.in-Some.ensures c.bind_again_over.ensures

pub bind_new_over-requires-clause-unbound : goal.bind_new_over-requires-clause-unbound
bind_new_over-requires-clause-unbound g c = sym c.in-None.ensures

pub returns-in-None-clause-course : goal.returns-in-None-clause-course
returns-in-None-clause-course g c =
    let l = g.T.Turns.layout c.args.site.now in
    let w = g.T.Turns.writer c.args.site.now in
    subst (λ o. Passed 0 w (g.T.Turns.writer c.bind_new_over.new.site)
    (bind_seen l.names c.args.key.now c.args.binding (book_seen l w) o) 0 c.bind_new_over.result)
    c.in-None.ensures c.bind_new_over.ensures.course
