use Rattle.law_checks.proofs.UncoveredLemmas.{book-begin, book-on, book-here, book-end}
use Rattle.law_checks.proofs.uncovered.first_in_book.Goals as goal

pub loop-entry-init : goal.loop-entry-init
loop-entry-init c = λ hs same are. book-begin c.args.against.names.now hs

pub returns-in-Some : goal.returns-in-Some
returns-in-Some c = λ hs same are whole ordered.
    book-here c.args.against.names.now hs c.args.book.now c.loop-entry.entry-index c.entry-item.result c.loop-entry-test.true c.entry-item.is
    c.in-Some.found.0 c.in-Some.found.1 c.in-Some.found.2 whole ordered
    (rw c.in-Some.is at (c.in_ok-found.ensures hs same are)) (c.loop-entry.invariant hs same are)

pub loop-entry-preserved : goal.loop-entry-preserved
loop-entry-preserved c = λ hs same are.
    book-on c.args.against.names.now hs c.args.book.now c.loop-entry.entry-index c.entry-item.result c.loop-entry-test.true c.entry-item.is
    (rw c.in-None.is at (c.in_ok-found.ensures hs same are)) (c.loop-entry.invariant hs same are)

pub returns : goal.returns
returns c = λ hs same are whole ordered.
    book-end c.args.against.names.now hs c.args.book.now c.loop-entry.entry-index c.loop-entry-test.false whole (c.loop-entry.invariant hs same are)
