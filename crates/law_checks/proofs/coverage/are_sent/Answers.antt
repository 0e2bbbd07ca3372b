use Rattle.once_core.specs.Law.{IsSentIfTaken}
use Rattle.once_core.proofs.StepLemmas.{each-fails, each-goes, each-ends}
use Rattle.law_checks.specs.Walks.{read_of}
use Rattle.law_checks.specs.declared.walk.Shown.{Shown}
use Rattle.law_checks.proofs.coverage.are_sent.Goals as goal

pub returns-then-not-fine : goal.returns-then-not-fine
returns-then-not-fine c = λ hs same.
    each-fails
    (λ (s : Shown). IsSentIfTaken c.args.against.names.now hs c.args.bound.binding.now c.args.dest.now c.args.span.low c.args.span.high (read_of s))
    c.args.shown.now c.loop-one.one-index c.one-item.result c.in_ok-fine.fine c.loop-one-test.true c.one-item.is
    (c.in_ok-fine.ensures hs same) c.if-not-fine.true

pub loop-one-preserved : goal.loop-one-preserved
loop-one-preserved c = λ hs same.
    each-goes
    (λ (s : Shown). IsSentIfTaken c.args.against.names.now hs c.args.bound.binding.now c.args.dest.now c.args.span.low c.args.span.high (read_of s))
    c.args.shown.now c.loop-one.one-index c.one-item.result c.in_ok-fine.fine c.loop-one-test.true c.one-item.is
    (c.in_ok-fine.ensures hs same) c.if-not-fine.false (c.loop-one.invariant hs same)

pub returns : goal.returns
returns c = λ hs same.
    each-ends
    (λ (s : Shown). IsSentIfTaken c.args.against.names.now hs c.args.bound.binding.now c.args.dest.now c.args.span.low c.args.span.high (read_of s))
    c.args.shown.now c.loop-one.one-index c.loop-one-test.false (c.loop-one.invariant hs same)
