use Rattle.std.proofs.Common.{sym, ◌∙◌}
use Rattle.law_checks.specs.Walks.{read_of}
use Rattle.law_checks.proofs.CoverageLemmas.{span-spared, span-sent}
use Rattle.law_checks.proofs.coverage.is_sent_if_taken.Goals as goal

pub returns-then-not-taken : goal.returns-then-not-taken
returns-then-not-taken c = λ hs same.
    span-spared c.args.against.names.now hs c.args.bound.binding.now c.args.dest.now c.args.span.low c.args.span.high c.args.shown
    c.in_ok-taken.taken (c.requires (read_of c.args.shown).1 ∙ sym c.in_ok-taken.ensures) c.if-not-taken.true

pub returns : goal.returns
returns c = λ hs same.
    span-sent c.args.against.names.now hs c.args.bound.binding.now c.args.dest.now c.args.span.low c.args.span.high c.args.shown
    c.in_ok-taken.taken c.is_sent.result (c.requires (read_of c.args.shown).1 ∙ sym c.in_ok-taken.ensures) c.if-not-taken.false
    c.if-shown-span.false c.if-span-shown.false (c.is_sent.ensures hs c.args.bound.binding.now same c.as_str.ensures)
