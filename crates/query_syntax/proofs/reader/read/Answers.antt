use Rattle.std.proofs.Common.{refl, sym, ◌∙◌}
use Rattle.query_syntax.specs.Machine.{machine}
use Rattle.query_syntax.specs.Reading.{at_the_end}
use Rattle.query_syntax.proofs.ReadLemmas.{sticks_none}
use Rattle.query_syntax.proofs.reader.read.Goals as goal

pub returns-in-Some-clause-computed : goal.returns-in-Some-clause-computed
returns-in-Some-clause-computed c =
    let sticks = rw c.in-Some.is at c.in_ok-at.ensures in
    sticks_none c.args.text.now c.in-Some.at sticks

pub returns-in-None-clause-place : goal.returns-in-None-clause-place
returns-in-None-clause-place c =
    let ended = rw c.in_default.is at c.in_ok-at.ensures in
    at_the_end (machine c.run.new.reading) refl ended (sym c.in_ok-clauses.ensures ∙ c.in-None.is)
