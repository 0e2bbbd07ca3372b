use Rattle.std.proofs.Common.{sym, subst, arith}
use Rattle.std.specs.Prelude.{Ok}
use Rattle.exchange_rules.specs.Calls.{HasAppended, Passed}
use Rattle.exchange_rules.specs.Courses.{ends}
use Rattle.exchange_rules.proofs.AppendedLemmas.{appended_none}
use Rattle.exchange_rules.proofs.StepLemmas.{commit_some, commit_none}
use Rattle.stream_site.specs.Spots.{full_there}
use Rattle.stream_site.proofs.step.commit_unless_over.Goals as goal

pub returns-then-writes-gt0-clause-course : goal.returns-then-writes-gt0-clause-course
returns-then-writes-gt0-clause-course g c =
    let w = g.T.Turns.writer c.args.site.now in
    subst (λ p. HasAppended w w p (ends (Ok tt)) 0)
    (sym (commit_some (g.T.Turns.layout c.args.site.now).limit c.args.at.now.cell c.args.writes
    (full_there c.args.at.now) (omega arith)))
    (appended_none w (ends (Ok tt)))

pub returns-clause-course : goal.returns-clause-course
returns-clause-course g c =
    subst (λ p. Passed c.args.at.now.stand (g.T.Turns.writer c.args.site.now)
    (g.T.Turns.writer c.commit_shard_over.new.site) p 0 c.commit_shard_over.result)
    (sym (commit_none (g.T.Turns.layout c.args.site.now).limit c.args.at.now.cell c.args.writes
    (full_there c.args.at.now) (omega arith)))
    c.commit_shard_over.ensures.course
