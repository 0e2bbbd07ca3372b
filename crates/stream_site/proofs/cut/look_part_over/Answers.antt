use Rattle.std.proofs.Common.{◌++◌, ◌∷◌, [], refl}
use Rattle.exchange_rules.specs.Calls.{Completed}
use Rattle.exchange_rules.specs.Cells.{history_in}
use Rattle.exchange_rules.specs.Courses.{ends, looks}
use Rattle.exchange_rules.specs.Rows.{part_of}
use Rattle.exchange_rules.proofs.StepLemmas.{look_begun}
use Rattle.stream_site.proofs.CutLemmas.{part_looked}
use Rattle.stream_site.proofs.RefusalLemmas.{unseen_stopped}
use Rattle.stream_site.proofs.TestLemmas.{handed_on}
use Rattle.stream_site.proofs.cut.look_part_over.Goals as goal

pub returns-in_err-look-clause-course : goal.returns-in_err-look-clause-course
returns-in_err-look-clause-course g c =
    let at = c.args.at.now in
    handed_on (Completed (g.T.Turns.writer c.args.site.now) (g.T.Turns.writer c.look.new.self)
    (looks at.cell (λ log. ends
    (c.args.cut ++ part_of at.collection.now at.shard (history_in log) ∷ []))))
    _ _ c.from_residual.ensures.1
    (unseen_stopped (g.T.Turns.writer c.args.site.now) (g.T.Turns.writer c.args.site.now)
    (g.T.Turns.writer c.look.new.self) _ at.cell _ refl c.in_err-look.ensures.err)

pub returns-in_err-snapshot-clause-course : goal.returns-in_err-snapshot-clause-course
returns-in_err-snapshot-clause-course g c =
    let at = c.args.at.now in
    handed_on (Completed (g.T.Turns.writer c.args.site.now) (g.T.Turns.writer c.look.new.self)
    (looks at.cell (λ log. ends
    (c.args.cut ++ part_of at.collection.now at.shard (history_in log) ∷ []))))
    _ _ c.from_residual-in_err-snapshot.ensures.1
    (look_begun (g.T.Turns.writer c.args.site.now) (g.T.Turns.writer c.look.new.self) at.cell _
    c.requires.seen c.in_ok-look.ensures.ok)

pub returns-in_err-cut-clause-course : goal.returns-in_err-cut-clause-course
returns-in_err-cut-clause-course g c =
    let at = c.args.at.now in
    handed_on (Completed (g.T.Turns.writer c.args.site.now) (g.T.Turns.writer c.look.new.self)
    (looks at.cell (λ log. ends
    (c.args.cut ++ part_of at.collection.now at.shard (history_in log) ∷ []))))
    _ _ c.from_residual-in_err-cut.ensures.1
    (look_begun (g.T.Turns.writer c.args.site.now) (g.T.Turns.writer c.look.new.self) at.cell _
    c.requires.seen c.in_ok-look.ensures.ok)

pub returns-clause-course : goal.returns-clause-course
returns-clause-course g c =
    let at = c.args.at.now in
    part_looked (g.T.Turns.writer c.args.site.now) (g.T.Turns.writer c.look.new.self)
    at.collection.now at.shard at.cell c.args.cut c.in_ok-cut.cut c.in_ok-snapshot.snapshot
    c.requires.seen c.in_ok-look.ensures.ok c.in_ok-snapshot.ensures c.in_ok-cut.ensures
