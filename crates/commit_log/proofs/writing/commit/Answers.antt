use Rattle.std.proofs.Common.{inl}
use Rattle.commit_log.specs.Disks.{IsClosed, IsGated}
use Rattle.commit_log.proofs.StopLemmas.{adds-more, adds-weaker}
use Rattle.commit_log.proofs.writing.commit.Goals as goal

pub returns-in_err-stage-clause-any_moment : goal.returns-in_err-stage-clause-any_moment
returns-in_err-stage-clause-any_moment g c = λ bodies body e p at.
    adds-weaker g.D.Disk.moment g.D.Disk.left_since _ _ (IsClosed bodies) (IsGated bodies body) (c.stage.ensures.any_moment bodies e at) (λ d is. inl is)

pub returns-in_err-open_gate-clause-any_moment : goal.returns-in_err-open_gate-clause-any_moment
returns-in_err-open_gate-clause-any_moment g c = λ bodies body e p at.
    let first = adds-weaker g.D.Disk.moment g.D.Disk.left_since _ _ (IsClosed bodies) (IsGated bodies body) (c.stage.ensures.any_moment bodies e at) (λ d is. inl is) in
    let second = c.open_gate.ensures.any_moment bodies body e (c.in_ok-stage.ensures.staged bodies body e p at) in
    adds-more g.D.Disk.moment g.D.Disk.left_since _ _ _ (IsGated bodies body) first second

pub returns-clause-any_moment : goal.returns-clause-any_moment
returns-clause-any_moment g c = λ bodies body e p at.
    let first = adds-weaker g.D.Disk.moment g.D.Disk.left_since _ _ (IsClosed bodies) (IsGated bodies body) (c.stage.ensures.any_moment bodies e at) (λ d is. inl is) in
    let second = c.open_gate.ensures.any_moment bodies body e (c.in_ok-stage.ensures.staged bodies body e p at) in
    adds-more g.D.Disk.moment g.D.Disk.left_since _ _ _ (IsGated bodies body) first second
