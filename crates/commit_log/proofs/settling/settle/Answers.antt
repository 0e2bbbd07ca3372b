use Rattle.std.proofs.Common.{inl, inr, refl}
use Rattle.commit_log.specs.Frames.{closed}
use Rattle.commit_log.specs.Disks.{HasAll, IsClosed, IsGated}
use Rattle.commit_log.proofs.StopLemmas.{adds-more, adds-one, adds-weaker}
use Rattle.commit_log.proofs.settling.settle.Goals as goal

pub returns-in_err-trim-clause-any_moment : goal.returns-in_err-trim-clause-any_moment
returns-in_err-trim-clause-any_moment g c = λ bodies body e all.
    let no = (c.in_ok-gate.ensures.says bodies body e all).1 c.if-branch.false in
    let now : HasAll g.D.Disk.seen g.D.Disk.may_leave (IsClosed bodies) c.gate.new.disk = record { file = closed bodies no.0; told = no.1.told; is = (no.0, refl); leaves = λ d left. (no.0, no.1.durable d left) } in
    let second = adds-weaker g.D.Disk.moment g.D.Disk.left_since _ _ (IsClosed bodies) (IsGated bodies body) (c.trim.ensures.any_moment bodies e now) (λ d is. inl is) in
    adds-more g.D.Disk.moment g.D.Disk.left_since _ _ _ (IsGated bodies body) (c.gate.ensures.any_moment bodies body all) second

pub returns-clause-any_moment : goal.returns-clause-any_moment
returns-clause-any_moment g c = λ bodies body e all.
    let no = (c.in_ok-gate.ensures.says bodies body e all).1 c.if-branch.false in
    let now : HasAll g.D.Disk.seen g.D.Disk.may_leave (IsClosed bodies) c.gate.new.disk = record { file = closed bodies no.0; told = no.1.told; is = (no.0, refl); leaves = λ d left. (no.0, no.1.durable d left) } in
    let second = adds-weaker g.D.Disk.moment g.D.Disk.left_since _ _ (IsClosed bodies) (IsGated bodies body) (c.trim.ensures.any_moment bodies e now) (λ d is. inl is) in
    adds-more g.D.Disk.moment g.D.Disk.left_since _ _ _ (IsGated bodies body) (c.gate.ensures.any_moment bodies body all) second

pub returns-in_err-gate-clause-any_moment : goal.returns-in_err-gate-clause-any_moment
returns-in_err-gate-clause-any_moment g c = λ bodies body e all. c.gate.ensures.any_moment bodies body all

pub returns-in_err-sync-clause-any_moment : goal.returns-in_err-sync-clause-any_moment
returns-in_err-sync-clause-any_moment g c = λ bodies body e all.
    let P = IsGated bodies body in
    let yes = (c.in_ok-gate.ensures.says bodies body e all).0 c.if-branch.true in
    let second = adds-one g.D.Disk.moment g.D.Disk.left_since c.gate.new.disk c.sync.new.self P _ c.sync.ensures.time (λ d left. inr (yes.durable d (c.sync.ensures.stop d left))) in
    adds-more g.D.Disk.moment g.D.Disk.left_since _ _ _ P (c.gate.ensures.any_moment bodies body all) second

pub returns-then-branch-clause-any_moment : goal.returns-then-branch-clause-any_moment
returns-then-branch-clause-any_moment g c = λ bodies body e all.
    let P = IsGated bodies body in
    let yes = (c.in_ok-gate.ensures.says bodies body e all).0 c.if-branch.true in
    let second = adds-one g.D.Disk.moment g.D.Disk.left_since c.gate.new.disk c.sync.new.self P _ c.sync.ensures.time (λ d left. inr (yes.durable d (c.sync.ensures.stop d left))) in
    adds-more g.D.Disk.moment g.D.Disk.left_since _ _ _ P (c.gate.ensures.any_moment bodies body all) second
