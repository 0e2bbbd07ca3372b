use Rattle.std.proofs.Common.{◌∙◌}
use Rattle.commit_log.specs.Disks.{IsClosed}
use Rattle.commit_log.proofs.StopLemmas.{adds-more, adds-one, cut-done, cut-stop, if-told}
use Rattle.commit_log.proofs.settling.trim.Goals as goal

pub returns-clause-done : goal.returns-clause-done
returns-clause-done g c = λ bodies e all.
    let told = cut-done bodies c.args.end all.file _ _ e c.in_ok-cut.ensures.seen all.told all.is in
    record { told = c.sync.ensures.seen ∙ told; durable = if-told _ _ _ c.in_ok-sync.ensures.durable told }

pub returns-in_err-cut-clause-any_moment : goal.returns-in_err-cut-clause-any_moment
returns-in_err-cut-clause-any_moment g c = λ bodies e all.
    let stop = cut-stop bodies c.args.end _ _ e all.leaves c.cut.ensures.stop in
    adds-one g.D.Disk.moment g.D.Disk.left_since c.args.disk.now c.cut.new.self (IsClosed bodies) _ c.cut.ensures.time stop

pub returns-in_err-sync-clause-any_moment : goal.returns-in_err-sync-clause-any_moment
returns-in_err-sync-clause-any_moment g c = λ bodies e all.
    let P = IsClosed bodies in
    let stop = cut-stop bodies c.args.end _ _ e all.leaves c.cut.ensures.stop in
    let first = adds-one g.D.Disk.moment g.D.Disk.left_since c.args.disk.now c.cut.new.self P _ c.cut.ensures.time stop in
    let second = adds-one g.D.Disk.moment g.D.Disk.left_since c.cut.new.self c.sync.new.self P _ c.sync.ensures.time (λ d left. stop d (c.sync.ensures.stop d left)) in
    adds-more g.D.Disk.moment g.D.Disk.left_since _ _ _ P first second

pub returns-clause-any_moment : goal.returns-clause-any_moment
returns-clause-any_moment g c = λ bodies e all.
    let P = IsClosed bodies in
    let stop = cut-stop bodies c.args.end _ _ e all.leaves c.cut.ensures.stop in
    let first = adds-one g.D.Disk.moment g.D.Disk.left_since c.args.disk.now c.cut.new.self P _ c.cut.ensures.time stop in
    let second = adds-one g.D.Disk.moment g.D.Disk.left_since c.cut.new.self c.sync.new.self P _ c.sync.ensures.time (λ d left. stop d (c.sync.ensures.stop d left)) in
    adds-more g.D.Disk.moment g.D.Disk.left_since _ _ _ P first second
