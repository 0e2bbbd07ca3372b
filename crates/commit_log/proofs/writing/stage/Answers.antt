use Rattle.std.proofs.Common.{◌≡◌, ℕ, List, refl, ◌∙◌}
use Rattle.commit_log.specs.Frames.{at_rest, closed, end_of}
use Rattle.commit_log.specs.Disks.{Has, HasAll, IsClosed}
use Rattle.commit_log.proofs.StopLemmas.{adds-more, adds-one, behind-done, behind-failed, behind-stop, on-err}
use Rattle.commit_log.proofs.writing.stage.Goals as goal

pub returns-in_err-write_at-clause-failed : goal.returns-in_err-write_at-clause-failed
returns-in_err-write_at-clause-failed g c =
    let fact : (bodies : List (List ℕ)) → c.args.end ≡ end_of bodies → Has g.D.Disk.seen g.D.Disk.may_leave c.args.disk.now (at_rest bodies) → HasAll g.D.Disk.seen g.D.Disk.may_leave (IsClosed bodies) c.write_at.new.self = λ bodies e at.
    let told = behind-failed bodies c.args.end c.args.piece.now _ _ e c.in_err-write_at.ensures.failed at.told in
    record {
      file = told.0;
      told = told.1;
      is = told.2;
      leaves = behind-stop bodies c.args.end c.args.piece.now _ _ e at.durable c.write_at.ensures.stop;
    } in
    on-err _ _ fact

pub returns-in_err-write_at-clause-any_moment : goal.returns-in_err-write_at-clause-any_moment
returns-in_err-write_at-clause-any_moment g c = λ bodies e at.
    let stop = behind-stop bodies c.args.end c.args.piece.now _ _ e at.durable c.write_at.ensures.stop in
    adds-one g.D.Disk.moment g.D.Disk.left_since c.args.disk.now c.write_at.new.self (IsClosed bodies) _ c.write_at.ensures.time stop

pub returns-in_err-sync-clause-failed : goal.returns-in_err-sync-clause-failed
returns-in_err-sync-clause-failed g c =
    let fact : (bodies : List (List ℕ)) → c.args.end ≡ end_of bodies → Has g.D.Disk.seen g.D.Disk.may_leave c.args.disk.now (at_rest bodies) → HasAll g.D.Disk.seen g.D.Disk.may_leave (IsClosed bodies) c.sync.new.self = λ bodies e at.
    let told = behind-done bodies c.args.end c.args.piece.now _ _ e c.in_ok-write_at.ensures.seen at.told in
    let stop = behind-stop bodies c.args.end c.args.piece.now _ _ e at.durable c.write_at.ensures.stop in
    record {
      file = closed bodies c.args.piece.now;
      told = c.sync.ensures.seen ∙ told;
      is = (c.args.piece.now, refl);
      leaves = λ d left. stop d (c.sync.ensures.stop d left);
    } in
    on-err _ _ fact

pub returns-in_err-sync-clause-any_moment : goal.returns-in_err-sync-clause-any_moment
returns-in_err-sync-clause-any_moment g c = λ bodies e at.
    let P = IsClosed bodies in
    let stop = behind-stop bodies c.args.end c.args.piece.now _ _ e at.durable c.write_at.ensures.stop in
    let first = adds-one g.D.Disk.moment g.D.Disk.left_since c.args.disk.now c.write_at.new.self P _ c.write_at.ensures.time stop in
    let second = adds-one g.D.Disk.moment g.D.Disk.left_since c.write_at.new.self c.sync.new.self P _ c.sync.ensures.time (λ d left. stop d (c.sync.ensures.stop d left)) in
    adds-more g.D.Disk.moment g.D.Disk.left_since _ _ _ P first second

pub returns-clause-any_moment : goal.returns-clause-any_moment
returns-clause-any_moment g c = λ bodies e at.
    let P = IsClosed bodies in
    let stop = behind-stop bodies c.args.end c.args.piece.now _ _ e at.durable c.write_at.ensures.stop in
    let first = adds-one g.D.Disk.moment g.D.Disk.left_since c.args.disk.now c.write_at.new.self P _ c.write_at.ensures.time stop in
    let second = adds-one g.D.Disk.moment g.D.Disk.left_since c.write_at.new.self c.sync.new.self P _ c.sync.ensures.time (λ d left. stop d (c.sync.ensures.stop d left)) in
    adds-more g.D.Disk.moment g.D.Disk.left_since _ _ _ P first second
