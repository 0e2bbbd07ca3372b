use Rattle.std.proofs.Common.{◌≡◌, ℕ, List, [], ◌∷◌, ◌++◌, inr, refl, ◌∙◌}
use Rattle.commit_log.specs.Frames.{at_rest, end_of, staged}
use Rattle.commit_log.specs.Disks.{Has, HasAll, IsGated}
use Rattle.commit_log.proofs.StopLemmas.{adds-more, adds-one, gate-done, gate-failed, gate-stop, if-told, on-err}
use Rattle.commit_log.proofs.writing.open_gate.Goals as goal

pub returns-in_err-write_at-clause-failed : goal.returns-in_err-write_at-clause-failed
returns-in_err-write_at-clause-failed g c =
    let fact : (bodies : List (List ℕ)) (body : List ℕ) → c.args.end ≡ end_of bodies → Has g.D.Disk.seen g.D.Disk.may_leave c.args.disk.now (staged bodies body) → HasAll g.D.Disk.seen g.D.Disk.may_leave (IsGated bodies body) c.write_at.new.self = λ bodies body e at.
    let told = gate-failed bodies body c.args.end _ _ e c.in_err-write_at.ensures.failed at.told in
    record {
      file = told.0;
      told = told.1;
      is = told.2;
      leaves = gate-stop bodies body c.args.end _ _ e at.durable c.write_at.ensures.stop;
    } in
    on-err _ _ fact

pub returns-in_err-write_at-clause-any_moment : goal.returns-in_err-write_at-clause-any_moment
returns-in_err-write_at-clause-any_moment g c = λ bodies body e at.
    let stop = gate-stop bodies body c.args.end _ _ e at.durable c.write_at.ensures.stop in
    adds-one g.D.Disk.moment g.D.Disk.left_since c.args.disk.now c.write_at.new.self (IsGated bodies body) _ c.write_at.ensures.time stop

pub returns-in_err-sync-clause-failed : goal.returns-in_err-sync-clause-failed
returns-in_err-sync-clause-failed g c =
    let fact : (bodies : List (List ℕ)) (body : List ℕ) → c.args.end ≡ end_of bodies → Has g.D.Disk.seen g.D.Disk.may_leave c.args.disk.now (staged bodies body) → HasAll g.D.Disk.seen g.D.Disk.may_leave (IsGated bodies body) c.sync.new.self = λ bodies body e at.
    let told = gate-done bodies body c.args.end _ _ e c.in_ok-write_at.ensures.seen at.told in
    let stop = gate-stop bodies body c.args.end _ _ e at.durable c.write_at.ensures.stop in
    record {
      file = at_rest (bodies ++ body ∷ []);
      told = c.sync.ensures.seen ∙ told;
      is = inr refl;
      leaves = λ d left. stop d (c.sync.ensures.stop d left);
    } in
    on-err _ _ fact

pub returns-in_err-sync-clause-any_moment : goal.returns-in_err-sync-clause-any_moment
returns-in_err-sync-clause-any_moment g c = λ bodies body e at.
    let P = IsGated bodies body in
    let stop = gate-stop bodies body c.args.end _ _ e at.durable c.write_at.ensures.stop in
    let first = adds-one g.D.Disk.moment g.D.Disk.left_since c.args.disk.now c.write_at.new.self P _ c.write_at.ensures.time stop in
    let second = adds-one g.D.Disk.moment g.D.Disk.left_since c.write_at.new.self c.sync.new.self P _ c.sync.ensures.time (λ d left. stop d (c.sync.ensures.stop d left)) in
    adds-more g.D.Disk.moment g.D.Disk.left_since _ _ _ P first second

pub returns-clause-stands : goal.returns-clause-stands
returns-clause-stands g c = λ bodies body e at.
    let told = gate-done bodies body c.args.end _ _ e c.in_ok-write_at.ensures.seen at.told in
    record {
      told = c.sync.ensures.seen ∙ told;
      durable = if-told _ _ _ c.in_ok-sync.ensures.durable told;
    }

pub returns-clause-any_moment : goal.returns-clause-any_moment
returns-clause-any_moment g c = λ bodies body e at.
    let P = IsGated bodies body in
    let stop = gate-stop bodies body c.args.end _ _ e at.durable c.write_at.ensures.stop in
    let first = adds-one g.D.Disk.moment g.D.Disk.left_since c.args.disk.now c.write_at.new.self P _ c.write_at.ensures.time stop in
    let second = adds-one g.D.Disk.moment g.D.Disk.left_since c.write_at.new.self c.sync.new.self P _ c.sync.ensures.time (λ d left. stop d (c.sync.ensures.stop d left)) in
    adds-more g.D.Disk.moment g.D.Disk.left_since _ _ _ P first second
