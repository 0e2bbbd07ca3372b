use Rattle.commit_log.specs.Stops.{KeepsSteps}
use Rattle.commit_log.proofs.StopLemmas.{leaves-only}
use Rattle.commit_log.proofs.log.Log.attach.Goals as goal

pub returns-in-Ok-clause-any_moment : goal.returns-in-Ok-clause-any_moment
returns-in-Ok-clause-any_moment g c = λ file steps is f leaves.
    let old = c.args.disk in
    let law = g.met.D.Disk.only_now old in
    leaves-only g.D.Disk.moment g.D.Disk.left_since old c.open.new.disk (KeepsSteps steps) (c.open.ensures.any_moment file steps is f leaves) (λ d left. leaves d (law d left))

pub returns-in-Err-clause-any_moment : goal.returns-in-Err-clause-any_moment
returns-in-Err-clause-any_moment g c = λ file steps is f leaves.
    let old = c.args.disk in
    let law = g.met.D.Disk.only_now old in
    leaves-only g.D.Disk.moment g.D.Disk.left_since old c.open.new.disk (KeepsSteps steps) (c.open.ensures.any_moment file steps is f leaves) (λ d left. leaves d (law d left))
