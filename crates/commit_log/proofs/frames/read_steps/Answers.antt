use Rattle.std.proofs.Common.{◌-◌, List, length, sym, subst}
use Rattle.commit_log.specs.Steps.{Step}
use Rattle.commit_log.specs.Files.{IsReadTo}
use Rattle.commit_log.proofs.StepLemmas.{read-next}
use Rattle.commit_log.proofs.frames.read_steps.Goals as goal

pub loop-steps-preserved : goal.loop-steps-preserved
loop-steps-preserved c =
    let stands = rw c.in-Step.is at c.in_ok-next_step.ensures in
    subst (λ (l : List Step). IsReadTo c.args.bytes.now c.in-Step.after.now l (length c.args.bytes.now - length c.in-Step.after.now)) (sym c.in_ok-push-in-Step.ensures.ok)
    (read-next c.args.bytes.now c.loop-steps.rest.now c.in-Step.after.now c.in-Step.step c.loop-steps.steps c.loop-steps.invariant stands.0 stands.1)
