use Rattle.commit_log.proofs.StepLemmas.{stands-unread, unread-step}
use Rattle.commit_log.proofs.frames.framed_step.Goals as goal

pub returns-in_default : goal.returns-in_default
returns-in_default c = unread-step c.args.tail.now c.in_default.ensures.none

pub returns-in-None : goal.returns-in-None
returns-in-None c =
    let split = c.in-Some.ensures.some in
    let none = rw c.in-None.is at c.in_ok-step.ensures.none in
    stands-unread c.in-Some.body.now c.in-Some.after.now c.args.tail.now split.0 split.1 none
