use Rattle.parallel_parts.specs.declared.work.Job.{Job}
use Rattle.parallel_parts.proofs.WorkLemmas.{job_more}
use Rattle.parallel_parts.proofs.work.jobs_among.Goals as goal

pub loop-index-preserved : goal.loop-index-preserved
loop-index-preserved c =
    job_more (λ (j : Job). j.index) c.loop-index.jobs.items c.push.new.self.items _
    c.in_ok-push.ensures.items c.loop-index.invariant
