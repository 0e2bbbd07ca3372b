use Rattle.running_site.specs.Passes.{writer_of}
use Rattle.running_site.specs.Sites.{layout_at}
use Rattle.thread_cases.specs.Serving.{name_of}
use Rattle.thread_cases.proofs.WorkLemmas.{updates-of}
use Rattle.thread_cases.proofs.overtaking.put.Goals as goal

pub returns-clause-work : goal.returns-clause-work
returns-clause-work g c =
    updates-of (layout_at c.args.site.now) _ (name_of 0) _ (writer_of c.args.pass.now)
    (writer_of c.index_writes.new.pass) c.in-Ok.ensures c.index_writes.ensures.work
