use Rattle.running_site.specs.Passes.{writer_of}
use Rattle.running_site.specs.Sites.{layout_at}
use Rattle.site_threads.specs.declared.workers.Task.TheVariants.{Overtake}
use Rattle.site_threads.proofs.WorkLemmas.{work-join}
use Rattle.thread_cases.specs.Serving.{IsCallOf}
use Rattle.thread_cases.proofs.WorkLemmas.{overtakes-put, overtakes-run}
use Rattle.thread_cases.proofs.overtaking.overtake.Goals as goal

pub returns-in_err-put-2-clause-work : goal.returns-in_err-put-2-clause-work
returns-in_err-put-2-clause-work g c =
    let l = layout_at c.args.site.now in
    let old = writer_of c.args.pass.now in
    let one = writer_of c.put.new.pass in
    let two = writer_of c.put-2.new.pass in
    work-join l (IsCallOf Overtake) old one two (overtakes-put l old one c.put.ensures.work)
    (overtakes-put l one two c.put-2.ensures.work)

pub returns-clause-work : goal.returns-clause-work
returns-clause-work g c =
    let l = layout_at c.args.site.now in
    let P = IsCallOf Overtake in
    let old = writer_of c.args.pass.now in
    let one = writer_of c.put.new.pass in
    let two = writer_of c.put-2.new.pass in
    let new = writer_of c.deliver-stand.new.pass in
    work-join l P old two new
    (work-join l P old one two (overtakes-put l old one c.put.ensures.work)
    (overtakes-put l one two c.put-2.ensures.work))
    (overtakes-run l two new c.deliver-stand.ensures.work)
