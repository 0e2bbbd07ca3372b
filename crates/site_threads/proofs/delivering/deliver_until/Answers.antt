use Rattle.std.proofs.Common.{◌∙◌}
use Rattle.running_site.specs.Passes.{writer_of}
use Rattle.running_site.specs.Sites.{layout_at}
use Rattle.site_threads.specs.Work.{IsRun}
use Rattle.site_threads.proofs.WorkLemmas.{work-join}
use Rattle.site_threads.proofs.delivering.deliver_until.Goals as goal

pub returns-in_err-count-clause-work : goal.returns-in_err-count-clause-work
returns-in_err-count-clause-work g c =
    work-join (layout_at c.args.site.now) IsRun
    (writer_of c.args.pass.now) (writer_of c.loop.pass) (writer_of c.read_by.new.pass)
    c.loop.invariant.work c.read_by.ensures.work

pub loop-preserved : goal.loop-preserved
loop-preserved g c = record {
  own = c.read_by.ensures.own;
  number = c.read_by.ensures.number ∙ c.loop.invariant.number;
  work = work-join (layout_at c.args.site.now) IsRun
      (writer_of c.args.pass.now) (writer_of c.loop.pass) (writer_of c.read_by.new.pass)
      c.loop.invariant.work c.read_by.ensures.work;
}
