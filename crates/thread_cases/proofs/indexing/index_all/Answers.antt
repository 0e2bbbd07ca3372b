use Rattle.std.proofs.Common.{refl, ◌∙◌}
use Rattle.running_site.specs.Passes.{writer_of}
use Rattle.running_site.specs.Sites.{layout_at}
use Rattle.site_threads.specs.Work.{IsUpdateOf}
use Rattle.site_threads.proofs.WorkLemmas.{work-join, work-none}
use Rattle.thread_cases.specs.Serving.{name_of}
use Rattle.thread_cases.proofs.WorkLemmas.{updates-of}
use Rattle.thread_cases.proofs.indexing.index_all.Goals as goal

pub returns-in_default-clause-work : goal.returns-in_default-clause-work
returns-in_default-clause-work g c =
    work-none (layout_at c.args.site.now) (IsUpdateOf (name_of c.args.number))
    (writer_of c.args.pass.now)

pub loop-k-init : goal.loop-k-init
loop-k-init g c = record {
  own = c.requires;
  number = refl;
  work = work-none (layout_at c.args.site.now) (IsUpdateOf (name_of c.args.number))
      (writer_of c.args.pass.now);
}

pub returns-in_err-writes-clause-work : goal.returns-in_err-writes-clause-work
returns-in_err-writes-clause-work g c = c.loop-k.invariant.work

pub returns-in_err-count-clause-work : goal.returns-in_err-count-clause-work
returns-in_err-count-clause-work g c =
    let l = layout_at c.args.site.now in
    let mid = writer_of c.loop-k.pass in
    let new = writer_of c.index_writes.new.pass in
    work-join l (IsUpdateOf (name_of c.args.number)) (writer_of c.args.pass.now) mid new
    c.loop-k.invariant.work
    (updates-of l _ (name_of c.args.number) _ mid new c.in-Ok.ensures c.index_writes.ensures.work)

pub loop-k-preserved : goal.loop-k-preserved
loop-k-preserved g c =
    let l = layout_at c.args.site.now in
    let mid = writer_of c.loop-k.pass in
    let new = writer_of c.index_writes.new.pass in
    record {
      own = c.index_writes.ensures.own;
      number = c.index_writes.ensures.number ∙ c.loop-k.invariant.number;
      work = work-join l (IsUpdateOf (name_of c.args.number)) (writer_of c.args.pass.now) mid new
          c.loop-k.invariant.work
          (updates-of l _ (name_of c.args.number) _ mid new c.in-Ok.ensures
          c.index_writes.ensures.work);
    }

pub returns-clause-work : goal.returns-clause-work
returns-clause-work g c = c.loop-k.invariant.work
