use Rattle.std.proofs.Common.{◌≡◌}
use Rattle.running_site.specs.Passes.{number_of, writer_of}
use Rattle.running_site.specs.Sites.{layout_at, IsPassAt}
use Rattle.site_threads.specs.Work.{HasWorked, IsUpdateOf}
use Rattle.thread_cases.specs.Serving.{name_of}
use Rattle.thread_cases.proofs.indexing.index_all.Given as goal

-- the pass is of the same site, has its number, and updated the collection
abbrev pub invariant-loop-k : goal.invariant-loop-k
invariant-loop-k g l = record {
  own : IsPassAt l.site l.pass;
  number : number_of l.pass ≡ number_of l.fn.pass;
  work : HasWorked (layout_at l.site) (IsUpdateOf (name_of l.number)) (writer_of l.fn.pass)
      (writer_of l.pass);
}
