use Rattle.std.proofs.Common.{refl}
use Rattle.running_site.specs.Passes.{writer_of}
use Rattle.running_site.specs.Sites.{layout_at}
use Rattle.site_threads.specs.Work.{commit, index, IsUpdateBy}
use Rattle.site_threads.proofs.WorkLemmas.{answered-begins, work-join, work-one}
use Rattle.site_threads.proofs.indexing.index_writes.Goals as goal

pub returns-in_err-count-clause-work : goal.returns-in_err-count-clause-work
returns-in_err-count-clause-work g c =
    let l = layout_at c.args.site.now in
    let name = c.args.collection.now in
    let writes = c.args.writes in
    let old = writer_of c.args.pass.now in
    let mid = writer_of c.index.new.pass in
    work-one l (IsUpdateBy name writes) old mid (index name writes) (refl, refl)
    (answered-begins old mid _ c.index.result c.index.ensures.course)

pub returns-in_err-ok-clause-work : goal.returns-in_err-ok-clause-work
returns-in_err-ok-clause-work g c =
    let l = layout_at c.args.site.now in
    let name = c.args.collection.now in
    let writes = c.args.writes in
    let P = IsUpdateBy name writes in
    let old = writer_of c.args.pass.now in
    let mid = writer_of c.index.new.pass in
    let new = writer_of c.commit_all.new.pass in
    work-join l P old mid new
    (work-one l P old mid (index name writes) (refl, refl)
    (answered-begins old mid _ c.index.result c.index.ensures.course))
    (work-one l P mid new (commit name) refl
    (answered-begins mid new _ c.commit_all.result c.commit_all.ensures.course))

pub returns-clause-work : goal.returns-clause-work
returns-clause-work g c =
    let l = layout_at c.args.site.now in
    let name = c.args.collection.now in
    let writes = c.args.writes in
    let P = IsUpdateBy name writes in
    let old = writer_of c.args.pass.now in
    let mid = writer_of c.index.new.pass in
    let new = writer_of c.commit_all.new.pass in
    work-join l P old mid new
    (work-one l P old mid (index name writes) (refl, refl)
    (answered-begins old mid _ c.index.result c.index.ensures.course))
    (work-one l P mid new (commit name) refl
    (answered-begins mid new _ c.commit_all.result c.commit_all.ensures.course))
