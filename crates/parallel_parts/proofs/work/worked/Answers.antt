use denote.Param.Send.{sendable}
use Rattle.std.proofs.Common.{◌≡◌, ℕ, List, length, map, ap, ◌∙◌, arith}
use Rattle.tuple_values.specs.Document.{Doc}
use Rattle.expr_types.specs.Lists.{list_of}
use Rattle.expr_types.specs.Rules.{Collections}
use Rattle.expr_check.specs.Views.{tree_of}
use Rattle.source_streams.specs.Cuts.{documents_of}
use Rattle.source_streams.specs.Parts.{part_of}
use Rattle.parallel_parts.specs.declared.work.Job.{Job}
use Rattle.parallel_parts.proofs.SendLemmas.{cut_sync, part_sync, job_send}
use Rattle.parallel_parts.proofs.WorkLemmas.{ok_follows, gave_all, part_below, map_twice}
use Rattle.parallel_parts.proofs.work.worked.Goals as goal

pub map_vec-requires-send-J : goal.map_vec-requires-send-J
map_vec-requires-send-J g c κs within = search (job_send, sendable) depth 60 fits 20000

pub map_vec-requires-sync-F : goal.map_vec-requires-sync-F
map_vec-requires-sync-F g c κs within =
    search (cut_sync, part_sync, sendable) depth 60 fits 20000

pub map_vec-requires-after_bounds : goal.map_vec-requires-after_bounds
map_vec-requires-after_bounds g c κs bounds = λ i job h is. (
  (
    part_below (λ (j : Job). j.index) c.args.part.now.workers c.in_ok-jobs.jobs.items
        c.in_ok-jobs.ensures i job h is,
    c.requires,
  ),
  search sendable depth 60 fits 20000,
)

pub returns : goal.returns
returns g c = λ keys e.
    let docs : Collections = λ n. documents_of n c.args.cut.now in
    let all : List Doc = list_of docs (tree_of c.args.part.now.checked) in
    let part : ℕ → List Doc = λ index. part_of index c.args.part.now.workers keys all in
    let jobs = c.in_ok-jobs.jobs.items in
    let results = c.in_ok-results.results.items in
    let long : length results ≡ length jobs = omega (arith, c.in_ok-results.ensures.len) in
    ok_follows _ _
    (λ lists given.
    gave_all (λ (j : Job). part j.index) jobs lists.items results given long
    (λ at d h.
    let gives = c.in_ok-results.ensures.each at d h in record {
      job = gives.1.job;
      read = gives.1.job_is;
      gives = gives.1.call.met keys e;
    })
    ∙ map_twice (λ (j : Job). j.index) part jobs
    ∙ ap (λ (ps : List ℕ). map part ps) c.in_ok-jobs.ensures)
    c.all_given.result c.all_given.ensures
