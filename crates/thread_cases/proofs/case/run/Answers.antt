use Rattle.std.proofs.Common.{map, ap, sym, ◌∙◌, subst}
use Rattle.std.specs.Prelude.{All}
use Rattle.site_threads.specs.Workers.{number_in, IsWorkerAt}
use Rattle.thread_cases.proofs.PassLemmas.{served-numbers, served-own, written}
use Rattle.thread_cases.proofs.case.run.Goals as goal

pub end-requires-clause-own : goal.end-requires-clause-own
end-requires-clause-own g c =
    let new = c.serve_all.new.workers in
    subst (All (IsWorkerAt c.in_ok-site.site))
    (sym (written c.in_ok-site.workers.len new _ (c.serve_all.ensures.count ∙ c.as_mut_slice.ensures.len)))
    (served-own c.in_ok-site.site c.as_mut_slice.result.now new c.serve_all.ensures.count
    c.serve_all.ensures.each)

pub end-requires-clause-numbers : goal.end-requires-clause-numbers
end-requires-clause-numbers g c =
    let new = c.serve_all.new.workers in
    ap (map number_in) (written c.in_ok-site.workers.len new _ (c.serve_all.ensures.count ∙ c.as_mut_slice.ensures.len))
    ∙ (served-numbers c.in_ok-site.site c.as_mut_slice.result.now new c.serve_all.ensures.count
    c.serve_all.ensures.each
    ∙ (ap (map number_in) c.as_mut_slice.ensures.value ∙ c.in_ok-site.ensures.numbers))
