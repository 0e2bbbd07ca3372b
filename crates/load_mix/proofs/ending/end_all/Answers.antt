use Rattle.std.proofs.Common.{◌≡◌, ◌++◌, [], ◌∷◌, sym, subst, ◌∙◌}
use Rattle.std.specs.List.{AllZip}
use Rattle.std.proofs.lemmas.Iterator.Adapters.{YieldsList-from_vec}
use Rattle.std.proofs.lemmas.Iterator.Consumers.{YieldsList-end, YieldsList-turn}
use Rattle.std.proofs.lemmas.List.{map-id}
use Rattle.load_mix.specs.Workers.{IsEnded, IsWorkerAt}
use Rattle.load_mix.proofs.WorkerLemmas.{zip-push}
use Rattle.load_mix.proofs.ending.end_all.Goals as goal

pub loop-worker-init : goal.loop-worker-init
loop-worker-init g c =
    subst (AllZip (IsEnded c.args.site.now) []) (sym c.new-passes.ensures) tt

pub end_worker-requires-clause-own : goal.end_worker-requires-clause-own
end_worker-requires-clause-own g c κs within =
    let workers = c.args.workers in
    let given = c.into_iter-worker-iterator.ensures.into_iter_gives in
    let t = YieldsList-turn (YieldsList-from_vec workers.items given.0 (given.1 ∙ workers.ok.0))
    c.loop-worker.yielded c.loop-worker.worker-iterator c.loop-worker.yielded_by c.next.result
    c.next.new.self c.in-Some.worker c.in-Some.is c.next.ensures.steps in
    subst (IsWorkerAt c.args.site.now) (sym t.1) (c.requires.own _ c.in-Some.worker t.0)

pub loop-worker-preserved : goal.loop-worker-preserved
loop-worker-preserved g c =
    let R = IsEnded c.args.site.now in
    subst (AllZip R (c.loop-worker.yielded ++ c.in-Some.worker ∷ [])) (sym c.in_ok-push.ensures.ok)
    (zip-push R c.loop-worker.yielded c.loop-worker.passes c.in-Some.worker
    c.in_ok-end_worker.field-0 c.loop-worker.invariant c.in_ok-end_worker.ensures)

pub returns : goal.returns
returns g c =
    let workers = c.args.workers in
    let given = c.into_iter-worker-iterator.ensures.into_iter_gives in
    let t = YieldsList-end (YieldsList-from_vec workers.items given.0 (given.1 ∙ workers.ok.0))
    c.loop-worker.yielded c.loop-worker.worker-iterator c.loop-worker.yielded_by c.next.result
    c.next.new.self c.in-None.is c.next.ensures.steps in
    let all : c.loop-worker.yielded ≡ workers.items = sym (map-id c.loop-worker.yielded) ∙ t.0 in
    subst (λ ws. AllZip (IsEnded c.args.site.now) ws c.loop-worker.passes) all
    c.loop-worker.invariant
