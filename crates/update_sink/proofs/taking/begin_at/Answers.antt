use Rattle.std.proofs.Common.{refl, sym, ap, ◌∙◌, subst}
use Rattle.std.specs.Prelude.{List, ℕ, replicate}
use Rattle.topic_book.specs.Fitness.{shards_of}
use Rattle.exchange_rules.specs.Calls.{Completed, HasAppended}
use Rattle.exchange_rules.specs.Courses.{Course, ends}
use Rattle.exchange_rules.proofs.AppendedLemmas.{appended_none}
use Rattle.exchange_rules.proofs.StepLemmas.{look_none}
use Rattle.stream_site.proofs.TestLemmas.{handed_on}
use Rattle.update_sink.proofs.taking.begin_at.Goals as goal

pub returns-in_err-init-clause-course : goal.returns-in_err-init-clause-course
returns-in_err-init-clause-course g c =
    let w = g.T.Turns.writer c.args.site.now in
    let shards = shards_of (g.T.Turns.layout c.args.site.now).names c.args.src.now in
    let course : Course (List ℕ) = ends (replicate shards c.args.version) in
    handed_on (Completed w w course) _ _ c.from_residual.ensures.1 (look_none w w course refl)

pub returns-clause-course : goal.returns-clause-course
returns-clause-course g c =
    let w = g.T.Turns.writer c.args.site.now in
    let src = c.args.src.now in
    let shards = shards_of (g.T.Turns.layout c.args.site.now).names src in
    let all = replicate shards c.args.version in
    let course : Course (List ℕ) = ends all in
    let is = c.in_ok-init.ensures
    ∙ ap (λ n. replicate n c.args.version)
    (c.shards_of.ensures ∙ (ap (λ s. shards_of c.names.result.now s) c.as_str.ensures
    ∙ ap (λ ns. shards_of ns src) c.names.ensures.names)) in
    subst (λ l. HasAppended w w course (ends l) 0) (sym is) (appended_none w course)
