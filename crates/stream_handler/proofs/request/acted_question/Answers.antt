use Rattle.std.proofs.Common.{ℕ, List, ap, sym, ◌∙◌, Bor}
use Rattle.std.specs.Prelude.{codes, option_map}
use Rattle.form_request.specs.Params.{first_value}
use Rattle.stream_handler.proofs.RootLemmas.{action_asked, action_done, stream_asked, stream_done}
use Rattle.stream_handler.proofs.request.acted_question.Goals as goal

pub returns-in-Some-clause-course : goal.returns-in-Some-clause-course
returns-in-Some-clause-course g c =
    let params = c.args.request.now.params in
    let is = sym c.param.ensures ∙ ap (option_map (λ (s : Bor (List ℕ)). s.now)) c.in-Some.is in
    action_done (g.T.Turns.layout c.args.site.now) params (first_value (codes "action") params)
    (g.T.Turns.writer c.args.site.now) c.in-Some.action.now
    (option_map (λ (s : Bor (List ℕ)). s.now) c.param-in-Some.result) c.action_question.result
    is c.param-in-Some.ensures c.action_question.ensures

pub returns-in-Some-clause-asks : goal.returns-in-Some-clause-asks
returns-in-Some-clause-asks g c =
    let params = c.args.request.now.params in
    let is = sym c.param.ensures ∙ ap (option_map (λ (s : Bor (List ℕ)). s.now)) c.in-Some.is in
    action_asked (g.T.Turns.layout c.args.site.now) params (first_value (codes "action") params)
    c.in-Some.action.now (option_map (λ (s : Bor (List ℕ)). s.now) c.param-in-Some.result)
    c.action_question.result is c.param-in-Some.ensures c.action_question.ensures

pub returns-in-None-clause-course : goal.returns-in-None-clause-course
returns-in-None-clause-course g c =
    let params = c.args.request.now.params in
    let is = sym c.param.ensures ∙ ap (option_map (λ (s : Bor (List ℕ)). s.now)) c.in-None.is in
    stream_done (g.T.Turns.layout c.args.site.now) params (first_value (codes "action") params) _ _
    (option_map (λ (s : Bor (List ℕ)). s.now) c.param-in-None.result) c.stream_question.result
    is c.param-in-None.ensures c.stream_question.ensures.course

pub returns-in-None-clause-asks : goal.returns-in-None-clause-asks
returns-in-None-clause-asks g c =
    let params = c.args.request.now.params in
    let is = sym c.param.ensures ∙ ap (option_map (λ (s : Bor (List ℕ)). s.now)) c.in-None.is in
    stream_asked (g.T.Turns.layout c.args.site.now) params (first_value (codes "action") params)
    (option_map (λ (s : Bor (List ℕ)). s.now) c.param-in-None.result) c.stream_question.result
    is c.param-in-None.ensures c.stream_question.ensures.asks
