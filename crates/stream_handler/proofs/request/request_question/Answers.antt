use Rattle.std.proofs.Common.{◌≡◌, ◌<◌, ap, sym, ◌∙◌, arith}
use Rattle.std.proofs.lemmas.Result.{err_from_is_err_and}
use Rattle.topic_book.specs.Fitness.{shards_of}
use Rattle.stream_handler.specs.Requests.{request_course}
use Rattle.stream_handler.proofs.CarriedLemmas.{nothing_carried, unknown_told}
use Rattle.stream_handler.proofs.RootLemmas.{known_asked, known_carried, unknown_asked}
use Rattle.stream_handler.proofs.request.request_question.Goals as goal

pub returns-in_err-outcome-clause-course : goal.returns-in_err-outcome-clause-course
returns-in_err-outcome-clause-course g c =
    let l = g.T.Turns.layout c.args.site.now in
    let r = err_from_is_err_and c.from_residual.result c.from_residual.ensures.1 in
    nothing_carried (g.T.Turns.writer c.args.site.now)
    (λ told. request_course l told c.args.request.now) c.from_residual.result r.0 r.1

pub returns-then-shards_of-eq0-clause-course : goal.returns-then-shards_of-eq0-clause-course
returns-then-shards_of-eq0-clause-course g c =
    let r = c.args.request.now in
    let none = ap (λ names. shards_of names r.collection) (sym c.names.ensures.names)
    ∙ ap (shards_of c.names.result.now) (sym c.as_str.ensures)
    ∙ sym c.shards_of.ensures ∙ c.if-shards_of-eq0.true in
    unknown_told (g.T.Turns.writer c.args.site.now) (g.T.Turns.layout c.args.site.now) r
    c.in_ok-outcome.outcome none c.in_ok-outcome.ensures

pub returns-then-shards_of-eq0-clause-asks : goal.returns-then-shards_of-eq0-clause-asks
returns-then-shards_of-eq0-clause-asks g c =
    let r = c.args.request.now in
    let none = ap (λ names. shards_of names r.collection) (sym c.names.ensures.names)
    ∙ ap (shards_of c.names.result.now) (sym c.as_str.ensures)
    ∙ sym c.shards_of.ensures ∙ c.if-shards_of-eq0.true in
    unknown_asked (g.T.Turns.layout c.args.site.now) r c.in_ok-outcome.outcome none

pub returns-clause-course : goal.returns-clause-course
returns-clause-course g c =
    let l = g.T.Turns.layout c.args.site.now in
    let r = c.args.request.now in
    let is : shards_of l.names r.collection ≡ c.shards_of.result =
    ap (λ names. shards_of names r.collection) (sym c.names.ensures.names)
    ∙ ap (shards_of c.names.result.now) (sym c.as_str.ensures) ∙ sym c.shards_of.ensures in
    let known : 0 < shards_of l.names r.collection = omega (arith, is, c.if-shards_of-eq0.false) in
    known_carried l r known _ _ c.handled_question.result c.handled_question.ensures.course

pub returns-clause-asks : goal.returns-clause-asks
returns-clause-asks g c =
    let l = g.T.Turns.layout c.args.site.now in
    let r = c.args.request.now in
    let is : shards_of l.names r.collection ≡ c.shards_of.result =
    ap (λ names. shards_of names r.collection) (sym c.names.ensures.names)
    ∙ ap (shards_of c.names.result.now) (sym c.as_str.ensures) ∙ sym c.shards_of.ensures in
    let known : 0 < shards_of l.names r.collection = omega (arith, is, c.if-shards_of-eq0.false) in
    known_asked l r known c.handled_question.result c.handled_question.ensures.asks
