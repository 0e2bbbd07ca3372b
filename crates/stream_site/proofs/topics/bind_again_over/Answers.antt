use Rattle.std.proofs.Common.{refl, sym, ◌∙◌}
use Rattle.exchange_rules.specs.Bindings.{bind_again, book_seen}
use Rattle.exchange_rules.specs.Calls.{Passed}
use Rattle.exchange_rules.proofs.StepLemmas.{nothing_done}
use Rattle.stream_site.proofs.TestLemmas.{handed_on}
use Rattle.stream_site.proofs.TopicLemmas.{again_alike, again_taken}
use Rattle.stream_site.proofs.topics.bind_again_over.Goals as goal

pub returns-then-is_alike : goal.returns-then-is_alike
returns-then-is_alike g c =
    again_alike (g.T.Turns.writer c.args.site.now) c.args.key.now c.args.binding.now
    c.args.kept.now (book_seen (g.T.Turns.layout c.args.site.now) (g.T.Turns.writer c.args.site.now))
    c.in_ok-upto.upto (sym c.is_alike.ensures.test ∙ c.if-is_alike.true) c.in_ok-upto.ensures

pub returns-in_err-upto : goal.returns-in_err-upto
returns-in_err-upto g c =
    let w = g.T.Turns.writer c.args.site.now in
    let course = bind_again c.args.key.now c.args.binding.now
    (book_seen (g.T.Turns.layout c.args.site.now) w) c.args.kept.now in
    handed_on (Passed 0 w w course 0) _ _ c.from_residual.ensures.1 (nothing_done 0 w w course refl)

pub returns : goal.returns
returns g c =
    again_taken (g.T.Turns.writer c.args.site.now) c.args.key.now c.args.binding.now
    c.args.kept.now c.in_ok-kept.kept
    (book_seen (g.T.Turns.layout c.args.site.now) (g.T.Turns.writer c.args.site.now))
    (sym c.is_alike.ensures.test ∙ c.if-is_alike.false) c.in_ok-kept.ensures

pub returns-in_err-kept : goal.returns-in_err-kept
returns-in_err-kept g c =
    let w = g.T.Turns.writer c.args.site.now in
    let course = bind_again c.args.key.now c.args.binding.now
    (book_seen (g.T.Turns.layout c.args.site.now) w) c.args.kept.now in
    handed_on (Passed 0 w w course 0) _ _ c.from_residual-in_err-kept.ensures.1 (nothing_done 0 w w course refl)
