use Rattle.sort_spec.specs.Texts.{IsOn}
use Rattle.sort_spec.proofs.AnswerLemmas.{on_right, answers_ok, answers_only, answers_bad}
use Rattle.sort_spec.proofs.AnswerLemmas.{answers_place}
use Rattle.sort_spec.proofs.reader.read_on.Goals as goal

pub returns-clause-ok : goal.returns-clause-ok
returns-clause-ok c =
    let text = c.args.text.now in
    answers_ok IsOn text _ (on_right text) c.pairs_in.result c.pairs_in.ensures

pub returns-clause-only : goal.returns-clause-only
returns-clause-only c =
    let text = c.args.text.now in
    answers_only IsOn text _ (on_right text) c.pairs_in.result c.pairs_in.ensures

pub returns-clause-bad_sort : goal.returns-clause-bad_sort
returns-clause-bad_sort c =
    let text = c.args.text.now in
    answers_bad IsOn text _ (on_right text) c.pairs_in.result c.pairs_in.ensures

pub returns-clause-place : goal.returns-clause-place
returns-clause-place c =
    let text = c.args.text.now in
    answers_place IsOn text _ (on_right text) c.pairs_in.result c.pairs_in.ensures
