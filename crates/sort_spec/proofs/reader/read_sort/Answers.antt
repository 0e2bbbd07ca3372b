use Rattle.sort_spec.specs.Texts.{IsSort}
use Rattle.sort_spec.proofs.AnswerLemmas.{sort_right, answers_ok, answers_only, answers_bad}
use Rattle.sort_spec.proofs.AnswerLemmas.{answers_place}
use Rattle.sort_spec.proofs.reader.read_sort.Goals as goal

pub returns-clause-ok : goal.returns-clause-ok
returns-clause-ok c =
    let text = c.args.text.now in
    answers_ok IsSort text _ (sort_right text) c.sort_in.result c.sort_in.ensures

pub returns-clause-only : goal.returns-clause-only
returns-clause-only c =
    let text = c.args.text.now in
    answers_only IsSort text _ (sort_right text) c.sort_in.result c.sort_in.ensures

pub returns-clause-bad_sort : goal.returns-clause-bad_sort
returns-clause-bad_sort c =
    let text = c.args.text.now in
    answers_bad IsSort text _ (sort_right text) c.sort_in.result c.sort_in.ensures

pub returns-clause-place : goal.returns-clause-place
returns-clause-place c =
    let text = c.args.text.now in
    answers_place IsSort text _ (sort_right text) c.sort_in.result c.sort_in.ensures
