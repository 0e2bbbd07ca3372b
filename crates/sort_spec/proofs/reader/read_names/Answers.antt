use Rattle.sort_spec.specs.Texts.{IsNames}
use Rattle.sort_spec.proofs.AnswerLemmas.{names_right, answers_ok, answers_only, answers_bad}
use Rattle.sort_spec.proofs.AnswerLemmas.{answers_place}
use Rattle.sort_spec.proofs.reader.read_names.Goals as goal

pub returns-clause-ok : goal.returns-clause-ok
returns-clause-ok c =
    let text = c.args.text.now in
    answers_ok IsNames text _ (names_right text) c.names_in.result c.names_in.ensures

pub returns-clause-only : goal.returns-clause-only
returns-clause-only c =
    let text = c.args.text.now in
    answers_only IsNames text _ (names_right text) c.names_in.result c.names_in.ensures

pub returns-clause-bad_sort : goal.returns-clause-bad_sort
returns-clause-bad_sort c =
    let text = c.args.text.now in
    answers_bad IsNames text _ (names_right text) c.names_in.result c.names_in.ensures

pub returns-clause-place : goal.returns-clause-place
returns-clause-place c =
    let text = c.args.text.now in
    answers_place IsNames text _ (names_right text) c.names_in.result c.names_in.ensures
