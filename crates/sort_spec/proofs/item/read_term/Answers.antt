use Rattle.std.proofs.Common.{◌<◌, ◌∙◌, ap, sym, arith}
use Rattle.std.proofs.lemmas.Result.{err_from_is_err_and}
use Rattle.tuple_values.specs.Document.{ByteList}
use Rattle.sort_spec.specs.Reading.{said, mapped}
use Rattle.sort_spec.specs.declared.term.SortTerm.{SortTerm}
use Rattle.sort_spec.proofs.PieceLemmas.{term_read, refused}
use Rattle.sort_spec.proofs.item.read_term.Goals as goal

pub returns-in_err-direction_end-clause-computed : goal.returns-in_err-direction_end-clause-computed
returns-in_err-direction_end-clause-computed c =
    let p = err_from_is_err_and c.from_residual.result c.from_residual.ensures.1 in
    let start = c.end_of-start.result in
    let end = c.end_of-end.result in
    let from = c.end_of-from.result in
    let some : start < end = grind arith in
    let some_gap : end < from = grind arith in
    let read =
    term_read c.args.piece.now start end from c.begins_with_d-descending.result
    c.end_of-start.ensures.end c.end_of-end.ensures.end some c.end_of-end.ensures.within
    c.end_of-from.ensures.end some_gap c.end_of-from.ensures.within
    c.begins_with_d-descending.ensures in
    rw (p.1, p.2)
    (refused _ _ _ c.in_err-direction_end.field-0.0 read c.in_err-direction_end.ensures.computed)

pub returns-clause-computed : goal.returns-clause-computed
returns-clause-computed c =
    let start = c.end_of-start.result in
    let end = c.end_of-end.result in
    let from = c.end_of-from.result in
    let some : start < end = grind arith in
    let some_gap : end < from = grind arith in
    let descending = c.begins_with_d-descending.result in
    let read =
    term_read c.args.piece.now start end from descending
    c.end_of-start.ensures.end c.end_of-end.ensures.end some c.end_of-end.ensures.within
    c.end_of-from.ensures.end some_gap c.end_of-from.ensures.within
    c.begins_with_d-descending.ensures in
    let term : ByteList → SortTerm = λ field. record { field = field; descending = descending } in
    read
    ∙ ap (mapped _) c.in_ok-direction_end.ensures.computed
    ∙ ap (λ field. said (term field)) (sym (c.in_ok-field.ensures ∙ c.range.ensures.value))
